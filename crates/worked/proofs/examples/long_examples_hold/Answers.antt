use Rattle.std.proofs.Common.{◌≡◌, ◌<◌, ◌≤◌, List, [], ◌∷◌, All, Some, refl, arith}
use Rattle.std.proofs.lemmas.List.Elements.{All-nil, All-cons}
use Rattle.kinds.specs.Capped.{top32}
use Rattle.kinds.specs.Named.{Flow, Parts}
use Rattle.kinds.proofs.FlowLaws.{flow_laws}
use Rattle.kinds.proofs.PartsLaws.{parts_laws}
use Rattle.terms.specs.declared.term.Term.{Term}
use Rattle.terms.specs.declared.term.Way.TheVariants.{Parallel}
use Rattle.diagram.specs.declared.limits.TheConstants.{TERMS}
use Rattle.diagram.specs.Histories.{Making, added, making_of, drawing_of, states_of, IsPart}
use Rattle.diagram.specs.Makings.{drawn}
use Rattle.worked.specs.Examples.{by_steps, one_each, ones, eights, nine_eights, two_joined, three_joined, NodeRow}
use Rattle.worked.proofs.Collecting.{few_combinations, accepted_with, refused_with}
use Rattle.worked.proofs.Computed.{row_by_numbers}
use Rattle.worked.proofs.examples.long_examples_hold.Goals as goal

abbrev Terms : Type 0
Terms = List (Term Flow Parts)

abbrev Nodes : Type 0
Nodes = List (Making Flow Parts)

abbrev sixty_four : Nodes
sixty_four = two_joined ones eights

abbrev seventy_two : Nodes
seventy_two = two_joined ones nine_eights

abbrev with_a_top : Nodes
with_a_top = three_joined ones nine_eights (one_each (top32 ∷ []))

sixty_four_row : NodeRow sixty_four 2 (one_each (by_steps 0 1 64))
sixty_four_row = row_by_numbers _ _ refl

seventy_two_row : NodeRow seventy_two 2 (one_each (by_steps 0 1 72))
seventy_two_row = row_by_numbers _ _ refl

two_parts : (nodes : Nodes) (a b : Terms) → making_of (drawn nodes) 0 ≡ Some (added a) → making_of (drawn nodes) 1 ≡ Some (added b) → All (IsPart (drawn nodes)) (0 ∷ 1 ∷ [])
two_parts nodes a b x y = All-cons (IsPart (drawn nodes)) 0 (1 ∷ []) (a, x) (All-cons (IsPart (drawn nodes)) 1 [] (b, y) (All-nil (IsPart (drawn nodes))))

three_parts : (nodes : Nodes) (a b c : Terms) → making_of (drawn nodes) 0 ≡ Some (added a) → making_of (drawn nodes) 1 ≡ Some (added b) → making_of (drawn nodes) 2 ≡ Some (added c) → All (IsPart (drawn nodes)) (0 ∷ 1 ∷ 2 ∷ [])
three_parts nodes a b c x y z = All-cons (IsPart (drawn nodes)) 0 (1 ∷ 2 ∷ []) (a, x) (All-cons (IsPart (drawn nodes)) 1 (2 ∷ []) (b, y) (All-cons (IsPart (drawn nodes)) 2 [] (c, z) (All-nil (IsPart (drawn nodes)))))

pub returns : goal.returns
returns c =
    let few : 64 ≤ TERMS = omega arith in
    let many : TERMS < 72 = omega arith in record {
      sixty_four_sums = sixty_four_row;
      sixty_four_terms =
          accepted_with flow_laws parts_laws (drawn sixty_four) 2 Parallel (0 ∷ 1 ∷ []) (omega arith) refl (two_parts sixty_four ones eights refl refl)
          (one_each (by_steps 0 1 64)) 64 sixty_four_row refl
          (few_combinations flow_laws parts_laws (states_of (drawn sixty_four)) (drawing_of (drawn sixty_four) 2) (few, tt));
      seventy_two_sums = seventy_two_row;
      seventy_two_terms =
          refused_with flow_laws parts_laws (drawn seventy_two) 2 Parallel (0 ∷ 1 ∷ []) (omega arith) refl (two_parts seventy_two ones nine_eights refl refl)
          (one_each (by_steps 0 1 72)) (drawing_of (drawn seventy_two) 2, (0, omega arith, refl), seventy_two_row) many;
      long_result = refl;
      at_the_top_in_the_end = row_by_numbers _ _ refl;
      too_long_on_the_way =
          refused_with flow_laws parts_laws (drawn with_a_top) 3 Parallel (0 ∷ 1 ∷ 2 ∷ []) (omega arith) refl (three_parts with_a_top ones nine_eights (one_each (top32 ∷ [])) refl refl refl)
          (one_each (by_steps 0 1 72)) (drawing_of (drawn seventy_two) 2, (0, omega arith, refl), seventy_two_row) many;
    }
