-- Child by child: the combinations of a drawing from those of its children, and its running results.
use Rattle.std.proofs.Common.{[], All, Contains, sym, refl, ◌∙◌}
use Rattle.std.proofs.lemmas.List.Elements.{All-nil, All-push, All-contains}
use Rattle.kinds.specs.declared.performance.Performance
use Rattle.kinds.specs.declared.weight.Weight
use Rattle.terms.specs.declared.term.Way.{Way}
use Rattle.terms.specs.Combinations.{joins, combinations, bridges}
use Rattle.terms.specs.Drawings.{Drawing, part, joined, bridge, Children, one, more, all_parts, all_parts_of, NoneTwice, NoPartTwice}
use Rattle.terms.specs.Stepwise.{first_ones, running_drawings}
use Rattle.terms.specs.EnumerationLaws.{OfPart, OfOne, OfMore, OfBridge, StepsFindTheRow, StepsFindRunningResults}
use Rattle.kinds.proofs.Lawful.{Kind, Weighing}
use Rattle.terms.proofs.Picks.{apart_followed}
use Rattle.terms.proofs.Stepwise.{step_by_step, five_once, worked_is_row, row_is_worked}

module _ {P W : Type 0} (kind : Performance.Ghosts P) (weights : Weight.Ghosts W) (w : Weighing weights) where
  pub of_part : OfPart kind weights
  of_part states n = step_by_step kind weights states w (part n) tt

  pub of_one : OfOne kind weights
  of_one states way d = refl

  pub of_more : OfMore kind weights
  of_more states way ds d h =
      let s = apart_followed (all_parts_of ds) (all_parts d) h in
      step_by_step kind weights states w (joined way (more ds d)) h
      ∙ sym (λ i. combinations weights (joins kind way) (step_by_step kind weights states w (joined way ds) s.0 i) (step_by_step kind weights states w d s.1 i))

  pub of_bridge : OfBridge kind weights
  of_bridge states a b c d e h =
      let o = five_once kind weights states w (all_parts a) (all_parts b) (all_parts c) (all_parts d) (all_parts e) h in
      step_by_step kind weights states w (bridge a b c d e) h
      ∙ sym (λ i. bridges kind weights (step_by_step kind weights states w a o.once_a i) (step_by_step kind weights states w b o.once_b i) (step_by_step kind weights states w c o.once_c i) (step_by_step kind weights states w d o.once_d i) (step_by_step kind weights states w e o.once_e i))

  module _ (k : Kind kind) where
    pub steps_find_the_row : StepsFindTheRow kind weights
    steps_find_the_row states d h r = (worked_is_row kind weights states w k d h r, row_is_worked kind weights states w k d h r)

    -- no part stands twice in any of the first ones

    first_ones_once : (way : Way) (ds : Children) → NoneTwice (all_parts_of ds) → All NoPartTwice (first_ones way ds)
    first_ones_once way (one d) h = All-nil NoPartTwice
    first_ones_once way (more ds d) h = All-push NoPartTwice (first_ones way ds) (joined way (more ds d)) (first_ones_once way ds (apart_followed (all_parts_of ds) (all_parts d) h).0) h

    running_once : (d : Drawing) → NoPartTwice d → All NoPartTwice (running_drawings d)
    running_once (part n) h = All-nil NoPartTwice
    running_once (joined way ds) h = first_ones_once way ds h
    running_once (bridge a b c d e) h = All-push NoPartTwice [] (bridge a b c d e) (All-nil NoPartTwice) h

    pub steps_find_running_results : StepsFindRunningResults kind weights
    steps_find_running_results states d h r =
        let once : (x : Drawing) → Contains (running_drawings d) x → NoPartTwice x = λ x m. All-contains NoPartTwice (running_drawings d) x (running_once d h) m in (
          (λ f. (f.0, f.1, (steps_find_the_row states f.0 (once f.0 f.1) r).1 f.2)),
          (λ f. (f.0, f.1, (steps_find_the_row states f.0 (once f.0 f.1) r).0 f.2)),
        )
