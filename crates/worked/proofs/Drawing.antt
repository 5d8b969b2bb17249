-- What the calls that draw the plant leave, once it is worked out: each node has the next number, and the plant the row of its drawing. None of
-- the calls is refused.
use Rattle.std.proofs.Common.{◌≡◌, ◌≢◌, ℕ, zero, suc, ◌<◌, ◌≤◌, List, [], ◌∷◌, length, Contains, Result, Ok, sym, refl, subst, inl, inr, arith}
use Rattle.kinds.specs.Named.{Parts}
use Rattle.kinds.specs.declared.performance.Performance
use Rattle.kinds.specs.contracts.parts.PartsWeight.TheImpl.{ghosts as weights}
use Rattle.kinds.proofs.Lawful.{Kind}
use Rattle.kinds.proofs.PartsLaws.{parts_laws}
use Rattle.terms.specs.declared.term.Term.{Term}
use Rattle.terms.specs.declared.term.Way.TheVariants.{Series, Parallel}
use Rattle.terms.specs.Rows.{RowOf}
use Rattle.terms.specs.Drawings.{Drawing}
use Rattle.terms.specs.Stepwise.{running_drawings, RunningResult}
use Rattle.terms.specs.Enumeration.{but, enumeration}
use Rattle.diagram.specs.declared.limits.TheConstants.{TERMS, STORE}
use Rattle.diagram.specs.declared.refusal.Refusal.{Refusal}
use Rattle.diagram.specs.declared.node.Form.TheVariants.{Joined}
use Rattle.diagram.specs.declared.diagram.Diagram.{Diagram}
use Rattle.diagram.specs.Shown.{records}
use Rattle.diagram.specs.Makings.{history_of}
use Rattle.diagram.specs.Store.{Kept, row_at}
use Rattle.diagram.specs.Calls.{Made, Added, Joins, Collected}
use Rattle.diagram.specs.Histories.{collecting, number, History, Making, added, joined_from, drawing_of, states_of, Unused, Answers}
use Rattle.diagram.specs.RightAnswers.{ResultsShort}
use Rattle.diagram.specs.Runs.{Run, start, AnswersRight}
use Rattle.diagram.proofs.CollectedSince.{since_now, since_kept}
use Rattle.diagram.proofs.Lengths.{row_no_longer}
use Rattle.diagram.proofs.Standing.{rows_stand, kept_on, added_kept, collected_kept}
use Rattle.diagram.proofs.RunGoesOn.{yes, granted, given, ok_same, both_of, apart, the_only, no_one, neither, entry, unused_on, row_told, after_adding, after_joining, after_collecting_joined}
use Rattle.worked.specs.declared.plant.Plant.{Plant}
use Rattle.worked.specs.Plants.{states, LeftByDrawing}

abbrev Terms : Type 0 → Type 0
Terms P = List (Term P Parts)

two_of : {X : Type 0} (xs : List X) → length xs ≡ 2 → (x : X) × (y : X) × (xs ≡ x ∷ y ∷ [])
two_of [] e = absurd (omega (arith, e))
two_of (x ∷ []) e = absurd (omega (arith, e))
two_of (x ∷ y ∷ []) e = (x, y, refl)
two_of (x ∷ y ∷ z ∷ zs) e = absurd (omega (arith, e))

pub below_five : (Q : ℕ → Type 0) → Q 0 → Q 1 → Q 2 → Q 3 → Q 4 → (k : ℕ) → k < 5 → Q k
below_five Q a b c d e zero l = a
below_five Q a b c d e (suc zero) l = b
below_five Q a b c d e (suc (suc zero)) l = c
below_five Q a b c d e (suc (suc (suc zero))) l = d
below_five Q a b c d e (suc (suc (suc (suc zero)))) l = e
below_five Q a b c d e (suc (suc (suc (suc (suc k))))) l = absurd (omega (arith, l))

-- each part has two states
pub record TwoEach {P : Type 0} (p : Plant P) : Type 0 where
  pub pump_a : length p.pump_a ≡ 2
  pub pump_b : length p.pump_b ≡ 2
  pub pipe : length p.pipe ≡ 2

-- the pumps are joined from nodes 0 and 1, and the plant from nodes 2 and 3
pub record Names (x y u v : ℕ) : Type 0 where
  pub first : x < 2
  pub second : y < 2
  pub pumps : x ≢ y
  pub past_third : 1 < u
  pub third : u < 4
  pub past_fourth : 1 < v
  pub fourth : v < 4
  pub plant : u ≢ v

module _ {P : Type 0} (kind : Performance.Ghosts P) (laws : Kind kind) where
  -- the row of a drawing of few combinations is short

  abbrev all_of : (ℕ → Terms P) → Drawing → Terms P
  all_of = enumeration kind weights

  -- so it is with two states of each part, if whichever they are there are few
  pub few : (d : Drawing) → ((x x' y y' z z' : Term P Parts) → length (all_of (but 0 (x ∷ x' ∷ []) (but 1 (y ∷ y' ∷ []) (λ _. z ∷ z' ∷ []))) d) ≤ TERMS) → (p : Plant P) → TwoEach p → length (all_of (states p) d) ≤ TERMS
  few d small p two =
      let a = two_of p.pump_a two.pump_a in
      let b = two_of p.pump_b two.pump_b in
      let c = two_of p.pipe two.pipe in
      subst (λ (z : Terms P × Terms P × Terms P). length (all_of (but 0 z.0 (but 1 z.1 (λ _. z.2))) d) ≤ TERMS) (λ i. (sym a.2 i, sym b.2 i, sym c.2 i)) (small a.0 a.1 b.0 b.1 c.0 c.1)

  pub short : (d : Drawing) (states : ℕ → Terms P) → running_drawings d ≡ d ∷ [] → length (all_of states d) ≤ TERMS → (row : Terms P) → RunningResult kind weights states d row → length row ≤ TERMS
  short d states one few row x =
      let is : d ≡ x.0 = the_only (subst (λ ds. Contains ds x.0) one x.1) in
      omega (arith, row_no_longer laws parts_laws (all_of states d) row (subst (λ z. RowOf kind weights (all_of states z) row) (sym is) x.2), few)

module _ {P : Type 0} (kind : Performance.Ghosts P) (laws : Kind kind) (promise : AnswersRight kind weights) (p : Plant P) (two : TwoEach p) (d0 : Diagram P Parts) (s0 : List (Term P Parts)) (new : Made records s0 (Ok d0)) where
  abbrev Nodes : Type 0
  Nodes = List (Making P Parts)

  -- so many terms are lent, and these nodes are made, the newest first
  abbrev lent : ℕ
  lent = length s0

  abbrev made_by : Nodes → History P Parts
  made_by = history_of lent

  abbrev Left : History P Parts → Diagram P Parts → Terms P → Type 0
  Left = Run kind weights

  abbrev Five : Terms P → Type 0
  Five = Kept (λ k. k < 5) s0

  roomy : STORE ≤ lent
  roomy = (given new).0

  module _
      (a b : ℕ) (d1 d2 : Diagram P Parts) (s1 s2 : Terms P)
      (add_a : Added kind weights (records d0) s0 p.pump_a (Ok a) (records d1) s1)
      (add_b : Added kind weights (records d1) s1 p.pump_b (Ok b) (records d2) s2) where
    abbrev pump_a_made : Nodes
    pump_a_made = added p.pump_a ∷ []

    abbrev pumps_made : Nodes
    pumps_made = added p.pump_b ∷ pump_a_made

    abbrev parts_made : Nodes
    parts_made = added p.pipe ∷ pumps_made

    after_one : (a ≡ 0) × Left (made_by pump_a_made) d1 s1
    after_one = let x = (given (after_adding kind weights promise lent roomy (start new) refl p.pump_a d1 s1 add_a (omega arith))).1 in (ok_same x.0, x.1)

    kept_one : Five s1
    kept_one = added_kept kind weights a (omega (arith, after_one.0)) add_a

    after_two : (b ≡ 1) × Left (made_by pumps_made) d2 s2
    after_two = let x = (given (after_adding kind weights promise lent roomy after_one.1 kept_one.as_long p.pump_b d2 s2 add_b (omega arith))).1 in (ok_same x.0, x.1)

    kept_two : Five s2
    kept_two = kept_on kept_one (added_kept kind weights b (omega (arith, after_two.0)) add_b)

    pub pipe_added : (d3 : Diagram P Parts) (s3 : Terms P) (r : Result ℕ Refusal) → Added kind weights (records d2) s2 p.pipe r (records d3) s3 → (r ≡ Ok 2) × Left (made_by parts_made) d3 s3
    pipe_added d3 s3 r x = granted (omega (arith, two.pipe), omega (arith, two.pipe)) (after_adding kind weights promise lent roomy after_two.1 kept_two.as_long p.pipe d3 s3 x (omega arith))

    module _
        (c : ℕ) (d3 : Diagram P Parts) (s3 : Terms P) (add_c : Added kind weights (records d2) s2 p.pipe (Ok c) (records d3) s3)
        (x y u v : ℕ) (names : Names x y u v) (pumps : List ℕ) (these : a ≡ 0 → b ≡ 1 → pumps ≡ x ∷ y ∷ []) where
      abbrev joined_pumps : Nodes
      joined_pumps = joined_from Parallel (x ∷ y ∷ []) ∷ parts_made

      abbrev all_nodes : Nodes
      all_nodes = joined_from Series (u ∷ v ∷ []) ∷ joined_pumps

      after_three : (c ≡ 2) × Left (made_by parts_made) d3 s3
      after_three = let z = pipe_added d3 s3 (Ok c) add_c in (ok_same z.0, z.1)

      kept_three : Five s3
      kept_three = kept_on kept_two (added_kept kind weights c (omega (arith, after_three.0)) add_c)

      no_child : (n : ℕ) → Unused (made_by parts_made) n
      no_child n =
          let first = unused_on [] n 0 (added p.pump_a) (λ k. no_one n) (no_one n) in
          unused_on (made_by pumps_made) n 2 (added p.pipe) (unused_on (made_by pump_a_made) n 1 (added p.pump_b) first (no_one n)) (no_one n)

      pub pumps_joined : (d4 : Diagram P Parts) (r : Result ℕ Refusal) → Joins kind weights (records d3) s3 (Joined Parallel) pumps r (records d4) → (r ≡ Ok 3) × Left (made_by joined_pumps) d4 s3
      pumps_joined d4 r j =
          after_joining kind weights promise lent roomy after_three.1 kept_three.as_long (omega arith) (x ∷ y ∷ []) (both_of (λ c. c < 3) (omega (arith, names.first)) (omega (arith, names.second))) (both_of (Unused (made_by parts_made)) (no_child x) (no_child y)) (apart names.pumps)
          Parallel d4 (subst (λ z. Joins kind weights (records d3) s3 (Joined Parallel) z r (records d4)) (these after_one.0 after_two.0) j) (omega arith, omega arith)

      module _
          (q : ℕ) (d4 : Diagram P Parts) (join_q : Joins kind weights (records d3) s3 (Joined Parallel) pumps (Ok q) (records d4))
          (plant : List ℕ) (those : q ≡ 3 → c ≡ 2 → plant ≡ u ∷ v ∷ []) where
        after_four : (q ≡ 3) × Left (made_by joined_pumps) d4 s3
        after_four = let z = pumps_joined d4 (Ok q) join_q in (ok_same z.0, z.1)

        no_child_now : (n : ℕ) → 1 < n → Unused (made_by joined_pumps) n
        no_child_now n past = unused_on (made_by parts_made) n 3 (joined_from Parallel (x ∷ y ∷ [])) (no_child n) (neither (λ e. omega (arith, past, names.first, e)) (λ e. omega (arith, past, names.second, e)))

        pub plant_joined : (d5 : Diagram P Parts) (r : Result ℕ Refusal) → Joins kind weights (records d4) s3 (Joined Series) plant r (records d5) → (r ≡ Ok 4) × Left (made_by all_nodes) d5 s3
        plant_joined d5 r j =
            after_joining kind weights promise lent roomy after_four.1 kept_three.as_long (omega arith) (u ∷ v ∷ []) (both_of (λ c. c < 4) (omega (arith, names.third)) (omega (arith, names.fourth)))
            (both_of (Unused (made_by joined_pumps)) (no_child_now u names.past_third) (no_child_now v names.past_fourth)) (apart names.plant)
            Series d5 (subst (λ z. Joins kind weights (records d4) s3 (Joined Series) z r (records d5)) (those after_four.0 after_three.0) j) (omega arith, omega arith)

        module _ (r : ℕ) (d5 : Diagram P Parts) (join_r : Joins kind weights (records d4) s3 (Joined Series) plant (Ok r) (records d5)) (few_pumps : ResultsShort kind weights (made_by all_nodes) 3) where
          after_five : (r ≡ 4) × Left (made_by all_nodes) d5 s3
          after_five = let z = plant_joined d5 (Ok r) join_r in (ok_same z.0, z.1)

          pump_answers : (k : ℕ) → k < 2 → Answers (made_by all_nodes) k
          pump_answers zero l = inl (p.pump_a, refl)
          pump_answers (suc zero) l = inl (p.pump_b, refl)
          pump_answers (suc (suc k)) l = absurd (omega (arith, l))

          pub pumps_collected : (d6 : Diagram P Parts) (s4 : Terms P) (o : Result ℕ Refusal) → Collected kind weights (records d5) s3 q o (records d6) s4 → (m : ℕ) × (o ≡ Ok m) × Left (entry (collecting 3) lent (Ok (number m)) ∷ made_by all_nodes) d6 s4
          pumps_collected d6 s4 o j =
              let z = granted few_pumps (after_collecting_joined kind weights promise lent roomy after_five.1 kept_three.as_long 3 (omega arith) Parallel (x ∷ y ∷ []) refl (both_of (Answers (made_by all_nodes)) (pump_answers x names.first) (pump_answers y names.second))
              d6 s4 (subst (λ k. Collected kind weights (records d5) s3 k o (records d6) s4) after_four.0 j)) in
              (length z.0, z.2.0, z.2.1)

          module _ (m : ℕ) (d6 : Diagram P Parts) (s4 : Terms P) (collect_q : Collected kind weights (records d5) s3 q (Ok m) (records d6) s4) (few_all : ResultsShort kind weights (made_by all_nodes) 4) where
            -- the calls, newest first, but for the last
            abbrev calls : History P Parts
            calls = entry (collecting 3) lent (Ok (number m)) ∷ made_by all_nodes

            after_six : Left calls d6 s4
            after_six = let z = pumps_collected d6 s4 (Ok m) collect_q in subst (λ n. Left (entry (collecting 3) lent (Ok (number n)) ∷ made_by all_nodes) d6 s4) (sym (ok_same z.1)) z.2

            kept_six : Five s4
            kept_six = kept_on kept_three (collected_kept kind weights (Ok m) (omega (arith, after_four.0)) collect_q)

            -- nodes 2 and 3 answer
            child_answers : (k : ℕ) → 1 < k → k < 4 → Answers calls k
            child_answers zero past l = absurd (omega (arith, past))
            child_answers (suc zero) past l = absurd (omega (arith, past))
            child_answers (suc (suc zero)) past l = inl (p.pipe, refl)
            child_answers (suc (suc (suc zero))) past l = inr (since_now _ _ 3 refl)
            child_answers (suc (suc (suc (suc k)))) past l = absurd (omega (arith, l))

            pub plant_collected : (d7 : Diagram P Parts) (s5 : Terms P) (o : Result ℕ Refusal) → Collected kind weights (records d6) s4 r o (records d7) s5 → (n : ℕ) × (o ≡ Ok n) × Left (entry (collecting 4) lent (Ok (number n)) ∷ calls) d7 s5
            plant_collected d7 s5 o j =
                let z = granted few_all (after_collecting_joined kind weights promise lent roomy after_six kept_six.as_long 4 (omega arith) Series (u ∷ v ∷ []) refl (both_of (Answers calls) (child_answers u names.past_third names.third) (child_answers v names.past_fourth names.fourth))
                d7 s5 (subst (λ k. Collected kind weights (records d6) s4 k o (records d7) s5) after_five.0 j)) in
                (length z.0, z.2.0, z.2.1)

            module _ (n : ℕ) (d7 : Diagram P Parts) (s5 : Terms P) (collect_r : Collected kind weights (records d6) s4 r (Ok n) (records d7) s5) where
              abbrev all_calls : History P Parts
              all_calls = entry (collecting 4) lent (Ok (number n)) ∷ calls

              after_seven : Left all_calls d7 s5
              after_seven = let z = plant_collected d7 s5 (Ok n) collect_r in subst (λ n. Left (entry (collecting 4) lent (Ok (number n)) ∷ calls) d7 s5) (sym (ok_same z.1)) z.2

              all_answer : (k : ℕ) → k < 5 → Answers all_calls k
              all_answer =
                  below_five _ (inl (p.pump_a, refl)) (inl (p.pump_b, refl)) (inl (p.pipe, refl)) (inr (since_kept _ calls 3 refl (λ p states is. absurd (cc)) (since_now _ (made_by all_nodes) 3 refl))) (inr (since_now _ calls 4 refl))

              kept_seven : Five s5
              kept_seven = kept_on kept_six (collected_kept kind weights (Ok n) (omega (arith, after_five.0)) collect_r)

              pub record Worked : Type 0 where
                pub is_a : a ≡ 0
                pub is_b : b ≡ 1
                pub is_pipe : c ≡ 2
                pub are_pumps : q ≡ 3
                pub is_plant : r ≡ 4
                pub run : Left all_calls d7 s5
                pub answers : (k : ℕ) → k < 5 → Answers all_calls k
                pub row : RowOf kind weights (all_of kind laws (states_of all_calls) (drawing_of all_calls 4)) (row_at (records d7) s5 r)
                -- the rows of these drawings stand, if they are those of the nodes
                pub left : (drawing : ℕ → Drawing) → ((k : ℕ) → k < 5 → all_of kind laws (states_of all_calls) (drawing_of all_calls k) ≡ all_of kind laws (states p) (drawing k)) → LeftByDrawing kind p drawing s0 s5

              pub worked_out : Worked
              worked_out = record {
                is_a = after_one.0;
                is_b = after_two.0;
                is_pipe = after_three.0;
                are_pumps = after_four.0;
                is_plant = after_five.0;
                run = after_seven;
                answers = all_answer;
                row = subst (λ z. RowOf kind weights (all_of kind laws (states_of all_calls) (drawing_of all_calls 4)) (row_at (records d7) s5 z)) (sym after_five.0) (row_told kind weights laws parts_laws all_calls d7 s5 4 after_seven (omega arith) (all_answer 4 (omega arith)));
                left = λ drawing same. yes roomy (rows_stand kind weights laws parts_laws all_calls d7 s0 s5 after_seven (λ k l. (omega (arith, l), all_answer k l, same k l)) kept_seven);
              }
