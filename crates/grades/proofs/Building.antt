-- The plant of two lines and a finishing step: its calls, what it makes, and that no row of grades is long.
use Rattle.std.proofs.Common.{◌≡◌, ℕ, ◌+◌, ◌<◌, ◌≤◌, List, [], ◌∷◌, length, Result, Ok, Less, ◌∙◌, refl, subst, inl, inr, arith}
use Rattle.std.proofs.lemmas.Bool.Decides.{nat_tests}
use Rattle.std.specs.Ordering.{nat_cmp}
use Rattle.terms.specs.declared.term.Term.{Term}
use Rattle.terms.specs.declared.term.Way.TheVariants.{Series, Parallel}
use Rattle.terms.specs.Combinations.{combinations}
use Rattle.terms.specs.Drawings.{Drawing, part, joined, one, more}
use Rattle.terms.specs.Enumeration.{enumeration}
use Rattle.terms.specs.Sums.{met_of, total_of}
use Rattle.terms.specs.Laws.{SummingKeeps}
use Rattle.terms.specs.EnumerationLaws.{OfPart, OfMore}
use Rattle.terms.specs.Rows.{IsRow, RowOf}
use Rattle.diagram.specs.declared.limits.TheConstants.{STORE, TERMS}
use Rattle.diagram.specs.declared.refusal.Refusal.{Refusal}
use Rattle.diagram.specs.declared.node.Form.TheVariants.{Joined}
use Rattle.diagram.specs.declared.diagram.Diagram.{Diagram}
use Rattle.diagram.specs.Shown.{records}
use Rattle.diagram.specs.Calls.{Joins, Collected, TellsAvailability}
use Rattle.diagram.specs.Histories.{added, joined_from, History, Unused, Answers, states_of}
use Rattle.diagram.specs.Runs.{Run, AnswersRight}
use Rattle.diagram.specs.Makings.{history_of}
use Rattle.diagram.proofs.RunGoesOn.{granted, both_of, apart, no_one, neither, unused_on, after_joining, after_collecting_joined, sums_told}
use Rattle.diagram.proofs.CollectedSince.{since_now}
use Rattle.grades.specs.contracts.grade_kind.GradePerformance.TheImpl.{ghosts as grade_kind}
use Rattle.grades.specs.contracts.batches_weight.BatchesWeight.TheImpl.{ghosts as batches_weight}
use Rattle.grades.specs.declared.batches.Batches.{Batches}
use Rattle.grades.specs.declared.grade.Grade.{Grade}
use Rattle.grades.specs.declared.share.Nodes.{Nodes}
use Rattle.grades.specs.GradeKind.{lower, higher}
use Rattle.grades.specs.Shares.{products}
use Rattle.grades.specs.Building.{in_order, collected, parts_made, nodes_made, worked_out}

abbrev Terms : Type 0
Terms = List (Term Grade Batches)

-- grades ascend, and so there are ten at most

less : (m n : ℕ) → nat_cmp m n ≡ Less → m < n
less m n h = grind (arith, nat_tests)

ascending : (t : Term Grade Batches) (ts : Terms) → IsRow grade_kind batches_weight (t ∷ ts) → t.performance.digit + length ts ≤ 9
ascending t [] h = omega (arith, t.performance.fits)
ascending t (u ∷ us) h = omega (arith, less t.performance.digit u.performance.digit h.1.0, ascending u us h.2)

pub few : (ts row : Terms) → RowOf grade_kind batches_weight ts row → length row ≤ TERMS
few ts [] r = omega arith
few ts (t ∷ us) r = omega (arith, ascending t us r.row)

-- the combinations of the plant

abbrev lines : Drawing
lines = joined Parallel (more (one (part 0)) (part 1))

pub all_lines : OfPart grade_kind batches_weight → OfMore grade_kind batches_weight → (states : ℕ → Terms) → enumeration grade_kind batches_weight states lines ≡ combinations batches_weight higher (states 0) (states 1)
all_lines of_part of_more states = of_more states Parallel (one (part 0)) (part 1) (refl, tt) ∙ (λ i. combinations batches_weight higher (of_part states 0 i) (of_part states 1 i))

pub all_products : OfPart grade_kind batches_weight → OfMore grade_kind batches_weight → (states : ℕ → Terms) →
    enumeration grade_kind batches_weight states (joined Series (more (one lines) (part 2))) ≡ products (states 0) (states 1) (states 2)
all_products of_part of_more states =
    let of_lines = all_lines of_part of_more states in
    of_more states Series (one lines) (part 2) (refl, (refl, tt)) ∙ (λ i. combinations batches_weight lower (of_lines i) (of_part states 2 i))

-- what was called, and that no node names these

module _ (first second finishing : Terms) (lent : ℕ) where
  abbrev with_parts : History Grade Batches
  with_parts = history_of lent (parts_made first second finishing)

  abbrev with_lines : History Grade Batches
  with_lines = history_of lent (joined_from Parallel (0 ∷ 1 ∷ []) ∷ parts_made first second finishing)

  abbrev with_all : History Grade Batches
  with_all = history_of lent (nodes_made first second finishing)

  no_child : (c : ℕ) → Unused with_parts c
  no_child c =
      let one = unused_on [] c 0 (added first) (λ n. no_one c) (no_one c) in
      let two = unused_on (history_of lent (added first ∷ [])) c 1 (added second) one (no_one c) in
      unused_on (history_of lent (added second ∷ added first ∷ [])) c 2 (added finishing) two (no_one c)

  no_child_then : (c : ℕ) → 1 < c → Unused with_lines c
  no_child_then c h = unused_on with_parts c 3 (joined_from Parallel (0 ∷ 1 ∷ [])) (no_child c) (neither (λ e. omega (arith, h, e)) (λ e. omega (arith, h, e)))

module _ (promise : AnswersRight grade_kind batches_weight) where
  -- none of the other calls is refused
  module _ {first second finishing : Terms} {lent : ℕ} (roomy : STORE ≤ lent) where
    module _ {d : Diagram Grade Batches} {s : Terms} (long : length s ≡ lent) where
      -- the lines are node 3
      pub lines_joined : Run grade_kind batches_weight (with_parts first second finishing lent) d s → {p : Nodes} → p ≡ in_order → (d' : Diagram Grade Batches) {r : Result ℕ Refusal} →
          Joins grade_kind batches_weight (records d) s (Joined Parallel) (p.first ∷ p.second ∷ []) r (records d') → (r ≡ Ok 3) × Run grade_kind batches_weight (with_lines first second finishing lent) d' s
      lines_joined run are d' {r} x =
          let free = no_child first second finishing lent in
          after_joining grade_kind batches_weight promise lent roomy run long (omega arith) (0 ∷ 1 ∷ []) (both_of (λ c. c < 3) (omega arith) (omega arith)) (both_of (Unused (with_parts first second finishing lent)) (free 0) (free 1)) (apart (λ e. omega (arith, e)))
          Parallel d' (subst (λ (p : Nodes). Joins grade_kind batches_weight (records d) s (Joined Parallel) (p.first ∷ p.second ∷ []) r (records d')) are x) (omega arith, omega arith)

      -- the whole is node 4
      pub whole_joined : Run grade_kind batches_weight (with_lines first second finishing lent) d s → {k : ℕ} → k ≡ 3 → {p : Nodes} → p ≡ in_order → (d' : Diagram Grade Batches) {r : Result ℕ Refusal} →
          Joins grade_kind batches_weight (records d) s (Joined Series) (k ∷ p.finishing ∷ []) r (records d') → (r ≡ Ok 4) × Run grade_kind batches_weight (with_all first second finishing lent) d' s
      whole_joined run is are d' {r} x =
          let free = no_child_then first second finishing lent in
          after_joining grade_kind batches_weight promise lent roomy run long (omega arith) (3 ∷ 2 ∷ []) (both_of (λ c. c < 4) (omega arith) (omega arith)) (both_of (Unused (with_lines first second finishing lent)) (free 3 (omega arith)) (free 2 (omega arith))) (apart (λ e. omega (arith, e)))
          Series d' (subst (λ z. Joins grade_kind batches_weight (records d) s (Joined Series) z r (records d')) (λ i. is i ∷ (are i).finishing ∷ []) x) (omega arith, omega arith)

      pub lines_collected : Run grade_kind batches_weight (with_all first second finishing lent) d s → {k : ℕ} → k ≡ 3 → (d' : Diagram Grade Batches) (s' : Terms) {r : Result ℕ Refusal} →
          Collected grade_kind batches_weight (records d) s k r (records d') s' → (m : ℕ) × (r ≡ Ok m) × Run grade_kind batches_weight (collected lent 3 m ∷ with_all first second finishing lent) d' s'
      lines_collected run is d' s' {r} x =
          let answer = both_of (Answers (with_all first second finishing lent)) (inl (first, refl)) (inl (second, refl)) in
          let z = granted (λ row y. few _ row y.2) (after_collecting_joined grade_kind batches_weight promise lent roomy run long 3 (omega arith) Parallel (0 ∷ 1 ∷ []) refl answer d' s' (subst (λ z. Collected grade_kind batches_weight (records d) s z r (records d') s') is x)) in
          (length z.0, z.2.0, z.2.1)

      pub whole_collected : {m : ℕ} → Run grade_kind batches_weight (collected lent 3 m ∷ with_all first second finishing lent) d s → {k : ℕ} → k ≡ 4 → (d' : Diagram Grade Batches) (s' : Terms) {r : Result ℕ Refusal} →
          Collected grade_kind batches_weight (records d) s k r (records d') s' → (n : ℕ) × (r ≡ Ok n) × Run grade_kind batches_weight (worked_out first second finishing lent m n) d' s'
      whole_collected {m} run is d' s' {r} x =
          let answer = both_of (Answers (collected lent 3 m ∷ with_all first second finishing lent)) (inr (since_now _ _ 3 refl)) (inl (finishing, refl)) in
          let z = granted (λ row y. few _ row y.2) (after_collecting_joined grade_kind batches_weight promise lent roomy run long 4 (omega arith) Series (3 ∷ 2 ∷ []) refl answer d' s' (subst (λ z. Collected grade_kind batches_weight (records d) s z r (records d') s') is x)) in
          (length z.0, z.2.0, z.2.1)

      -- the whole tells the sums over all products
      pub whole_told : OfPart grade_kind batches_weight → OfMore grade_kind batches_weight → SummingKeeps grade_kind batches_weight → {m n : ℕ} → Run grade_kind batches_weight (worked_out first second finishing lent m n) d s →
          {k : ℕ} → k ≡ 4 → (grade : Grade) (r : Result (Batches × Batches) Refusal) → TellsAvailability grade_kind batches_weight (records d) s k grade r →
          r ≡ Ok (met_of grade_kind batches_weight grade (products first second finishing), total_of batches_weight (products first second finishing))
      whole_told of_part of_more summing {m} {n} run is grade r x =
          sums_told grade_kind batches_weight promise lent roomy run long 4 (omega arith) (inr (since_now _ _ 4 refl)) summing _ (all_products of_part of_more (states_of (worked_out first second finishing lent m n))) grade r
          (subst (λ z. TellsAvailability grade_kind batches_weight (records d) s z grade r) is x)
