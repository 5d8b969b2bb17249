-- A plant of two lines in parallel and then a finishing step: what of its products is at least of a grade, and what is left of the store.
use Rattle.std.specs.Prelude.{◌≡◌, ℕ, ◌<◌, ◌≤◌, List, length, Result, Ok, Err}
use Rattle.terms.specs.declared.term.Term.{Term}
use Rattle.terms.specs.Combinations.{combinations}
use Rattle.terms.specs.Enumeration.{but}
use Rattle.terms.specs.Sums.{total_of, met_of}
use Rattle.diagram.specs.declared.limits.TheConstants.{STORE}
use Rattle.diagram.specs.declared.refusal.Refusal.{Refusal}
use Rattle.diagram.specs.declared.refusal.Refusal.TheVariants.{ShortStore, WrongStates}
use Rattle.diagram.specs.Refusals.{Asked}
use Rattle.diagram.specs.Nodes.{EnoughStates}
use Rattle.diagram.specs.Standing.{RowsStand}
use Rattle.grades.specs.contracts.grade_kind.GradePerformance.TheImpl.{ghosts as grade_kind}
use Rattle.grades.specs.contracts.batches_weight.BatchesWeight.TheImpl.{ghosts as batches_weight}
use Rattle.grades.specs.declared.batches.Batches.{Batches}
use Rattle.grades.specs.declared.grade.Grade.{Grade}
use Rattle.grades.specs.GradeKind.{lower, higher}

module _ (first second finishing : List (Term Grade Batches)) where
  -- a state of each of the three, together: the better of the lines, and no better than the finishing
  abbrev pub products : List (Term Grade Batches)
  products = combinations batches_weight lower (combinations batches_weight higher first second) finishing

  -- the first of the three that has too few states or too many is refused
  abbrev pub StatesAsked : {A : Type 0} → Result A Refusal → Type 0 → Type 0
  StatesAsked r rest =
      Asked (EnoughStates (length first)) (r ≡ Err WrongStates)
      (Asked (EnoughStates (length second)) (r ≡ Err WrongStates)
      (Asked (EnoughStates (length finishing)) (r ≡ Err WrongStates) rest))

  -- r is how many batches are of this grade or better, and how many there are; or, of the first question with a no, its refusal. No result is
  -- too long: there are ten grades, and a row has one term of each at most.
  abbrev pub ShareOf : Grade → ℕ → Result (Batches × Batches) Refusal → Type 0
  ShareOf grade lent r =
      Asked (STORE ≤ lent) (r ≡ Err ShortStore)
      (StatesAsked r (r ≡ Ok (met_of grade_kind batches_weight grade products, total_of batches_weight products)))

  -- what each node is made of: the three parts, the lines in parallel, and the whole
  abbrev pub terms_of_node : ℕ → List (Term Grade Batches)
  terms_of_node = but 0 first (but 1 second (but 2 finishing (but 3 (combinations batches_weight higher first second) (λ _. products))))

  -- The first n of these nodes have their rows in their places. Nothing else has changed but the working rows and the rest of these places.
  abbrev pub RowsOfShare : ℕ → List (Term Grade Batches) → List (Term Grade Batches) → Type 0
  RowsOfShare n = RowsStand grade_kind batches_weight (λ k. k < n) terms_of_node

  -- what is left of a store that is long enough, question by question: the rows of the parts that were added before the
  -- first no, or those of the first n nodes
  abbrev pub LeftByParts : ℕ → List (Term Grade Batches) → List (Term Grade Batches) → Type 0
  LeftByParts n s s' =
      Asked (EnoughStates (length first)) (s' ≡ s)
      (Asked (EnoughStates (length second)) (RowsOfShare 1 s s')
      (Asked (EnoughStates (length finishing)) (RowsOfShare 2 s s') (RowsOfShare n s s')))

  -- so for all five, over any store
  abbrev pub LeftOfShare : List (Term Grade Batches) → List (Term Grade Batches) → Type 0
  LeftOfShare s s' = Asked (STORE ≤ length s) (s' ≡ s) (LeftByParts 5 s s')
