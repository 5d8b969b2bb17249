-- What two parts, joined, answer, and what is left of the store that was lent.
use Rattle.std.specs.Prelude.{◌≡◌, ℕ, ◌<◌, ◌≤◌, List, length, Result, Ok, Err}
use Rattle.kinds.specs.declared.performance.Performance
use Rattle.kinds.specs.declared.weight.Weight
use Rattle.terms.specs.declared.term.Term.{Term}
use Rattle.terms.specs.declared.term.Way.{Way}
use Rattle.terms.specs.Rows.{RowOf}
use Rattle.terms.specs.Sums.{total_of, met_of}
use Rattle.terms.specs.Combinations.{joins, combinations}
use Rattle.terms.specs.Enumeration.{but}
use Rattle.diagram.specs.declared.limits.TheConstants.{STORE, TERMS}
use Rattle.diagram.specs.declared.refusal.Refusal.{Refusal}
use Rattle.diagram.specs.declared.refusal.Refusal.TheVariants.{ShortStore, WrongStates, LongResult}
use Rattle.diagram.specs.Refusals.{Asked}
use Rattle.diagram.specs.Nodes.{EnoughStates}
use Rattle.diagram.specs.Standing.{RowsStand}

module _ {P W : Type 0} (kind : Performance.Ghosts P) (weights : Weight.Ghosts W) (way : Way) (xs ys : List (Term P W)) where
  -- all the combinations of a state of the one part and a state of the other
  abbrev both : List (Term P W)
  both = combinations weights (joins kind way) xs ys

  -- their row is no longer than a row may be
  abbrev pub ShortRow : Type 0
  ShortRow = (row : List (Term P W)) → RowOf kind weights both row → length row ≤ TERMS

  -- r is what of two parts with these states meets the demand, and the weight of everything; or of the first question with a no, its refusal
  abbrev pub OfTwo : P → ℕ → Result (W × W) Refusal → Type 0
  OfTwo demand lent r =
      Asked (STORE ≤ lent) (r ≡ Err ShortStore)
      (Asked (EnoughStates (length xs)) (r ≡ Err WrongStates)
      (Asked (EnoughStates (length ys)) (r ≡ Err WrongStates)
      (Asked ShortRow (r ≡ Err LongResult)
      (r ≡ Ok (met_of kind weights demand both, total_of weights both)))))

  -- The first n of nodes 0, 1 and 2 have their rows: that of the one part, of the other, and of both. Nothing else has changed but the working
  -- rows and the rest of these places.
  abbrev pub RowsOfTwo : ℕ → List (Term P W) → List (Term P W) → Type 0
  RowsOfTwo n = RowsStand kind weights (λ k. k < n) (but 0 xs (but 1 ys (λ _. both)))

  -- what is left of the store, question by question: the rows of the nodes that were put before the first no
  abbrev pub LeftOfTwo : List (Term P W) → List (Term P W) → Type 0
  LeftOfTwo s s' =
      Asked (STORE ≤ length s) (s' ≡ s)
      (Asked (EnoughStates (length xs)) (s' ≡ s)
      (Asked (EnoughStates (length ys)) (RowsOfTwo 1 s s')
      (Asked ShortRow (RowsOfTwo 2 s s') (RowsOfTwo 3 s s'))))
