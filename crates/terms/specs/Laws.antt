-- What rows, combinations and sums keep, for every kind and weight.
use Rattle.std.specs.Prelude.{◌≡◌, ℕ, false, List, length, Option}
use Rattle.kinds.specs.declared.performance.Performance
use Rattle.kinds.specs.declared.weight.Weight
use Rattle.terms.specs.declared.term.Term.{Term}
use Rattle.terms.specs.declared.term.Way.{Way}
use Rattle.terms.specs.Rows.{SameDistribution, RowOf}
use Rattle.terms.specs.Merging.{Merges}
use Rattle.terms.specs.Combinations.{joins, ordered, combinations, bridges}
use Rattle.terms.specs.Sums.{total_of, met_of}

module _ {P W : Type 0} (kind : Performance.Ghosts P) (weights : Weight.Ghosts W) where
  abbrev Terms : Type 0
  Terms = List (Term P W)

  abbrev Same : Terms → Terms → Type 0
  Same = SameDistribution kind weights

  abbrev both : Way → Terms → Terms → Terms
  both way = combinations weights (joins kind way)

  -- a list has a row, and no other
  abbrev pub OneRow : Type 0
  OneRow =
      (ts : Terms) → (r : Terms) × RowOf kind weights ts r × ((s : Terms) → RowOf kind weights ts s → r ≡ s)

  -- the terms and the length of the room decide the answer, None exactly where the row is longer
  abbrev pub OneAnswer : Type 0
  OneAnswer =
      (ts room room' : Terms) (answer answer' : Option ℕ) → length room ≡ length room' →
      Merges kind weights ts room answer → Merges kind weights ts room' answer' → answer ≡ answer'

  -- the distribution of the combinations depends only on the distributions of the two lists
  abbrev pub CombiningKeeps : Type 0
  CombiningKeeps =
      (way : Way) (xs xs' ys ys' : Terms) → Same xs xs' → Same ys ys' →
      Same (both way xs ys) (both way xs' ys')

  -- however three lists are grouped, the distribution is the same
  abbrev pub CombiningAssociates : Type 0
  CombiningAssociates =
      (way : Way) (xs ys zs : Terms) → Same (both way (both way xs ys) zs) (both way xs (both way ys zs))

  -- and in either order, where the kind says that order does not count
  abbrev pub CombiningCommutes : Type 0
  CombiningCommutes =
      (way : Way) → ordered kind way ≡ false → (xs ys : Terms) → Same (both way xs ys) (both way ys xs)

  -- the distribution of a bridge depends only on the distributions of its arms
  abbrev pub BridgingKeeps : Type 0
  BridgingKeeps =
      (a a' b b' c c' d d' e e' : Terms) → Same a a' → Same b b' → Same c c' → Same d d' → Same e e' →
      Same (bridges kind weights a b c d e) (bridges kind weights a' b' c' d' e')

  -- sums over a list depend only on its distribution
  abbrev pub SummingKeeps : Type 0
  SummingKeeps =
      (ts us : Terms) → Same ts us →
      (total_of weights ts ≡ total_of weights us) ×
      ((demand : P) → met_of kind weights demand ts ≡ met_of kind weights demand us)
