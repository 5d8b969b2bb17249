-- Distributions, and the row that a list of terms has.
use Rattle.std.specs.Prelude.{◌≡◌, false, List, [], ◌∷◌}
use Rattle.std.specs.declared.cmp.Ordering.TheVariants.{Less, Equal, Greater}
use Rattle.std.specs.declared.cmp.Ordering.{Ordering}
use Rattle.kinds.specs.declared.performance.Performance
use Rattle.kinds.specs.declared.weight.Weight
use Rattle.terms.specs.declared.term.Term.{Term}

-- x where a comparison says same, else y
abbrev pub if_same : {W : Type 0} → Ordering → W → W → W
if_same Less x y = y
if_same Equal x y = x
if_same Greater x y = y

module _ {P W : Type 0} (weights : Weight.Ghosts W) where
  -- the sum, over a list of terms, of what each gives
  abbrev pub sum_over : (Term P W → W) → List (Term P W) → W
  sum_over gives [] = weights.nothing
  sum_over gives (t ∷ ts) = weights.sum (gives t) (sum_over gives ts)

module _ {P W : Type 0} (kind : Performance.Ghosts P) (weights : Weight.Ghosts W) where
  -- what a term gives to the performance p: its weight if it has that performance, else nothing
  abbrev pub share : P → Term P W → W
  share p t = if_same (kind.compared t.performance p) t.weight weights.nothing

  -- the distribution of a list of terms: each performance has the sum of its weights
  abbrev pub weight_at : List (Term P W) → P → W
  weight_at ts p = sum_over weights (share p) ts

  abbrev pub SameDistribution : List (Term P W) → List (Term P W) → Type 0
  SameDistribution ts us = (p : P) → weight_at ts p ≡ weight_at us p

  -- every performance of the list is greater than p
  abbrev pub Above : P → List (Term P W) → Type 0
  Above p [] = Unit {0}
  Above p (t ∷ ts) = (kind.compared p t.performance ≡ Less) × Above p ts

  -- the performances ascend, each once, and no weight is nothing
  abbrev pub IsRow : List (Term P W) → Type 0
  IsRow [] = Unit {0}
  IsRow (t ∷ ts) = (weights.is_nothing t.weight ≡ false) × Above t.performance ts × IsRow ts

  -- r is the row of ts
  pub record RowOf (ts r : List (Term P W)) : Type 0 where
    pub row : IsRow r
    pub same : SameDistribution ts r
