-- The weight of a whole list of terms, and the weight that meets a demand.
use Rattle.std.specs.Prelude.{cond, List}
use Rattle.kinds.specs.declared.performance.Performance
use Rattle.kinds.specs.declared.weight.Weight
use Rattle.terms.specs.declared.term.Term.{Term}
use Rattle.terms.specs.Rows.{sum_over}

-- the sum of all the weights
abbrev pub total_of : {P W : Type 0} → Weight.Ghosts W → List (Term P W) → W
total_of weights = sum_over weights (λ t. t.weight)

module _ {P W : Type 0} (kind : Performance.Ghosts P) (weights : Weight.Ghosts W) (demand : P) where
  -- a term counts with its weight if it meets the demand
  abbrev pub counted_for : Term P W → W
  counted_for t = cond (kind.meets t.performance demand) t.weight weights.nothing

  -- the sum of the weights of the terms that meet the demand
  abbrev pub met_of : List (Term P W) → W
  met_of = sum_over weights counted_for
