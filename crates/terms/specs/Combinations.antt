-- The combinations of two lists of terms, and of the five arms of a bridge.
use Rattle.std.specs.Prelude.{Bool, List, [], ◌∷◌, ◌++◌}
use Rattle.kinds.specs.declared.performance.Performance
use Rattle.kinds.specs.declared.weight.Weight
use Rattle.terms.specs.declared.term.Term.{Term}
use Rattle.terms.specs.declared.term.Way.{Way}
use Rattle.terms.specs.declared.term.Way.TheVariants.{Series, Parallel}

-- what f gives for each x of the list, one after the other
abbrev pub each : {A B : Type 0} → List A → (A → List B) → List B
each [] f = []
each (x ∷ xs) f = f x ++ each xs f

abbrev pub term : {P W : Type 0} → P → W → Term P W
term p w = record { performance = p; weight = w }

module _ {P : Type 0} (kind : Performance.Ghosts P) where
  -- what joins two performances, and whether their order counts
  abbrev pub joins : Way → P → P → P
  joins Series = kind.series
  joins Parallel = kind.parallel

  abbrev pub ordered : Way → Bool
  ordered Series = kind.SERIES_ORDER_COUNTS
  ordered Parallel = kind.PARALLEL_ORDER_COUNTS

module _ {P W : Type 0} (weights : Weight.Ghosts W) where
  -- one term of each of two lists, together
  abbrev pub combined : (P → P → P) → Term P W → Term P W → Term P W
  combined op x y = term (op x.performance y.performance) (weights.product x.weight y.weight)

  -- all the combinations of two lists
  abbrev pub combinations : (P → P → P) → List (Term P W) → List (Term P W) → List (Term P W)
  combinations op xs ys = each xs λ x. each ys λ y. combined op x y ∷ []

module _ {P W : Type 0} (kind : Performance.Ghosts P) (weights : Weight.Ghosts W) where
  infixl 60 ◌⊗◌
  abbrev ◌⊗◌ : W → W → W
  v ⊗ w = weights.product v w

  -- one term of each of the five arms of a bridge, together
  abbrev pub bridged : Term P W → Term P W → Term P W → Term P W → Term P W → Term P W
  bridged a b c d e =
      term (kind.bridge a.performance b.performance c.performance d.performance e.performance)
      (a.weight ⊗ b.weight ⊗ c.weight ⊗ d.weight ⊗ e.weight)

  -- all the combinations of the five arms
  abbrev pub bridges : (arm_a arm_b arm_c arm_d arm_e : List (Term P W)) → List (Term P W)
  bridges arm_a arm_b arm_c arm_d arm_e =
      each arm_a λ a. each arm_b λ b. each arm_c λ c. each arm_d λ d. each arm_e λ e.
      bridged a b c d e ∷ []
