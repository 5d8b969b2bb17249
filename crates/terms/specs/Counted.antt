-- Terms with another weight, and combinations weighed with whole numbers that never stop.
use Rattle.std.specs.Prelude.{ℕ, List, map}
use Rattle.kinds.specs.Counting.{whole_numbers}
use Rattle.kinds.specs.declared.performance.Performance
use Rattle.terms.specs.declared.term.Term.{Term}
use Rattle.terms.specs.Combinations.{term}
use Rattle.terms.specs.Drawings.{Drawing}
use Rattle.terms.specs.Enumeration.{enumeration}

abbrev pub reweighed : {P V W : Type 0} → (V → W) → Term P V → Term P W
reweighed f t = term t.performance (f t.weight)

-- a drawing's combinations, weighed with the whole numbers that the weights of its states count
abbrev pub true_combinations :
    {P W : Type 0} → Performance.Ghosts P → (W → ℕ) → (ℕ → List (Term P W)) → Drawing → List (Term P ℕ)
true_combinations kind count states =
    enumeration kind whole_numbers (λ n. map (reweighed count) (states n))
