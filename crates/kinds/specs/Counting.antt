-- Weights that count up to a top, and the whole numbers that they would count if nothing stopped them.
use Rattle.std.specs.Prelude.{◌≡◌, ℕ, ◌+◌, ◌*◌, ◌≤◌, ◌==◌}
use Rattle.kinds.specs.Capped.{capped_sum, capped_product}
use Rattle.kinds.specs.declared.weight.Weight

-- whole numbers as weights: no sum and no product stops
abbrev pub whole_numbers : Weight.Ghosts ℕ
whole_numbers = record { nothing = 0; sum = ◌+◌; product = ◌*◌; is_nothing = λ n. n == 0 }

-- weights told by their counts: nothing counts 0, sums and products as the numbers', stopped
pub record CountsTo {W : Type 0} (top : ℕ) (weights : Weight.Ghosts W) (count : W → ℕ) : Type 0 where
  pub some : 1 ≤ top
  pub at_most : (w : W) → count w ≤ top
  pub tells : (v w : W) → count v ≡ count w → v ≡ w
  pub nothing : count weights.nothing ≡ 0
  pub sum : (v w : W) → count (weights.sum v w) ≡ capped_sum top (count v) (count w)
  pub product : (v w : W) → count (weights.product v w) ≡ capped_product top (count v) (count w)
