-- Sums and products that stop at a top.
use Rattle.std.specs.Prelude.{ℕ, ◌+◌, ◌*◌, min}
use Rattle.kinds.specs.declared.capped.TheConstants.{TOP32}

-- the largest number of 32 bits
abbrev pub top32 : ℕ
top32 = TOP32

abbrev pub capped : ℕ → ℕ → ℕ
capped top n = min n top

abbrev pub capped_sum : ℕ → ℕ → ℕ → ℕ
capped_sum top a b = capped top (a + b)

abbrev pub capped_product : ℕ → ℕ → ℕ → ℕ
capped_product top a b = capped top (a * b)

abbrev pub least_of_four : ℕ → ℕ → ℕ → ℕ → ℕ
least_of_four a b c d = min (min (min a b) c) d
