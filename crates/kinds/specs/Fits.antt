-- Results of operations on numbers of 32 bits have 32 bits.
use Rattle.std.specs.Prelude.{ℕ, ◌^◌, ◌<◌, ◌≤◌, min}
use Rattle.std.proofs.Common.{arith}
use Rattle.kinds.specs.Capped.{top32, capped}

pub zero_fits : 0 < 2 ^ 32
zero_fits = omega arith

pub top_fits : top32 < 2 ^ 32
top_fits = omega arith

pub capped_fits : (n : ℕ) → capped top32 n < 2 ^ 32
capped_fits n = omega arith

pub min_fits : (a b : ℕ) → a < 2 ^ 32 → min a b < 2 ^ 32
min_fits a b h = omega arith

pub fits_below : (n : ℕ) → n < 2 ^ 32 → n ≤ top32
fits_below n h = omega arith
