-- Numbers up to a top, as a struct holds them beside a ghost bound.
use Rattle.std.specs.Prelude.{◌≡◌, ℕ, ◌≤◌, min, max}
use Rattle.std.proofs.Math.Path.{PathP}
use Rattle.std.proofs.Math.Bridge.{le_prop}
use Rattle.std.proofs.Common.{arith}
use mathlib.Core.HLevel.{is_prop→PathP}

-- two proofs of one bound, along an equation
pub bound_path : {m n : ℕ} (p : m ≡ n) (top : ℕ) (h : m ≤ top) (k : n ≤ top) → PathP (λ i. p i ≤ top) h k
bound_path p top h k = is_prop→PathP (λ i. p i ≤ top) (λ i. le_prop {n = p i} {m = top}) h k

pub min_fits : {top : ℕ} (a b : ℕ) → a ≤ top → min a b ≤ top
min_fits a b h = omega (arith, h)

pub max_fits : {top : ℕ} (a b : ℕ) → a ≤ top → b ≤ top → max a b ≤ top
max_fits a b h k = omega (arith, h, k)
