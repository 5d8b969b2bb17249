-- Which numbers the values of a kind hold.
use Rattle.std.specs.Prelude.{◌≡◌, ℕ, ◌^◌, ◌<◌, ◌≤◌}

-- v is the value of the number n: it shows n, and no other value does
pub record Holds {V : Type 0} (shown : V → ℕ) (n : ℕ) (v : V) : Type 0 where
  pub shows : shown v ≡ n
  pub only : (w : V) → shown w ≡ n → v ≡ w

-- the values are the numbers of 32 bits: each number has one, and there is no other
pub record Numbers32 {V : Type 0} (shown : V → ℕ) : Type 0 where
  pub every : (n : ℕ) → n < 2 ^ 32 → (v : V) × Holds shown n v
  pub none_else : (v : V) → shown v < 2 ^ 32

-- the values are the numbers up to the top: each number has one, and there is no other
pub record NumbersTo (top : ℕ) {V : Type 0} (shown : V → ℕ) : Type 0 where
  pub every : (n : ℕ) → n ≤ top → (v : V) × Holds shown n v
  pub none_else : (v : V) → shown v ≤ top
