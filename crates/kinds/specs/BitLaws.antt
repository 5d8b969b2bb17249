-- Laws of union and intersection of bits that lib.Bits lacks.
use Rattle.std.specs.Prelude.{◌≡◌, ℕ, ◌/◌, ◌%◌, min, max, bit_and, bit_or, refl}
use Rattle.std.proofs.Common.{arith}
use Rattle.std.proofs.Math.Arith.{bin_ind}
use Rattle.std.specs.Int.Bits.{and_step, or_step, or_add_and}
use Rattle.std.proofs.lemmas.Nat.{and_le_l, and_le_r}

pub or_half : (a b : ℕ) → bit_or a b / 2 ≡ bit_or (a / 2) (b / 2)
or_half a b = omega (arith, or_step a b)

pub or_low : (a b : ℕ) → bit_or a b % 2 ≡ max (a % 2) (b % 2)
or_low a b = omega (arith, or_step a b)

pub and_half : (a b : ℕ) → bit_and a b / 2 ≡ bit_and (a / 2) (b / 2)
and_half a b = omega (arith, and_step a b)

pub and_low : (a b : ℕ) → bit_and a b % 2 ≡ min (a % 2) (b % 2)
and_low a b = omega (arith, and_step a b)

pub by_digits : {a b : ℕ} → a / 2 ≡ b / 2 → a % 2 ≡ b % 2 → a ≡ b
by_digits {a} {b} hi lo = omega arith

pub or_assoc : (a b c : ℕ) → bit_or (bit_or a b) c ≡ bit_or a (bit_or b c)
or_assoc =
    bin_ind (λ (n : ℕ). (b c : ℕ) → bit_or (bit_or n b) c ≡ bit_or n (bit_or b c)) (λ b c. refl)
    (λ n ih b c. by_digits (simp or_half (ih (b / 2) (c / 2))) (simp or_low (omega arith)))

pub and_or : (a b c : ℕ) → bit_and a (bit_or b c) ≡ bit_or (bit_and a b) (bit_and a c)
and_or =
    bin_ind (λ (n : ℕ). (b c : ℕ) → bit_and n (bit_or b c) ≡ bit_or (bit_and n b) (bit_and n c)) (λ b c. refl)
    (λ n ih b c. by_digits (simp (and_half, or_half) (ih (b / 2) (c / 2))) (simp (and_low, or_low) (omega arith)))

pub or_none : (a b : ℕ) → bit_or a b ≡ 0 → (a ≡ 0) × (b ≡ 0)
or_none a b h =
    let s = or_add_and a b in let l = and_le_l a b in let r = and_le_r a b in
    (omega arith, omega arith)
