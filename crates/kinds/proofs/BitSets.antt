-- Bits as members of a set.
use Rattle.std.proofs.Common.{◌≡◌, ℕ, ◌+◌, ◌/◌, ◌%◌, ◌^◌, min, max, eqb, Decides, sym, refl, ap, ◌∙◌, inl, inr, ⊎_elim, arith}
use Rattle.std.proofs.lemmas.Bool.{cases_eq}
use Rattle.std.proofs.lemmas.Bool.Decides.{Decides-like, Decides-eqb}
use lib.Arith.{bin_ind}
use lib.Bits.{bit_and, bit_or, and_shr, or_shr}
use Rattle.std.proofs.lemmas.Nat.{shr-shr}
use Rattle.kinds.specs.BitSets.{Within, UnionHas, IntersectionHas}
use Rattle.kinds.specs.BitLaws.{and_half, and_low, or_low, by_digits}

-- a set lies within another exactly where the intersection leaves it whole
pub within_and : (v w : ℕ) → bit_and v w ≡ v → Within v w
within_and v w h i m =
    let low = and_low (v / 2 ^ i) (w / 2 ^ i) in
    let e = sym (and_shr v w i) ∙ ap (λ x. x / 2 ^ i) h in
    let f = ap (λ x. x % 2) e in
    omega arith

pub and_within : (v w : ℕ) → Within v w → bit_and v w ≡ v
and_within =
    bin_ind (λ (n : ℕ). (w : ℕ) → Within n w → bit_and n w ≡ n) (λ w h. refl)
    (λ n ih w h. by_digits
    (and_half n w ∙ ih (w / 2) (λ i m.
    let p = shr-shr n 1 i in
    let q = shr-shr w 1 i in
    let k = h (1 + i) (ap (λ x. x % 2) (sym p) ∙ m) in
    ap (λ x. x % 2) q ∙ k))
    (and_low n w ∙ ⊎_elim (λ e. let k = h 0 (omega arith) in omega arith) (λ e. omega arith) (cases_eq (n % 2) 1)))

pub meets_within : (v w : ℕ) → Decides (eqb (bit_and v w) v) (Within v w)
meets_within v w = Decides-like (eqb (bit_and v w) v) (within_and v w) (and_within v w) (Decides-eqb (bit_and v w) v)

-- bit i of a union is the larger of the bits, of an intersection the smaller
bit_of_or : (v w i : ℕ) → bit_or v w / 2 ^ i % 2 ≡ max (v / 2 ^ i % 2) (w / 2 ^ i % 2)
bit_of_or v w i = ap (λ x. x % 2) (or_shr v w i) ∙ or_low (v / 2 ^ i) (w / 2 ^ i)

bit_of_and : (v w i : ℕ) → bit_and v w / 2 ^ i % 2 ≡ min (v / 2 ^ i % 2) (w / 2 ^ i % 2)
bit_of_and v w i = ap (λ x. x % 2) (and_shr v w i) ∙ and_low (v / 2 ^ i) (w / 2 ^ i)

pub union_has : UnionHas
union_has v w i =
    let bit = bit_of_or v w i in
    (λ m. ⊎_elim inl (λ e. inr (omega arith)) (cases_eq (v / 2 ^ i % 2) 1), ⊎_elim (λ m. omega arith) (λ m. omega arith))

pub intersection_has : IntersectionHas
intersection_has v w i = let bit = bit_of_and v w i in (λ m. (omega arith, omega arith), λ m. omega (arith, m.0, m.1))
