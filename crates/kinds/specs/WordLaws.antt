-- Words are equal where their numbers are, and so the laws of numbers hold of words.
use Rattle.std.specs.Prelude.{◌≡◌, ℕ, suc, ◌^◌, min, max, true, refl}
use Rattle.std.specs.declared.cmp.Ordering.TheVariants.{Less, Equal}
use Rattle.std.specs.Ordering.{nat_cmp, ordering_reverse}
use Rattle.std.specs.Int.Bits.{or_zero_l, and_zero_l}
use Rattle.std.proofs.Math.Nat.{min_comm}
use Rattle.std.proofs.Common.{ap, sym, ◌∙◌, arith}
use Rattle.std.proofs.lemmas.Bool.{eqb-true}
use Rattle.std.proofs.lemmas.Bool.Decides.{nat_tests}
use Rattle.std.proofs.lemmas.Cmp.{nat_cmp_total, tied_itself}
use Rattle.std.proofs.lemmas.Nat.{or_comm, and_comm, and_assoc}
use Rattle.kinds.specs.BitLaws as bits
use Rattle.kinds.specs.Bounded.{bound_path}
use Rattle.kinds.specs.Capped.{top32}
use Rattle.kinds.specs.Caps as caps
use Rattle.kinds.specs.Fits.{fits_below}
use Rattle.kinds.specs.Holding.{Holds, Numbers32}
use Rattle.kinds.specs.Words.{number, word, zero_word, top_word, holds_number, word_compared, smaller, word_sum, word_product, union, intersection}
use Rattle.kinds.specs.declared.word.Word.{Word}

-- a value holds its number, if the number tells the value
pub holds : {V : Type 0} (shown : V → ℕ) → ((v w : V) → shown v ≡ shown w → v ≡ w) → (n : ℕ) (v : V) → shown v ≡ n → Holds shown n v
holds shown same n v e = record { shows = e; only = λ w f. same v w (e ∙ sym f) }

pub nat_equal : (m n : ℕ) → nat_cmp m n ≡ Equal → m ≡ n
nat_equal m n h = grind (arith, nat_tests)

pub min_assoc : (a b c : ℕ) → min (min a b) c ≡ min a (min b c)
min_assoc a b c = omega arith

pub max_assoc : (a b c : ℕ) → max (max a b) c ≡ max a (max b c)
max_assoc a b c = omega arith

module _ {Of : Type 0} where
  pub word_same : (a b : Word Of) → a.bits ≡ b.bits → a ≡ b
  word_same a b p = λ i. record { bits = p i; of = record {}; fits = bound_path (ap suc p) (2 ^ 32) a.fits b.fits i }

  pub word_holds : (n : ℕ) (v : Word Of) → number v ≡ n → Holds number n v
  word_holds n v e = holds number word_same n v e

  pub word_numbers : Numbers32 (number {Of = Of})
  word_numbers = record {
    every = λ n h. (word n h, word_holds n (word n h) refl);
    none_else = λ v. v.fits;
  }

  pub compared_same : (a b : Word Of) → word_compared a b ≡ Equal → a ≡ b
  compared_same a b h = word_same a b (nat_equal a.bits b.bits h)

  pub compared_itself : (a : Word Of) → word_compared a a ≡ Equal
  compared_itself a = tied_itself nat_cmp_total a.bits

  pub compared_swapped : (a b : Word Of) → word_compared b a ≡ ordering_reverse (word_compared a b)
  compared_swapped a b = nat_cmp_total.antisymm b.bits a.bits

  pub compared_less : (a b c : Word Of) → word_compared a b ≡ Less → word_compared b c ≡ Less → word_compared a c ≡ Less
  compared_less a b c = nat_cmp_total.trans a.bits b.bits c.bits

  pub only_zero : (a : Word Of) → holds_number 0 a ≡ true → a ≡ zero_word
  only_zero a h = word_same _ _ (eqb-true a.bits 0 h)

  pub only_top : (a : Word Of) → holds_number top32 a ≡ true → a ≡ top_word
  only_top a h = word_same _ _ (eqb-true a.bits top32 h)

  pub smaller_assoc : (a b c : Word Of) → smaller (smaller a b) c ≡ smaller a (smaller b c)
  smaller_assoc a b c = word_same _ _ (min_assoc a.bits b.bits c.bits)

  pub smaller_comm : (a b : Word Of) → smaller a b ≡ smaller b a
  smaller_comm a b = word_same _ _ (min_comm a.bits b.bits)

  pub smaller_top : (a : Word Of) → smaller top_word a ≡ a
  smaller_top a = word_same _ _ (caps.min_top top32 a.bits (fits_below a.bits a.fits))

  pub smaller_is_top : (a b : Word Of) → smaller a b ≡ top_word → (a ≡ top_word) × (b ≡ top_word)
  smaller_is_top a b h =
      let e = caps.min_is_top top32 a.bits b.bits (fits_below a.bits a.fits) (fits_below b.bits b.fits) (ap (λ (x : Word Of). x.bits) h) in
      (word_same _ _ e.0, word_same _ _ e.1)

  pub sum_assoc : (a b c : Word Of) → word_sum (word_sum a b) c ≡ word_sum a (word_sum b c)
  sum_assoc a b c = word_same _ _ (caps.sum_assoc top32 a.bits b.bits c.bits)

  pub sum_comm : (a b : Word Of) → word_sum a b ≡ word_sum b a
  sum_comm a b = word_same _ _ (caps.sum_comm top32 a.bits b.bits)

  pub sum_zero : (a : Word Of) → word_sum zero_word a ≡ a
  sum_zero a = word_same _ _ (caps.sum_zero top32 a.bits (fits_below a.bits a.fits))

  pub sum_is_zero : (a b : Word Of) → word_sum a b ≡ zero_word → (a ≡ zero_word) × (b ≡ zero_word)
  sum_is_zero a b h =
      let e = caps.sum_none_both top32 a.bits b.bits (fits_below a.bits a.fits) (fits_below b.bits b.fits) (ap (λ (x : Word Of). x.bits) h) in
      (word_same _ _ e.0, word_same _ _ e.1)

  pub sum_top : (a : Word Of) → word_sum top_word a ≡ top_word
  sum_top a = word_same _ _ (caps.sum_top top32 a.bits)

  pub sum_smaller : (a b c : Word Of) → word_sum a (smaller b c) ≡ smaller (word_sum a b) (word_sum a c)
  sum_smaller a b c = word_same _ _ (caps.sum_min top32 a.bits b.bits c.bits)

  pub product_assoc : (a b c : Word Of) → word_product (word_product a b) c ≡ word_product a (word_product b c)
  product_assoc a b c = word_same _ _ (caps.product_assoc top32 a.bits b.bits c.bits)

  pub product_comm : (a b : Word Of) → word_product a b ≡ word_product b a
  product_comm a b = word_same _ _ (caps.product_comm top32 a.bits b.bits)

  pub product_sum : (a b c : Word Of) → word_product a (word_sum b c) ≡ word_sum (word_product a b) (word_product a c)
  product_sum a b c = word_same _ _ (caps.product_sum top32 a.bits b.bits c.bits)

  pub product_zero : (a : Word Of) → word_product zero_word a ≡ zero_word
  product_zero a = word_same _ _ (caps.product_zero top32 a.bits)

  pub union_assoc : (a b c : Word Of) → union (union a b) c ≡ union a (union b c)
  union_assoc a b c = word_same _ _ (bits.or_assoc a.bits b.bits c.bits)

  pub union_comm : (a b : Word Of) → union a b ≡ union b a
  union_comm a b = word_same _ _ (or_comm a.bits b.bits)

  pub union_none : (a : Word Of) → union zero_word a ≡ a
  union_none a = word_same _ _ (or_zero_l a.bits)

  pub union_is_none : (a b : Word Of) → union a b ≡ zero_word → (a ≡ zero_word) × (b ≡ zero_word)
  union_is_none a b h =
      let e = bits.or_none a.bits b.bits (ap (λ (x : Word Of). x.bits) h) in
      (word_same _ _ e.0, word_same _ _ e.1)

  pub intersection_assoc : (a b c : Word Of) → intersection (intersection a b) c ≡ intersection a (intersection b c)
  intersection_assoc a b c = word_same _ _ (and_assoc c.bits a.bits b.bits)

  pub intersection_comm : (a b : Word Of) → intersection a b ≡ intersection b a
  intersection_comm a b = word_same _ _ (and_comm a.bits b.bits)

  pub intersection_union : (a b c : Word Of) → intersection a (union b c) ≡ union (intersection a b) (intersection a c)
  intersection_union a b c = word_same _ _ (bits.and_or a.bits b.bits c.bits)

  pub intersection_none : (a : Word Of) → intersection zero_word a ≡ zero_word
  intersection_none a = word_same _ _ (and_zero_l a.bits)
