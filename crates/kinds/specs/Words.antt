-- Words of 32 bits: the number that one holds, their order, and what is worked out from two of them.
use Rattle.std.specs.Prelude.{ℕ, ◌+◌, ◌*◌, ◌^◌, ◌<◌, min, Bool, ◌==◌, bit_and, bit_or}
use Rattle.std.specs.declared.cmp.Ordering.{Ordering}
use Rattle.std.specs.Int.Bits.{and_lt}
use Rattle.std.specs.Ordering.{nat_cmp}
use Rattle.std.proofs.lemmas.Nat.{or_lt}
use Rattle.kinds.specs.Capped.{top32, capped}
use Rattle.kinds.specs.Fits.{capped_fits, min_fits, top_fits, zero_fits}
use Rattle.kinds.specs.declared.word.Word.{Word}

module _ {Of : Type 0} where
  abbrev pub number : Word Of → ℕ
  number v = v.bits

  -- the word of a number
  abbrev pub word : (n : ℕ) → n < 2 ^ 32 → Word Of
  word n h = record { bits = n; of = record {}; fits = h }

  abbrev pub zero_word : Word Of
  zero_word = word 0 zero_fits

  abbrev pub top_word : Word Of
  top_word = word top32 top_fits

  abbrev pub holds_number : ℕ → Word Of → Bool
  holds_number n v = v.bits == n

  -- in the order of their numbers
  abbrev pub word_compared : Word Of → Word Of → Ordering
  word_compared a b = nat_cmp a.bits b.bits

  abbrev pub smaller : Word Of → Word Of → Word Of
  smaller a b = word (min a.bits b.bits) (min_fits a.bits b.bits a.fits)

  -- the word of a number that is capped
  abbrev pub capped_word : ℕ → Word Of
  capped_word n = word (capped top32 n) (capped_fits n)

  abbrev pub word_sum : Word Of → Word Of → Word Of
  word_sum a b = capped_word (a.bits + b.bits)

  abbrev pub word_product : Word Of → Word Of → Word Of
  word_product a b = capped_word (a.bits * b.bits)

  abbrev pub union : Word Of → Word Of → Word Of
  union a b = word (bit_or a.bits b.bits) (or_lt 32 a.bits b.bits a.fits b.fits)

  abbrev pub intersection : Word Of → Word Of → Word Of
  intersection a b = word (bit_and a.bits b.bits) (and_lt 32 a.bits b.bits a.fits b.fits)
