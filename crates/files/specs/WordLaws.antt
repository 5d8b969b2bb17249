-- The words of the named kinds and weights have 32 bits, and tell their values.
use Rattle.std.specs.Prelude.{◌≡◌, ℕ, ◌^◌, ◌<◌, refl}
use Rattle.std.proofs.Common.{ap, arith}
use Rattle.kinds.specs.Words.{number}
use Rattle.kinds.specs.WordLaws.{word_same}
use Rattle.kinds.specs.declared.word.Word.{Word}
use Rattle.kinds.specs.declared.values.Pair.{Pair}
use Rattle.kinds.specs.declared.values.OrOut.{OrOut}
use Rattle.kinds.specs.declared.values.OrOut.TheVariants.{Out, Working}
use Rattle.files.specs.OutWords.{out_high, out_low}

module _ {Of : Type 0} where
  pub word_fits : (v : Word Of) → number v < 2 ^ 32
  word_fits v = v.fits

  pub one_word_fits : (v : Word Of) → (0 < 2 ^ 32) × (number v < 2 ^ 32)
  one_word_fits v = (omega arith, v.fits)

  pub one_word_tells : (v w : Word Of) → ◌≡◌ {A = ℕ} 0 0 → number v ≡ number w → v ≡ w
  one_word_tells v w h l = word_same v w l

  pub out_fits : (v : OrOut (Word Of)) → (out_high v < 2 ^ 32) × (out_low v < 2 ^ 32)
  out_fits Out = (omega arith, omega arith)
  out_fits (Working v) = (omega arith, v.fits)

  pub out_tells : (v w : OrOut (Word Of)) → out_high v ≡ out_high w → out_low v ≡ out_low w → v ≡ w
  out_tells Out Out h l = refl
  out_tells Out (Working w) h l = absurd (omega (arith, h))
  out_tells (Working v) Out h l = absurd (omega (arith, h))
  out_tells (Working v) (Working w) h l = ap Working (word_same v w l)

module _ {A B : Type 0} where
  pub pair_fits : (v : Pair (Word A) (Word B)) → (number v.first < 2 ^ 32) × (number v.second < 2 ^ 32)
  pair_fits v = (v.first.fits, v.second.fits)

  pub pair_tells : (v w : Pair (Word A) (Word B)) → number v.first ≡ number w.first → number v.second ≡ number w.second → v ≡ w
  pair_tells v w h l = λ i. record { first = word_same v.first w.first h i; second = word_same v.second w.second l i }
