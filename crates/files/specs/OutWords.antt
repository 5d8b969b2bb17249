-- The words of a performance that may be out.
use Rattle.std.specs.Prelude.{ℕ}
use Rattle.kinds.specs.Words.{number}
use Rattle.kinds.specs.declared.word.Word.{Word}
use Rattle.kinds.specs.declared.values.OrOut.{OrOut}
use Rattle.kinds.specs.declared.values.OrOut.TheVariants.{Out, Working}

abbrev pub out_high : {Of : Type 0} → OrOut (Word Of) → ℕ
out_high Out = 1
out_high (Working v) = 0

abbrev pub out_low : {Of : Type 0} → OrOut (Word Of) → ℕ
out_low Out = 0
out_low (Working v) = number v
