-- The two words that write a performance in a sequence.
use Rattle.std.specs.Prelude.{◌≡◌, ℕ, ◌≤◌, ◌⊎◌}
use Rattle.kinds.specs.Words.{number}
use Rattle.kinds.specs.declared.word.Word.{Word}
use Rattle.kinds.specs.declared.values.OrOut.{OrOut}
use Rattle.kinds.specs.declared.values.OrOut.TheVariants.{Out, Working}
use Rattle.calls.specs.declared.grade.Grade.{Grade}

-- a word is written by 0 and its number
abbrev pub number_words : {Of : Type 0} → Word Of → ℕ × ℕ
number_words v = (0, number v)

abbrev pub AreNumber : ℕ → ℕ → Type 0
AreNumber high low = high ≡ 0

-- and out by 1 and 0
abbrev pub number_or_out_words : {Of : Type 0} → OrOut (Word Of) → ℕ × ℕ
number_or_out_words Out = (1, 0)
number_or_out_words (Working v) = number_words v

abbrev pub AreNumberOrOut : ℕ → ℕ → Type 0
AreNumberOrOut high low = (high ≡ 0) ⊎ ((high ≡ 1) × (low ≡ 0))

-- a grade is written by 0 and its number, which is 9 at most
abbrev pub grade_words : Grade → ℕ × ℕ
grade_words g = (0, g.number)

abbrev pub AreGrade : ℕ → ℕ → Type 0
AreGrade high low = (high ≡ 0) × (low ≤ 9)
