-- What the words that are left write comes after what was found.
use Rattle.std.proofs.Common.{ℕ, List, ◌++◌}
use Rattle.std.specs.Str.Iter.{split_whitespace_rest}
use Rattle.calls.specs.Numbers.{WritesNumbers}
use Rattle.calls.proofs.numbers.numbers.Given as goal

abbrev pub invariant-loop-word : goal.invariant-loop-word
invariant-loop-word l = (ns : List ℕ) → WritesNumbers (split_whitespace_rest l.word-iterator) ns → WritesNumbers l.text (l.found.items ++ ns)
