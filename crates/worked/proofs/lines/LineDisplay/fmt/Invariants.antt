use Rattle.std.proofs.Common.{◌++◌, take}
use Rattle.std.specs.Fmt.{HasWritten, IsPlainFormatter}
use Rattle.worked.specs.Lines.{row_text}
use Rattle.worked.proofs.lines.LineDisplay.fmt.Given as goal

abbrev pub invariant-loop-t : goal.invariant-loop-t
invariant-loop-t g l = IsPlainFormatter l.fn.f → HasWritten g.W.Write.write_str_gives l.fn.f (l.fn.self.name.now ++ row_text (take l.t-index l.fn.self.row.now)) l.f
