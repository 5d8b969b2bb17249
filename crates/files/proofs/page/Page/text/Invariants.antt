-- What the loop has written.
use Rattle.std.proofs.Common.{take}
use Rattle.files.specs.Pages.{Wrote}
use Rattle.files.proofs.page.Page.text.Given as goal

abbrev pub invariant-loop-b : goal.invariant-loop-b
invariant-loop-b l = Wrote l.initial.self (take l.b-index l.t) l.self
