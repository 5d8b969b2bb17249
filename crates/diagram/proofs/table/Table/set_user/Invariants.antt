use Rattle.std.proofs.Common.{take}
use Rattle.diagram.specs.Writing.{UserSet}
use Rattle.diagram.proofs.table.Table.set_user.Given as goal

abbrev pub invariant-loop-c : goal.invariant-loop-c
invariant-loop-c l = UserSet l.initial.self l.self (take l.c-index l.children) l.u
