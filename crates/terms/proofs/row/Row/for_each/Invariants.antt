use Rattle.std.proofs.Common.{Some, take}
use Rattle.terms.specs.Growing.{GrowsEach}
use Rattle.terms.proofs.row.Row.for_each.Given as goal

abbrev pub invariant-loop-x : goal.invariant-loop-x
invariant-loop-x g l =
    GrowsEach g.P.Performance g.W.Weight (goal.F-post g l.step) (take l.x-index l.xs) l.initial.self l.self (Some tt)
