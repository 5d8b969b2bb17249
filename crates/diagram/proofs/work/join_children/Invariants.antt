use Rattle.std.proofs.Common.{◌≡◌, ◌≤◌, length, take}
use Rattle.diagram.specs.declared.limits.TheConstants.{TERMS}
use Rattle.diagram.proofs.Joining.{Reached}
use Rattle.diagram.proofs.work.join_children.Given as goal

-- the children before are joined
abbrev pub invariant-loop-child : goal.invariant-loop-child
invariant-loop-child g l =
    (l.len ≤ TERMS) × (length l.room ≡ TERMS) × (length l.next ≡ TERMS)
    × Reached g.P.Performance g.W.Weight l.table l.rows l.k l.way l.child-items l.child-index (take l.len l.room)
