use Rattle.diagram.proofs.Marking.{Climbed, to_top}
use Rattle.diagram.proofs.table.Table.mark_above.Given as goal

abbrev pub invariant-loop-next : goal.invariant-loop-next
invariant-loop-next l = Climbed l.initial.self l.self l.k l.next

abbrev pub decreases-loop-next : goal.decreases-loop-next
decreases-loop-next l = to_top l.next
