use Rattle.std.proofs.Common.{arith}
use Rattle.diagram.proofs.Marking.{with_next, start, next_in, step, nearer, all_marked}
use Rattle.diagram.proofs.table.Table.mark_above.Goals as goal

pub loop-next-init : goal.loop-next-init
loop-next-init c = start c.requires.sound c.args.k c.requires.node

pub mark-next-requires : goal.mark-next-requires
mark-next-requires c = omega (arith, (next_in c.requires.sound c.args.k c.requires.node (with_next c.loop-next.invariant c.in-Some.is)).1, c.requires.sound.few)

pub loop-next-smaller : goal.loop-next-smaller
loop-next-smaller c = rw c.mark-next.ensures.user (rw c.in-Some.is (nearer c.requires.sound c.args.k c.requires.node (with_next c.loop-next.invariant c.in-Some.is)))

pub loop-next-preserved : goal.loop-next-preserved
loop-next-preserved c = rw c.mark-next.ensures.user (step c.requires.sound c.args.k c.requires.node (omega arith) (with_next c.loop-next.invariant c.in-Some.is) c.mark-next.ensures.marked)

pub returns : goal.returns
returns c = all_marked c.requires.sound c.args.k c.requires.node (with_next c.loop-next.invariant c.in_default.is)
