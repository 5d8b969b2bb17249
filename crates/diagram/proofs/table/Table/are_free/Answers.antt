use Rattle.diagram.specs.Calls.{Free}
use Rattle.diagram.proofs.LoopOverNodes.{each_more}
use Rattle.diagram.proofs.table.Table.are_free.Goals as goal

pub loop-c-preserved : goal.loop-c-preserved
loop-c-preserved c = each_more (Free c.args.self.now) c.args.children.now c.loop-c.c-index c.loop-c-test.true c.loop-c.invariant (c.is_free.ensures.0 c.if-not-is_free.false)
