use Rattle.std.proofs.Common.{◌≤◌}
use Rattle.diagram.specs.Records.{size_at}
use Rattle.diagram.proofs.LoopOverNodes.{each_more}
use Rattle.diagram.proofs.table.Table.children_have_at_most.Goals as goal

pub loop-c-preserved : goal.loop-c-preserved
loop-c-preserved c = each_more (λ x. size_at c.args.self.now x ≤ c.args.n) c.children_of-c-items.result.now c.loop-c.c-index c.loop-c-test.true c.loop-c.invariant c.if-self-c.false
