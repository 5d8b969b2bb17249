use Rattle.std.proofs.Common.{◌≡◌}
use Rattle.diagram.specs.declared.node.Status.TheVariants.{UpToDate}
use Rattle.diagram.specs.Records.{status_at}
use Rattle.diagram.proofs.LoopOverNodes.{each_more}
use Rattle.diagram.proofs.table.Table.children_are_up_to_date.Goals as goal

pub loop-c-preserved : goal.loop-c-preserved
loop-c-preserved c = each_more (λ x. status_at c.args.self.now x ≡ UpToDate) c.children_of-c-items.result.now c.loop-c.c-index c.loop-c-test.true c.loop-c.invariant (c.is_up_to_date.ensures.0 c.if-not-is_up_to_date.false)
