use Rattle.kinds.specs.contracts.flow.FlowPerformance.TheImpl as flow_kind
use Rattle.kinds.specs.contracts.parts.PartsWeight.TheImpl as parts_weight
use Rattle.diagram.specs.Shown.{records}
use Rattle.worked.proofs.Rows.{copied}
use Rattle.worked.proofs.answers.CopiedRow.of.Goals as goal

pub loop-i-preserved : goal.loop-i-preserved
loop-i-preserved c =
    copied flow_kind.ghosts parts_weight.ghosts (records c.args.diagram.now) c.args.diagram.now.sound c.args.store.now c.args.k c.loop-i.i c.in_ok-terms.field-0 c.loop-i.terms
    c.loop-i.invariant.0 c.loop-i.invariant.1 c.in_ok-terms.ensures
