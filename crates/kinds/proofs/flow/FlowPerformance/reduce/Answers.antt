use Rattle.std.proofs.Common.{refl}
use Rattle.kinds.specs.OuterArms.{outer_arms}
use Rattle.kinds.specs.Words.{zero_word}
use Rattle.kinds.proofs.Reducing.{flow_reduced}
use Rattle.kinds.proofs.flow.FlowPerformance.reduce.Goals as goal

pub returns : goal.returns
returns c =
    rw (c.new.ensures.only zero_word refl, c.smaller-around.ensures, c.around_c.ensures, c.without_c-without.ensures)
    (flow_reduced (outer_arms c.args.a.now c.args.b.now c.args.d.now c.args.e.now))
