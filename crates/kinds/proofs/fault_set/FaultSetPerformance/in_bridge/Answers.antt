use Rattle.kinds.proofs.Crossing.{faults_crossed}
use Rattle.kinds.proofs.fault_set.FaultSetPerformance.in_bridge.Goals as goal

pub returns : goal.returns
returns c =
    rw (c.intersection.ensures, c.union.ensures, c.around_c-around.ensures, c.without_c-without.ensures)
    (faults_crossed c.args.a c.args.b c.args.c c.args.d c.args.e)
