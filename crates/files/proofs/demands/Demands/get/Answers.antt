-- Past the last demand there are fewer than the bytes of one.
use Rattle.std.proofs.Common.{◌*◌, length, length-append, length-drop, ap, arith}
use Rattle.files.specs.declared.limits.TheConstants.{DEMAND_BYTES}
use Rattle.files.specs.Contents.{performance_bytes}
use Rattle.files.proofs.demands.Demands.get.Goals as goal

pub returns-then-i-self-clause-none : goal.returns-then-i-self-clause-none
returns-then-i-self-clause-none g c = λ (p, rest, e).
    omega (arith, ap length e, length-append (performance_bytes g.P.FilePerformance p) rest, length-drop (DEMAND_BYTES * c.args.i) c.args.self.now.bytes.now)
