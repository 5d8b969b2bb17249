use Rattle.std.proofs.Common.{rules}
use Rattle.terms.specs.Picking.{with_b}
use Rattle.kinds.proofs.Lawful.{lawful_kind, lawful_weight}
use Rattle.terms.proofs.Voiding.{void_b}
use Rattle.terms.proofs.bridge.Arms.with_a.Goals as goal

pub returns : goal.returns
returns g c = c.for_each_times.ensures (λ t. with_b g.P.Performance g.W.Weight c.args.a.performance t c.args.self.now) (search rules) (void_b (lawful_kind g.met.P.Performance) (lawful_weight g.met.W.Weight) c.args.a.performance c.args.self.now)
