use Rattle.std.proofs.Common.{rules}
use Rattle.terms.specs.Combinations.{joins}
use Rattle.terms.proofs.combine.with_all.Goals as goal

pub returns : goal.returns
returns g c = c.put_each.ensures (joins g.P.Performance c.args.way c.args.x.performance) (search rules)
