use Rattle.std.proofs.Common.{rules}
use Rattle.terms.proofs.combine.combine.Goals as goal

pub returns : goal.returns
returns g c = c.of_each.ensures _ (search rules)
