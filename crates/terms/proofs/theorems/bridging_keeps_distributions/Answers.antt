use Rattle.kinds.proofs.Lawful.{lawful_kind, lawful_weight}
use Rattle.terms.proofs.Combining.{bridges_keep}
use Rattle.terms.proofs.theorems.bridging_keeps_distributions.Goals as goal

pub returns : goal.returns
returns g c = bridges_keep (lawful_kind g.met.P.Performance) (lawful_weight g.met.W.Weight)
