use Rattle.kinds.proofs.Lawful.{lawful_kind, lawful_weight}
use Rattle.terms.proofs.Combining.{total_same, met_same}
use Rattle.terms.proofs.theorems.summing_keeps_distributions.Goals as goal

pub returns : goal.returns
returns g c =
    let k = lawful_kind g.met.P.Performance in
    let w = lawful_weight g.met.W.Weight in
    λ ts us e. (total_same k w ts us e, λ demand. met_same k w demand ts us e)
