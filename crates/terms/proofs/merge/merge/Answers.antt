use Rattle.std.proofs.Common.{[], ◌∷◌, rules}
use Rattle.terms.proofs.Each.{each_single}
use Rattle.terms.proofs.merge.merge.Goals as goal

pub returns : goal.returns
returns g c = rw each_single at (c.of_each.ensures (λ t. t ∷ []) (search rules))
