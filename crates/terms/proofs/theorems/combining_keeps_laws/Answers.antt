use Rattle.std.proofs.Common.{ap}
use Rattle.terms.specs.Rows.{weight_at}
use Rattle.terms.specs.Combinations.{joins}
use Rattle.kinds.proofs.Lawful.{lawful_kind, lawful_weight}
use Rattle.terms.proofs.Combining.{combinations_keep, combinations_associate, combinations_commute}
use Rattle.terms.proofs.Ways.{joins_associate, joins_commute}
use Rattle.terms.proofs.theorems.combining_keeps_laws.Goals as goal

pub returns : goal.returns
returns g c =
    let k = lawful_kind g.met.P.Performance in
    let w = lawful_weight g.met.W.Weight in
    record {
      keeps = λ way. combinations_keep k w (joins g.P.Performance way);
      associates = λ way xs ys zs p. ap (λ z. weight_at g.P.Performance g.W.Weight z p) (combinations_associate k w (joins g.P.Performance way) (joins_associate k way) xs ys zs);
      commutes = λ way e. combinations_commute k w (joins g.P.Performance way) (joins_commute k way e);
    }
