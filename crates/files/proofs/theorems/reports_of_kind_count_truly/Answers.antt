use Rattle.kinds.proofs.Lawful.{lawful_kind, lawful_weight}
use Rattle.files.proofs.Counted.{analysed_counts}
use Rattle.files.proofs.theorems.reports_of_kind_count_truly.Goals as goal

pub returns : goal.returns
returns g c = analysed_counts _ _ _ _ (lawful_kind g.met.P.Performance) (lawful_weight g.met.W.Weight)
