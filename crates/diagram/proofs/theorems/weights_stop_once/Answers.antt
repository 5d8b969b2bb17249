use Rattle.kinds.proofs.Lawful.{lawful_kind, lawful_weight}
use Rattle.diagram.proofs.Counted.{weights_stop}
use Rattle.diagram.proofs.theorems.weights_stop_once.Goals as goal

pub returns : goal.returns
returns g c = weights_stop g.P.Performance g.W.Weight (lawful_kind g.met.P.Performance) (lawful_weight g.met.W.Weight)
