use Rattle.kinds.proofs.Lawful.{lawful_kind, lawful_weight}
use Rattle.diagram.proofs.Promise.{answers_right, answers_alike}
use Rattle.diagram.proofs.theorems.runs_are_right.Goals as goal

pub returns : goal.returns
returns g c =
    let k = lawful_kind g.met.P.Performance in
    let w = lawful_weight g.met.W.Weight in
    record {
      answers_right = answers_right g.P.Performance g.W.Weight k w;
      answers_alike = answers_alike g.P.Performance g.W.Weight k w;
    }
