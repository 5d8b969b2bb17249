use Rattle.kinds.proofs.Lawful.{lawful_kind, lawful_weight}
use Rattle.diagram.proofs.Promise.{answers_right, answers_alike}
use Rattle.diagram.proofs.diagram.Diagram.new.Goals as goal

pub returns-in_err-unless-clause-answers_right : goal.returns-in_err-unless-clause-answers_right
returns-in_err-unless-clause-answers_right g c = answers_right g.P.Performance g.W.Weight (lawful_kind g.met.P.Performance) (lawful_weight g.met.W.Weight)

pub returns-in_err-unless-clause-answers_alike : goal.returns-in_err-unless-clause-answers_alike
returns-in_err-unless-clause-answers_alike g c = answers_alike g.P.Performance g.W.Weight (lawful_kind g.met.P.Performance) (lawful_weight g.met.W.Weight)

pub returns-clause-answers_right : goal.returns-clause-answers_right
returns-clause-answers_right g c = answers_right g.P.Performance g.W.Weight (lawful_kind g.met.P.Performance) (lawful_weight g.met.W.Weight)

pub returns-clause-answers_alike : goal.returns-clause-answers_alike
returns-clause-answers_alike g c = answers_alike g.P.Performance g.W.Weight (lawful_kind g.met.P.Performance) (lawful_weight g.met.W.Weight)
