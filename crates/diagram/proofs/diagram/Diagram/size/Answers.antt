use Rattle.std.proofs.Common.{refl}
use Rattle.diagram.proofs.Asking.{err_is, handed_on}
use Rattle.diagram.proofs.diagram.Diagram.size.Goals as goal

pub returns-in_err-answers : goal.returns-in_err-answers
returns-in_err-answers g c = handed_on c.answers.ensures c.in_err-answers.was (err_is c.from_residual.ensures.1 refl)
