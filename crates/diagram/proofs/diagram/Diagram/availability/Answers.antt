use Rattle.std.proofs.Common.{refl}
use Rattle.diagram.proofs.Asking.{err_is, answered, handed_on}
use Rattle.diagram.proofs.Children.{in_store}
use Rattle.diagram.proofs.diagram.Diagram.availability.Goals as goal

pub returns-in_err-answers : goal.returns-in_err-answers
returns-in_err-answers g c = handed_on c.answers.ensures c.in_err-answers.was (err_is c.from_residual.ensures.1 refl)

pub row_of-requires-clause-node : goal.row_of-requires-clause-node
row_of-requires-clause-node g c = in_store c.args.self.now.table c.args.self.now.sound c.args.k (answered c.answers.ensures c.in_ok-answers.was).1
