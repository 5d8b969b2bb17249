-- What is answered of the availability is answered of the share.
use Rattle.std.proofs.Common.{ap}
use Rattle.grades.specs.Lines.{share_text}
use Rattle.diagram.proofs.RunGoesOn.{yes, given, ok_same}
use Rattle.grades.proofs.answers.Share.of.Goals as goal

pub returns : goal.returns
returns c =
    let roomy = given c.in_ok-met.ensures in
    let node = given roomy.1 in
    let current = given node.1 in
    yes roomy.0 (yes node.0 (yes current.0 (ap (λ told. share_text c.args.grade told.0 told.1) (ok_same current.1))))
