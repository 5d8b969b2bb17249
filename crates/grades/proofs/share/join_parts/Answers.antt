use Rattle.std.proofs.Common.{refl, sym, Ok}
use Rattle.diagram.proofs.RunGoesOn.{ok_not_err, ok_same}
use Rattle.grades.proofs.Building.{lines_joined, whole_joined}
use Rattle.grades.proofs.share.join_parts.Goals as goal

pub returns-in_err-lines : goal.returns-in_err-lines
returns-in_err-lines c first second finishing run =
    let one = lines_joined c.requires.right c.requires.roomy refl run c.requires.parts c.join.new.self c.in_err-lines.ensures in
    absurd (ok_not_err (sym one.0))

pub returns-in_err-whole : goal.returns-in_err-whole
returns-in_err-whole c first second finishing run =
    let one = lines_joined c.requires.right c.requires.roomy refl run c.requires.parts c.join.new.self c.in_ok-lines.ensures in
    let two = whole_joined c.requires.right c.requires.roomy refl one.1 (ok_same one.0) c.requires.parts c.join-2.new.self c.in_err-whole.ensures in
    absurd (ok_not_err (sym two.0))

pub returns : goal.returns
returns c first second finishing run =
    let one = lines_joined c.requires.right c.requires.roomy refl run c.requires.parts c.join.new.self c.in_ok-lines.ensures in
    let two = whole_joined c.requires.right c.requires.roomy refl one.1 (ok_same one.0) c.requires.parts c.join-2.new.self c.in_ok-whole.ensures in
    (λ i. Ok (record { lines = ok_same one.0 i; whole = ok_same two.0 i }), two.1)
