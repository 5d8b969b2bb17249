use Rattle.std.proofs.Common.{◌≤◌, subst, sym, arith}
use Rattle.diagram.specs.declared.limits.TheConstants.{STORE}
use Rattle.diagram.specs.Runs.{Run}
use Rattle.diagram.specs.Makings.{history_of}
use Rattle.grades.specs.contracts.grade_kind.GradePerformance.TheImpl.{ghosts as grade_kind}
use Rattle.grades.specs.contracts.batches_weight.BatchesWeight.TheImpl.{ghosts as batches_weight}
use Rattle.grades.specs.Building.{parts_made}
use Rattle.diagram.proofs.RunGoesOn.{yes, given, granted, ok_same, ok_not_err}
use Rattle.grades.proofs.Leaving.{rows_on, after_three}
use Rattle.grades.proofs.Building.{whole_told}
use Rattle.grades.proofs.share.share_of_grade.Goals as goal

pub returns-clause-answer : goal.returns-clause-answer
returns-clause-answer c =
    let long = c.add_parts.auto.store in
    let made = given c.in_ok-plant.ensures.made in
    let one = given c.in_ok-parts.ensures.added in
    let two = given one.1 in
    let three = given two.1 in
    let parts = parts_made c.args.first.now c.args.second.now c.args.finishing.now in
    let run = subst (λ n. Run grade_kind batches_weight (history_of n parts) c.add_parts.new.plant c.add_parts.new.store) (sym long) three.1.1 in
    let worked = c.in_ok-whole.ensures.worked c.args.first.now c.args.second.now c.args.finishing.now run in
    let child_by_child = c.combinations_go_child_by_child.ensures in
    yes made.0 (yes one.0 (yes two.0 (yes three.0
    (whole_told c.new.ensures.answers_right (subst (λ n. STORE ≤ n) (sym long) made.0) c.work_out.auto.store child_by_child.of_part child_by_child.of_more c.summing_keeps_distributions.ensures
    worked.3 (ok_same worked.0) c.args.grade c.availability.result c.availability.ensures))))

pub returns-clause-left : goal.returns-clause-left
returns-clause-left c =
    let long = c.add_parts.auto.store in
    let first = c.args.first.now in
    let second = c.args.second.now in
    let finishing = c.args.finishing.now in
    let made = given c.in_ok-plant.ensures.made in
    let one = given c.in_ok-parts.ensures.added in
    let two = given one.1 in
    let three = given two.1 in
    let run = subst (λ n. Run grade_kind batches_weight (history_of n (parts_made first second finishing)) c.add_parts.new.plant c.add_parts.new.store) (sym long) three.1.1 in
    let parts = granted three.0 (granted two.0 (granted one.0 c.in_ok-parts.ensures.left)) in
    yes made.0 (yes one.0 (yes two.0 (yes three.0 (rows_on first second finishing (omega arith) parts (c.in_ok-whole.ensures.left first second finishing run)))))

-- a part is refused, and so one of the questions has the answer no
pub returns-in_err-parts-clause-left : goal.returns-in_err-parts-clause-left
returns-in_err-parts-clause-left c =
    let made = given c.in_ok-plant.ensures.made in
    let said = c.in_err-parts.ensures in
    yes made.0 (after_three (λ p q r _. absurd (ok_not_err (sym (granted r (granted q (granted p said.added))).0))) said.left)
