use Rattle.std.proofs.Common.{List, length, refl, sym, ap, Ok}
use Rattle.terms.specs.declared.term.Term.{Term}
use Rattle.diagram.specs.declared.diagram.Diagram.{Diagram}
use Rattle.diagram.specs.Runs.{Run}
use Rattle.diagram.specs.Makings.{history_of}
use Rattle.grades.specs.contracts.grade_kind.GradePerformance.TheImpl.{ghosts as grade_kind}
use Rattle.grades.specs.contracts.batches_weight.BatchesWeight.TheImpl.{ghosts as batches_weight}
use Rattle.grades.specs.declared.batches.Batches.{Batches}
use Rattle.grades.specs.declared.grade.Grade.{Grade}
use Rattle.grades.specs.declared.share.Joined.{Joined}
use Rattle.grades.specs.Building.{parts_made}
use Rattle.diagram.proofs.RunGoesOn.{ok_not_err, ok_same}
use Rattle.grades.proofs.Leaving.{all_left}
use Rattle.grades.proofs.Building.{lines_collected, whole_collected}
use Rattle.grades.proofs.share.work_out.Goals as goal

abbrev Terms : Type 0
Terms = List (Term Grade Batches)

-- these are the parts of the diagram, and nothing else was called
abbrev Drawn : Terms → Terms → Terms → Diagram Grade Batches → Terms → Type 0
Drawn first second finishing d s = Run grade_kind batches_weight (history_of (length s) (parts_made first second finishing)) d s

-- none of the calls is refused
pub returns-in_err-joined : goal.returns-in_err-joined
returns-in_err-joined c =
    let none = λ (first second finishing : Terms) (run : Drawn first second finishing c.args.plant.now c.args.store.now). ok_not_err (sym (c.in_err-joined.ensures first second finishing run).0) in
    record { worked = λ first second finishing run. absurd (none first second finishing run); left = λ first second finishing run. absurd (none first second finishing run) }

pub returns-in_err-collect : goal.returns-in_err-collect
returns-in_err-collect c =
    let none = λ (first second finishing : Terms) (run : Drawn first second finishing c.args.plant.now c.args.store.now).
    let two = c.in_ok-joined.ensures first second finishing run in
    let three = lines_collected c.requires.right c.requires.roomy refl two.1 (ap (λ (j : Joined). j.lines) (ok_same two.0)) c.collect.new.self c.collect.new.store c.in_err-collect.ensures in
    ok_not_err (sym three.1) in
    record { worked = λ first second finishing run. absurd (none first second finishing run); left = λ first second finishing run. absurd (none first second finishing run) }

pub returns-in_err-collect-2 : goal.returns-in_err-collect-2
returns-in_err-collect-2 c =
    let none = λ (first second finishing : Terms) (run : Drawn first second finishing c.args.plant.now c.args.store.now).
    let roomy = c.requires.roomy in
    let two = c.in_ok-joined.ensures first second finishing run in
    let three = lines_collected c.requires.right roomy refl two.1 (ap (λ (j : Joined). j.lines) (ok_same two.0)) c.collect.new.self c.collect.new.store c.in_ok-collect.ensures in
    let four = whole_collected c.requires.right roomy c.collect.auto.store three.2 (ap (λ (j : Joined). j.whole) (ok_same two.0)) c.collect-2.new.self c.collect-2.new.store c.in_err-collect-2.ensures in
    ok_not_err (sym four.1) in
    record { worked = λ first second finishing run. absurd (none first second finishing run); left = λ first second finishing run. absurd (none first second finishing run) }

pub returns-clause-worked : goal.returns-clause-worked
returns-clause-worked c first second finishing run =
    let roomy = c.requires.roomy in
    let two = c.in_ok-joined.ensures first second finishing run in
    let is = ap (λ (j : Joined). j.whole) (ok_same two.0) in
    let three = lines_collected c.requires.right roomy refl two.1 (ap (λ (j : Joined). j.lines) (ok_same two.0)) c.collect.new.self c.collect.new.store c.in_ok-collect.ensures in
    let four = whole_collected c.requires.right roomy c.collect.auto.store three.2 is c.collect-2.new.self c.collect-2.new.store c.in_ok-collect-2.ensures in
    (ap Ok is, three.0, four.0, four.2)

pub returns-clause-left : goal.returns-clause-left
returns-clause-left c first second finishing run =
    let roomy = c.requires.roomy in
    let two = c.in_ok-joined.ensures first second finishing run in
    let third = ap (λ (j : Joined). j.lines) (ok_same two.0) in
    let fourth = ap (λ (j : Joined). j.whole) (ok_same two.0) in
    let three = lines_collected c.requires.right roomy refl two.1 third c.collect.new.self c.collect.new.store c.in_ok-collect.ensures in
    let four = whole_collected c.requires.right roomy c.collect.auto.store three.2 fourth c.collect-2.new.self c.collect-2.new.store c.in_ok-collect-2.ensures in
    all_left first second finishing four.2 third _ c.in_ok-collect.ensures fourth _ c.in_ok-collect-2.ensures
