use Rattle.std.proofs.Common.{◌≡◌, Result, Ok, Err, MatchResult, IfOk, subst}
use Rattle.diagram.specs.InTurn.{CollectsInTurn, CollectsAll}
use Rattle.diagram.proofs.InTurn.{kept_in_turn}
use Rattle.diagram.proofs.PassedOn.{passed}
use Rattle.grades.specs.contracts.grade_kind.GradePerformance.TheImpl.{ghosts as grade_kind}
use Rattle.grades.specs.contracts.batches_weight.BatchesWeight.TheImpl.{ghosts as batches_weight}
use Rattle.grades.proofs.file.collect_all.Goals as goal

where_accepted : {A E F Told : Type 0} {answer : Result A F} (Refused : E → Type 0) (r : Result A E) → MatchResult r (λ x. answer ≡ Ok x) Refused → ((x : A) → answer ≡ Ok x → Told) → IfOk r (λ x. Told)
where_accepted Refused (Ok x) is so = so x is
where_accepted Refused (Err e) is so = tt

pub returns-clause-kept : goal.returns-clause-kept
returns-clause-kept c = kept_in_turn grade_kind batches_weight c.args.model.now.diagram c.args.store.now c.collect_all.new.self c.collect_all.new.store c.collect_all.result c.collect_all.ensures.in_turn

pub returns-clause-collected : goal.returns-clause-collected
returns-clause-collected c = where_accepted _ c.accepted.result c.accepted.ensures
    (λ x is. subst (λ r. CollectsInTurn grade_kind batches_weight c.args.model.now.diagram c.args.store.now r c.collect_all.new.self c.collect_all.new.store × CollectsAll grade_kind batches_weight c.args.model.now.diagram c.args.store.now r c.collect_all.new.self c.collect_all.new.store)
    (passed _ c.map_err.ensures.cases is) (c.collect_all.ensures.in_turn, c.collect_all.ensures.in_runs))
