use Rattle.std.proofs.Common.{ℕ, List, [], ◌∷◌, Result, Ok, Err, IfOk, subst}
use Rattle.std.proofs.lemmas.Result.{IfOk-at_ok}
use Rattle.terms.specs.declared.term.Term.{Term}
use Rattle.diagram.specs.declared.refusal.Refusal.{Refusal}
use Rattle.diagram.specs.Calls.{Restated, Collected}
use Rattle.diagram.specs.Shown.{records}
use Rattle.grades.specs.contracts.grade_kind.GradePerformance.TheImpl.{ghosts as grade_kind}
use Rattle.grades.specs.contracts.batches_weight.BatchesWeight.TheImpl.{ghosts as batches_weight}
use Rattle.grades.specs.declared.batches.Batches.{Batches}
use Rattle.grades.specs.declared.grade.Grade.{Grade}
use Rattle.grades.specs.Plants.{Retooled}
use Rattle.grades.proofs.plant.new_tools.Goals as goal

-- what holds in any case
always : {A E p : Type 0} (r : Result A E) → p → IfOk r (λ x. p)
always (Ok x) h = h
always (Err e) h = tt

pub returns-clause-calls : goal.returns-clause-calls
returns-clause-calls c =
    let one = c.in_ok-state.ensures in
    let two = c.in_ok-state-2.ensures in
    let new : List (Term Grade Batches) = c.in_ok-state.field-0 ∷ c.in_ok-state-2.field-0 ∷ [] in
    let calls : Retooled c.args.plant.now c.args.store.now c.collect-2.new.self c.collect-2.new.store = record {
      states = new;
      new = λ i. (one.0 i, one.1 i) ∷ (two.0 i, two.1 i) ∷ [];
      n = c.in_ok-accepted.field-0;
      stale = records c.restate.new.self;
      left = c.restate.new.store;
      restated = subst (λ (r : Result ℕ Refusal). Restated grade_kind batches_weight (records c.args.plant.now.diagram) c.args.store.now c.args.plant.now.first new r (records c.restate.new.self) c.restate.new.store) c.in_ok-accepted.ensures c.restate.ensures;
      why = c.in_ok-early.ensures.0;
      as_stale = records c.collect.new.self;
      kept = c.collect.new.store;
      early = subst (λ (r : Result ℕ Refusal). Collected grade_kind batches_weight (records c.restate.new.self) c.restate.new.store c.args.plant.now.whole r (records c.collect.new.self) c.collect.new.store) c.in_ok-early.ensures.1 c.collect.ensures;
      again = IfOk-at_ok _ c.in_ok-accepted-2.ensures c.collect-2.ensures.collected;
    } in
    always _ calls
