use Rattle.std.proofs.Common.{rules, ◌≡◌, Ok, Err, sym, ◌∙◌, ap, subst, arith}
use Rattle.std.proofs.lemmas.Bool.{true≢false}
use Rattle.kinds.proofs.Lawful.{lawful_kind, lawful_weight}
use Rattle.diagram.specs.Calls.{Collected}
use Rattle.diagram.specs.InTurn.{CollectedTo, none_yet, past_part, one_more, CollectsInTurn}
use Rattle.diagram.specs.Shown.{records}
use Rattle.diagram.proofs.Facts.{part_unless}
use Rattle.diagram.proofs.InTurn.{current_to, in_runs}
use Rattle.diagram.proofs.PassedOn.{passed, turned, passed_on}
use Rattle.diagram.proofs.RunGoesOn.{yes}
use Rattle.diagram.proofs.diagram.Diagram.collect_all.Goals as goal
use Rattle.diagram.proofs.diagram.Diagram.collect_all.Goals.{then-is_joined+in_ok-map_err, else-is_joined}

pub loop-k-init : goal.loop-k-init
loop-k-init g c = none_yet

pub returns-in_err-map_err-clause-in_turn : goal.returns-in_err-map_err-clause-in_turn
returns-in_err-map_err-clause-in_turn g c =
    let (refusal, is, told) = turned _ c.map_err.ensures.cases c.in_err-map_err.was in
    let refused = subst (λ z. Collected g.P.Performance g.W.Weight (records c.loop-k.self) c.loop-k.store c.loop-k.k-counter z (records c.collect.new.self) c.collect.new.store) is c.collect.ensures in
    let at : c.from_residual.result ≡ Err (record { node = c.loop-k.k-counter; refusal = refusal }) = passed_on c.from_residual.ensures.1 ∙ ap Err (search rules) in
    subst (λ r. CollectsInTurn g.P.Performance g.W.Weight c.args.self.now c.args.store.now r c.collect.new.self c.collect.new.store) (sym at) (yes (omega (arith, c.if-store-lt-STORE.false))
    (c.loop-k.self, c.loop-k.store, c.loop-k.invariant, c.loop-k-test.true, c.is_joined.ensures.0 c.if-is_joined.true, refused))

pub returns-in_err-map_err-clause-in_runs : goal.returns-in_err-map_err-clause-in_runs
returns-in_err-map_err-clause-in_runs g c = in_runs _ _ (lawful_kind g.met.P.Performance) (lawful_weight g.met.W.Weight) _ _ _ _ _ (returns-in_err-map_err-clause-in_turn g c)

pub loop-k-preserved : goal.loop-k-preserved
loop-k-preserved g c = elim c.if-is_joined.branch [
  | then-is_joined+in_ok-map_err w ↦ rw (w.self-is, w.store-is) (one_more c.loop-k.invariant
      (subst (λ z. Collected g.P.Performance g.W.Weight (records c.loop-k.self) c.loop-k.store c.loop-k.k-counter z (records w.collect.new.self) w.collect.new.store) (passed _ w.map_err.ensures.cases w.in_ok-map_err.was) w.collect.ensures))
  | else-is_joined w ↦ rw (w.self-is, w.store-is) (past_part c.loop-k.invariant (part_unless _ (λ joined. absurd (true≢false (sym (w.if-is_joined.ensures.1 joined))))))
]

pub returns-clause-in_turn : goal.returns-clause-in_turn
returns-clause-in_turn g c =
    let all : c.loop-k.k-counter ≡ c.args.self.now.table.count = omega (arith, c.loop-k-test.false, c.loop-k.auto.k-counter-end) in
    let upto : CollectedTo g.P.Performance g.W.Weight c.args.self.now c.args.store.now c.args.self.now.table.count c.loop-k.self c.loop-k.store = subst (λ n. CollectedTo g.P.Performance g.W.Weight c.args.self.now c.args.store.now n c.loop-k.self c.loop-k.store) all c.loop-k.invariant in
    let current = current_to g.P.Performance g.W.Weight c.args.self.now c.args.store.now (omega arith) upto in
    yes (omega (arith, c.if-store-lt-STORE.false)) (upto, λ k l. current.1 k (omega (arith, l, current.0)))

pub returns-clause-in_runs : goal.returns-clause-in_runs
returns-clause-in_runs g c = in_runs _ _ (lawful_kind g.met.P.Performance) (lawful_weight g.met.W.Weight) _ _ _ _ (Ok _) (returns-clause-in_turn g c)
