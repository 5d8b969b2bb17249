use Rattle.std.proofs.Common.{◌≡◌, ◌∙◌, sym, ℕ, List, [], ◌∷◌, Result, Ok, Err, subst, refl}
use Rattle.std.proofs.lemmas.Result.{IfOk-at_ok}
use Rattle.kinds.specs.Named.{Flow, Parts}
use Rattle.kinds.specs.contracts.flow.FlowPerformance.TheImpl as flow_kind
use Rattle.kinds.specs.contracts.parts.PartsWeight.TheImpl as parts_weight
use Rattle.kinds.proofs.FlowLaws.{flow_laws}
use Rattle.terms.specs.declared.term.Term.{Term}
use Rattle.diagram.specs.declared.refusal.Refusal.{Refusal}
use Rattle.diagram.specs.Calls.{Restated, Collected}
use Rattle.diagram.specs.InTurn.{BothCollected}
use Rattle.diagram.specs.Shown.{records}
use Rattle.diagram.specs.Store.{row_at}
use Rattle.worked.specs.declared.plant.Nodes.{Nodes}
use Rattle.worked.specs.Flows.{new_pump_a}
use Rattle.worked.specs.Plants.{RowAsDrawn, plant_drawn}
use Rattle.worked.proofs.Needs.{state_is}
use Rattle.worked.proofs.Overhauling.{overhauled}
use Rattle.worked.proofs.flows.overhaul.Goals as goal

abbrev pub returns-clause-calls : goal.returns-clause-calls
returns-clause-calls c =
    let one = state_is c.state.result 0 1 c.state.ensures.performance c.state.ensures.weight refl refl in
    let two = state_is c.state-2.result 5 9 c.state-2.ensures.performance c.state-2.ensures.weight refl refl in
    let new : c.state.result ∷ c.state-2.result ∷ [] ≡ new_pump_a = λ i. one i ∷ two i ∷ [] in
    let d = c.args.drawn.now in
    let accepted = subst (λ (r : Result ℕ Refusal). Restated flow_kind.ghosts parts_weight.ghosts (records d.diagram) c.args.store.now d.nodes.pump_a (c.state.result ∷ c.state-2.result ∷ []) r (records c.overhaul.new.self.diagram) c.overhaul.new.store)
    c.in_ok-accepted.ensures c.overhaul.ensures.restated in
    let restated = subst (λ (z : List (Term Flow Parts)). Restated flow_kind.ghosts parts_weight.ghosts (records d.diagram) c.args.store.now d.nodes.pump_a z (Ok c.in_ok-accepted.field-0) (records c.overhaul.new.self.diagram) c.overhaul.new.store) new accepted in
    let same = c.overhaul.ensures.nodes in
    let why = c.in_ok-why-2.why.refusal in
    let refused = subst (λ (r : Result ℕ Refusal). Collected flow_kind.ghosts parts_weight.ghosts (records c.overhaul.new.self.diagram) c.overhaul.new.store c.overhaul.new.self.nodes.plant r (records c.collect-early.new.self) c.collect-early.new.store)
    c.in_ok-why-2.ensures c.collect-early.ensures in
    let early = subst (λ (z : Nodes). Collected flow_kind.ghosts parts_weight.ghosts (records c.overhaul.new.self.diagram) c.overhaul.new.store z.plant (Err why) (records c.collect-early.new.self) c.collect-early.new.store) same refused in
    let both = subst (λ (z : Nodes). BothCollected flow_kind.ghosts parts_weight.ghosts (records c.collect-early.new.self) c.collect-early.new.store z.pumps z.plant (records c.collect.new.self.diagram) c.collect.new.store) same
    (IfOk-at_ok _ c.in_ok-accepted-2.ensures c.collect.ensures.collected) in
    record {
      n = c.in_ok-accepted.field-0;
      stale = records c.overhaul.new.self.diagram;
      left = c.overhaul.new.store;
      restated = restated;
      why = why;
      as_stale = records c.collect-early.new.self;
      kept = c.collect-early.new.store;
      early = early;
      again = both;
    }

pub returns-clause-row : goal.returns-clause-row
returns-clause-row c = λ p before.
    let calls = returns-clause-calls c in
    subst (λ (z : Nodes). RowAsDrawn flow_kind.ghosts (record p { pump_a = new_pump_a }) plant_drawn (row_at (records c.collect.new.self.diagram) c.collect.new.store z.plant)) (sym (c.collect.ensures.nodes ∙ c.overhaul.ensures.nodes))
    (overhauled flow_kind.ghosts flow_laws c.runs_are_right.ensures.answers_right p c.args.drawn.now c.args.store.now before new_pump_a calls.n calls.why c.overhaul.new.self.diagram c.collect-early.new.self c.collect.new.self.diagram
    c.overhaul.new.store c.collect-early.new.store c.collect.new.store calls.restated calls.early calls.again)
