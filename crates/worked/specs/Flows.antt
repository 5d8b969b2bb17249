-- What the plant answers by what flows through it.
use Rattle.std.specs.Prelude.{ℕ, List, [], ◌∷◌, Result, Ok, Err}
use Rattle.kinds.specs.Named.{Flow, Parts}
use Rattle.kinds.specs.Words.{capped_word}
use Rattle.kinds.specs.contracts.flow.FlowPerformance.TheImpl as flow_kind
use Rattle.kinds.specs.contracts.parts.PartsWeight.TheImpl as parts_weight
use Rattle.terms.specs.declared.term.Term.{Term}
use Rattle.terms.specs.declared.term.Way.TheVariants.{Parallel}
use Rattle.diagram.specs.declared.limits.TheConstants.{STORE}
use Rattle.diagram.specs.declared.refusal.Refusal.{Refusal}
use Rattle.diagram.specs.declared.table.Table.{Table}
use Rattle.diagram.specs.Calls.{Restated, Collected}
use Rattle.diagram.specs.InTurn.{BothCollected}
use Rattle.diagram.specs.Shown.{records}
use Rattle.diagram.specs.Store.{row_at}
use Rattle.worked.specs.declared.answers.RowAndNeeds.{RowAndNeeds}
use Rattle.worked.specs.declared.plant.Drawn.{Drawn}
use Rattle.worked.specs.declared.plant.Plant.{Plant}
use Rattle.worked.specs.Answering.{AnswersOf}
use Rattle.worked.specs.Examples.{◌at◌}
use Rattle.worked.specs.Plants.{RowAsDrawn, DrawnOf, plant_drawn, plant_redrawn}
use Rattle.worked.specs.TwoParts.{OfTwo}

-- so answers the whole plant in this diagram
abbrev pub PlantAnswers : Drawn Flow → List (Term Flow Parts) → RowAndNeeds → Type 0
PlantAnswers d store = AnswersOf (row_at (records d.diagram) store d.nodes.plant)

-- so answers the plant drawn the other way round, by the row of all its combinations
abbrev pub RedrawnAnswers : Plant Flow → RowAndNeeds → Type 0
RedrawnAnswers p a = (row : List (Term Flow Parts)) × RowAsDrawn flow_kind.ghosts p plant_redrawn row × AnswersOf row a

-- what of the pumps in parallel meets a need of 3
abbrev pub PumpsAlone : Plant Flow → Result (Parts × Parts) Refusal → Type 0
PumpsAlone p = OfTwo flow_kind.ghosts parts_weight.ghosts Parallel p.pump_a p.pump_b (capped_word 3) STORE

-- pump A once it is overhauled: it stands still in 1 part of 10, and passes 5 in 9
abbrev pub new_pump_a : List (Term Flow Parts)
new_pump_a = 0 at 1 ∷ 5 at 9 ∷ []

-- where the plant was drawn, its row is afterwards that of all the combinations of its parts, with the new pump A
abbrev pub Overhauled : Drawn Flow → List (Term Flow Parts) → Drawn Flow → List (Term Flow Parts) → Type 0
Overhauled d s d' s' =
    (p : Plant Flow) → DrawnOf flow_kind.ghosts p plant_drawn d s → RowAsDrawn flow_kind.ghosts (record p { pump_a = new_pump_a }) plant_drawn (row_at (records d'.diagram) s' d'.nodes.plant)

-- the calls of an overhaul: pump A has new states; a collecting of the plant is refused then, and after it the pumps and the plant are collected
pub record OverhaulCalls (d : Drawn Flow) (s : List (Term Flow Parts)) (d' : Drawn Flow) (s' : List (Term Flow Parts)) : Type 0 where
  pub n : ℕ
  pub stale : Table
  pub left : List (Term Flow Parts)
  pub restated : Restated flow_kind.ghosts parts_weight.ghosts (records d.diagram) s d.nodes.pump_a new_pump_a (Ok n) stale left
  pub why : Refusal
  pub as_stale : Table
  pub kept : List (Term Flow Parts)
  pub early : Collected flow_kind.ghosts parts_weight.ghosts stale left d.nodes.plant (Err why) as_stale kept
  pub again : BothCollected flow_kind.ghosts parts_weight.ghosts as_stale kept d.nodes.pumps d.nodes.plant (records d'.diagram) s'
