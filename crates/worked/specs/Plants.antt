-- The plant as drawings, and what is worked out for it.
use Rattle.std.specs.Prelude.{◌≡◌, ℕ, ◌<◌, ◌≤◌, List, length, Result}
use Rattle.kinds.specs.Named.{Parts}
use Rattle.kinds.specs.declared.performance.Performance
use Rattle.kinds.specs.contracts.parts.PartsWeight.TheImpl as parts_weight
use Rattle.terms.specs.declared.term.Term.{Term}
use Rattle.terms.specs.declared.term.Way.TheVariants.{Series, Parallel}
use Rattle.terms.specs.Rows.{RowOf}
use Rattle.terms.specs.Drawings.{Drawing, part, joined, one, more}
use Rattle.terms.specs.Enumeration.{but, enumeration}
use Rattle.diagram.specs.declared.limits.TheConstants.{STORE}
use Rattle.diagram.specs.declared.refusal.Refusal.{Refusal}
use Rattle.diagram.specs.Refusals.{Asked}
use Rattle.diagram.specs.Calls.{Restated}
use Rattle.diagram.specs.Histories.{History, made, drawing_of, states_of, Answers}
use Rattle.diagram.specs.InTurn.{BothCollected, OneRefused}
use Rattle.diagram.specs.Runs.{Run}
use Rattle.diagram.specs.Shown.{records}
use Rattle.diagram.specs.Standing.{RowsStand}
use Rattle.diagram.specs.Store.{row_at}
use Rattle.worked.specs.declared.plant.Drawn.{Drawn}
use Rattle.worked.specs.declared.plant.Nodes.{Nodes}
use Rattle.worked.specs.declared.plant.Plant.{Plant}

-- parts 0 and 1 are the pumps, part 2 is the pipe
abbrev pub states : {P : Type 0} → Plant P → ℕ → List (Term P Parts)
states p = but 0 p.pump_a (but 1 p.pump_b (λ _. p.pipe))

abbrev pub pumps_drawn : Drawing
pumps_drawn = joined Parallel (more (one (part 0)) (part 1))

abbrev pub plant_drawn : Drawing
plant_drawn = joined Series (more (one pumps_drawn) (part 2))

-- drawn the other way round: the pipe first, then the pumps, exchanged
abbrev pub pumps_redrawn : Drawing
pumps_redrawn = joined Parallel (more (one (part 1)) (part 0))

abbrev pub plant_redrawn : Drawing
plant_redrawn = joined Series (more (one (part 2)) pumps_redrawn)

-- the drawing of each node
abbrev pub each_drawn : ℕ → Drawing
each_drawn = but 3 pumps_drawn (but 4 plant_drawn part)

abbrev pub each_redrawn : ℕ → Drawing
each_redrawn = but 3 pumps_redrawn (but 4 plant_redrawn part)

-- the nodes in the order in which they are made
abbrev pub in_order : Nodes
in_order = record { pump_a = 0; pump_b = 1; pipe = 2; pumps = 3; plant = 4 }

module _ {P : Type 0} (kind : Performance.Ghosts P) where
  -- this is the row of all the combinations of the plant's parts, so drawn
  abbrev pub RowAsDrawn : Plant P → Drawing → List (Term P Parts) → Type 0
  RowAsDrawn p d = RowOf kind parts_weight.ghosts (enumeration kind parts_weight.ghosts (states p) d)

  -- some calls have drawn the plant so, with these states, and left this of the diagram and of the store; each node answers
  pub record DrawnOf (p : Plant P) (so : Drawing) (d : Drawn P) (s : List (Term P Parts)) : Type 0 where
    pub nodes : d.nodes ≡ in_order
    pub calls : History P Parts
    pub run : Run kind parts_weight.ghosts calls d.diagram s
    pub five : made calls ≡ 5
    pub answers : (k : ℕ) → k < 5 → Answers calls k
    pub drawing : drawing_of calls 4 ≡ so
    pub pump_a : states_of calls 0 ≡ p.pump_a
    pub pump_b : states_of calls 1 ≡ p.pump_b
    pub pipe : states_of calls 2 ≡ p.pipe

  -- the plant's node has this row
  abbrev pub PlantRow : Plant P → Drawing → List (Term P Parts) → Drawn P → Type 0
  PlantRow p so s d = RowAsDrawn p so (row_at (records d.diagram) s d.nodes.plant)

  -- pump A has new states; the pumps and the plant are collected; one of them is refused
  module _ (d : Drawn P) (s : List (Term P Parts)) (d' : Drawn P) (s' : List (Term P Parts)) where
    abbrev pub PumpRestated : List (Term P Parts) → Result ℕ Refusal → Type 0
    PumpRestated states r = Restated kind parts_weight.ghosts (records d.diagram) s d.nodes.pump_a states r (records d'.diagram) s'

    abbrev pub PlantCollected : Type 0
    PlantCollected = BothCollected kind parts_weight.ghosts (records d.diagram) s d.nodes.pumps d.nodes.plant (records d'.diagram) s'

    abbrev pub PlantRefused : Refusal → Type 0
    PlantRefused why = OneRefused kind parts_weight.ghosts (records d.diagram) s d.nodes.pumps d.nodes.plant why (records d'.diagram) s'

  -- The plant's five nodes, so drawn, have their rows in their places. Nothing else has changed but the working rows and the rest of these places.
  abbrev pub RowsOfPlant : Plant P → (ℕ → Drawing) → List (Term P Parts) → List (Term P Parts) → Type 0
  RowsOfPlant p drawing = RowsStand kind parts_weight.ghosts (λ k. k < 5) (λ k. enumeration kind parts_weight.ghosts (states p) (drawing k))

  -- what is left of the store: all of it, if it is too short, or the rows of the plant
  abbrev pub LeftByDrawing : Plant P → (ℕ → Drawing) → List (Term P Parts) → List (Term P Parts) → Type 0
  LeftByDrawing p drawing s s' = Asked (STORE ≤ length s) (s' ≡ s) (RowsOfPlant p drawing s s')
