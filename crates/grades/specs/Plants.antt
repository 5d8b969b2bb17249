-- The plant in a diagram: how it is drawn, and how it is worked out.
use Rattle.std.specs.Prelude.{◌≡◌, ℕ, ◌≤◌, List, [], ◌∷◌, length, map, Ok, Err}
use Rattle.terms.specs.declared.term.Term.{Term}
use Rattle.diagram.specs.declared.limits.TheConstants.{STORE}
use Rattle.diagram.specs.declared.refusal.Refusal.{Refusal}
use Rattle.diagram.specs.declared.table.Table.{Table}
use Rattle.diagram.specs.Refusals.{Asked}
use Rattle.diagram.specs.Calls.{Restated, Collected}
use Rattle.diagram.specs.InTurn.{BothCollected, OneRefused}
use Rattle.diagram.specs.Runs.{Run}
use Rattle.diagram.specs.Shown.{records}
use Rattle.diagram.specs.Makings.{history_of}
use Rattle.grades.specs.contracts.grade_kind.GradePerformance.TheImpl.{ghosts as grade_kind}
use Rattle.grades.specs.contracts.batches_weight.BatchesWeight.TheImpl.{ghosts as batches_weight}
use Rattle.grades.specs.declared.batches.Batches.{Batches}
use Rattle.grades.specs.declared.grade.Grade.{Grade}
use Rattle.grades.specs.declared.plant.Plant.{Plant}
use Rattle.grades.specs.declared.plant.States.{States}
use Rattle.grades.specs.BatchesWeight.{how_many}
use Rattle.grades.specs.GradeKind.{grade_number}
use Rattle.grades.specs.Shares.{RowsOfShare}
use Rattle.grades.specs.Building.{nodes_made}

-- states by their numbers: a grade, and how many batches
abbrev pub numbers_of : List (Term Grade Batches) → List (ℕ × ℕ)
numbers_of = map (λ s. (grade_number s.performance, how_many s.weight))

-- the plant that the program draws, and the grade that it asks for
pub record GivenStates (p : States) : Type 0 where
  pub first : numbers_of p.first ≡ (3, 2) ∷ (7, 8) ∷ []
  pub second : numbers_of p.second ≡ (5, 6) ∷ (8, 4) ∷ []
  pub finishing : numbers_of p.finishing ≡ (4, 1) ∷ (9, 9) ∷ []
  pub asked : grade_number p.asked ≡ 7

-- the two lines stand in parallel and the finishing step after them, each with its states, and nothing else was called
pub record Stands (parts : States) (lent : ℕ) (store : List (Term Grade Batches)) (p : Plant) : Type 0 where
  pub first : p.first ≡ 0
  pub lines : p.lines ≡ 3
  pub whole : p.whole ≡ 4
  pub run : Run grade_kind batches_weight (history_of lent (nodes_made parts.first parts.second parts.finishing)) p.diagram store

-- what is left of the store: all of it, if it is too short, or the rows of the parts
abbrev pub LeftByDrawing : States → List (Term Grade Batches) → List (Term Grade Batches) → Type 0
LeftByDrawing p s s' = Asked (STORE ≤ length s) (s' ≡ s) (RowsOfShare p.first p.second p.finishing 3 s s')

-- the lines are collected, and then the whole; or one of them is refused
module _ (p : Plant) (s : List (Term Grade Batches)) (p' : Plant) (s' : List (Term Grade Batches)) where
  abbrev pub WholeCollected : Type 0
  WholeCollected = BothCollected grade_kind batches_weight (records p.diagram) s p.lines p.whole (records p'.diagram) s'

  abbrev pub WholeRefused : Refusal → Type 0
  WholeRefused why = OneRefused grade_kind batches_weight (records p.diagram) s p.lines p.whole why (records p'.diagram) s'

-- the first line has new states; a collecting of the whole is refused then, and after it the lines and the whole are collected
pub record Retooled (p : Plant) (s : List (Term Grade Batches)) (p' : Plant) (s' : List (Term Grade Batches)) : Type 0 where
  pub states : List (Term Grade Batches)
  pub new : numbers_of states ≡ (6, 1) ∷ (9, 9) ∷ []
  pub n : ℕ
  pub stale : Table
  pub left : List (Term Grade Batches)
  pub restated : Restated grade_kind batches_weight (records p.diagram) s p.first states (Ok n) stale left
  pub why : Refusal
  pub as_stale : Table
  pub kept : List (Term Grade Batches)
  pub early : Collected grade_kind batches_weight stale left p.whole (Err why) as_stale kept
  pub again : BothCollected grade_kind batches_weight as_stale kept p.lines p.whole (records p'.diagram) s'
