-- Cited by private functions only: the plant as it is drawn, step by step.
use Rattle.std.specs.Prelude.{◌≡◌, ℕ, List, [], ◌∷◌, length, Result, Ok}
use Rattle.terms.specs.declared.term.Term.{Term}
use Rattle.terms.specs.declared.term.Way.TheVariants.{Series, Parallel}
use Rattle.diagram.specs.declared.diagram.Diagram.{Diagram}
use Rattle.diagram.specs.declared.refusal.Refusal.{Refusal}
use Rattle.diagram.specs.Histories.{Making, added, joined_from, collecting, number, Entry, History}
use Rattle.diagram.specs.Runs.{Run}
use Rattle.diagram.specs.Makings.{history_of}
use Rattle.grades.specs.contracts.grade_kind.GradePerformance.TheImpl.{ghosts as grade_kind}
use Rattle.grades.specs.contracts.batches_weight.BatchesWeight.TheImpl.{ghosts as batches_weight}
use Rattle.grades.specs.declared.batches.Batches.{Batches}
use Rattle.grades.specs.declared.grade.Grade.{Grade}
use Rattle.grades.specs.declared.share.Joined.{Joined}
use Rattle.grades.specs.declared.share.Nodes.{Nodes}
use Rattle.grades.specs.Shares.{StatesAsked, RowsOfShare}

-- the parts' numbers, as they are made
abbrev pub in_order : Nodes
in_order = record { first = 0; second = 1; finishing = 2 }

-- the joined nodes' numbers, as they are made
abbrev pub joined_in_order : Joined
joined_in_order = record { lines = 3; whole = 4 }

-- a node was collected, and its row had so many terms
abbrev pub collected : ℕ → ℕ → ℕ → Entry Grade Batches
collected lent k size = record { call = collecting k; lent = lent; reply = Ok (number size) }

module _ (first second finishing : List (Term Grade Batches)) where
  -- the newest node first
  abbrev pub parts_made : List (Making Grade Batches)
  parts_made = added finishing ∷ added second ∷ added first ∷ []

  abbrev pub nodes_made : List (Making Grade Batches)
  nodes_made = joined_from Series (3 ∷ 2 ∷ []) ∷ joined_from Parallel (0 ∷ 1 ∷ []) ∷ parts_made

  -- the calls so far, the newest first, once both joined nodes are collected
  abbrev pub worked_out : ℕ → ℕ → ℕ → History Grade Batches
  worked_out lent m n = collected lent 4 n ∷ collected lent 3 m ∷ history_of lent nodes_made

  module _ (lent : ℕ) (d : Diagram Grade Batches) (s : List (Term Grade Batches)) where
    -- the parts are added, or the first that has too few states or too many is refused
    abbrev pub PartsAdded : Result Nodes Refusal → Type 0
    PartsAdded r =
        StatesAsked first second finishing r
        ((r ≡ Ok in_order) × Run grade_kind batches_weight (history_of lent parts_made) d s)

    -- the parts are joined
    abbrev pub PartsJoined : Result Joined Refusal → Type 0
    PartsJoined r = (r ≡ Ok joined_in_order) × Run grade_kind batches_weight (history_of lent nodes_made) d s

    -- the parts are joined and worked out, as node 4
    abbrev pub PlantWorkedOut : Result ℕ Refusal → Type 0
    PlantWorkedOut r = (r ≡ Ok 4) × (m : ℕ) × (n : ℕ) × Run grade_kind batches_weight (worked_out lent m n) d s

-- whichever the parts' states: where nothing was called but their adding, they are joined, or worked out, and these rows stand
module _ (d : Diagram Grade Batches) (s : List (Term Grade Batches)) (d' : Diagram Grade Batches) where
  abbrev Where : (List (Term Grade Batches) → List (Term Grade Batches) → List (Term Grade Batches) → Type 0) → Type 0
  Where so = (first second finishing : List (Term Grade Batches)) → Run grade_kind batches_weight (history_of (length s) (parts_made first second finishing)) d s → so first second finishing

  abbrev pub JoinsParts : Result Joined Refusal → Type 0
  JoinsParts r = Where (λ first second finishing. PartsJoined first second finishing (length s) d' s r)

  abbrev pub WorksOut : List (Term Grade Batches) → Result ℕ Refusal → Type 0
  WorksOut s' r = Where (λ first second finishing. PlantWorkedOut first second finishing (length s) d' s' r)

  abbrev pub LeavesRows : List (Term Grade Batches) → Type 0
  LeavesRows s' = Where (λ first second finishing. RowsOfShare first second finishing 5 s s')
