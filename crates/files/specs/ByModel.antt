-- What a file comes to, by the model that its first byte names.
use Rattle.std.specs.Prelude.{◌≡◌, ℕ, List, [], ◌∷◌, ℤ, Result}
use Rattle.diagram.specs.Refusals.{Asked}
use Rattle.files.specs.declared.fault.Fault.{Fault}
use Rattle.files.specs.declared.fault.Fault.TheVariants.{Model}
use Rattle.files.specs.Faults.{answer_for_c}
use Rattle.files.specs.Analyses.{AnalysedAs}
use Rattle.files.specs.Reports.{Unreported}
use Rattle.files.specs.Counted.{TrueCounts}
use Rattle.files.specs.Models.{some_model, each_model, PartsCount}

-- the first byte names a model
abbrev pub Listed : List ℕ → Type 0
Listed (model ∷ rest) = some_model (λ number P W kind weights file_kind file_weights. model ≡ number)
Listed [] = ⊥

module _ (out : List ℕ) (r : Result ℕ Fault) (out' : List ℕ) where
  -- a file of the model with this number; of another number there is none
  abbrev pub AsModel : ℕ → List ℕ → Type 0
  AsModel model rest = some_model (λ number P W kind weights file_kind file_weights. (model ≡ number) × AnalysedAs kind weights file_kind file_weights out r out' rest)

  abbrev pub AsListed : List ℕ → Type 0
  AsListed (model ∷ rest) = AsModel model rest
  AsListed [] = ⊥

module _ (r : Result ℕ Fault) (out : List ℕ) where
  -- where the weights of the model count up to a top, the report counts truly
  abbrev pub ModelCounts : ℕ → List ℕ → Type 0
  ModelCounts model rest = each_model (λ number P W kind weights file_kind file_weights. model ≡ number → TrueCounts kind weights file_kind file_weights rest r out)

  -- and parts do
  abbrev pub ListedCounts : List ℕ → Type 0
  ListedCounts (model ∷ rest) = PartsCount × ModelCounts model rest
  ListedCounts [] = Unit {0}

-- what a model file comes to
abbrev pub Analysed : List ℕ → List ℕ → Result ℕ Fault → List ℕ → Type 0
Analysed bytes out r out' = Asked (Listed bytes) (Unreported out r out' Model) (AsListed out r out' bytes)

-- whatever is analysed as a report counts truly, where its weights count
abbrev pub ReportsCountTruly : Type 0
ReportsCountTruly = (bytes out : List ℕ) (r : Result ℕ Fault) (out' : List ℕ) → Analysed bytes out r out' → ListedCounts r out' bytes

-- what a model file comes to, as C is answered
abbrev pub AnsweredForC : List ℕ → List ℕ → ℤ → List ℕ → Type 0
AnsweredForC bytes out answer out' = (r : Result ℕ Fault) × Analysed bytes out r out' × (answer ≡ answer_for_c r)
