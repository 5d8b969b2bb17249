-- What a model file comes to: the report on its last node, or its first fault.
use Rattle.std.specs.Prelude.{ℕ, ◌-◌, ◌≤◌, List, length, Result, Ok, Err}
use Rattle.kinds.specs.declared.performance.Performance
use Rattle.kinds.specs.declared.weight.Weight
use Rattle.terms.specs.declared.term.Term.{Term}
use Rattle.diagram.specs.declared.limits.TheConstants.{STORE}
use Rattle.diagram.specs.declared.refusal.Refusal.TheVariants.{ShortStore}
use Rattle.diagram.specs.Refusals.{Asked}
use Rattle.diagram.specs.InTurn.{AllCollected}
use Rattle.diagram.specs.RightAnswers.{RowOfNode}
use Rattle.files.specs.declared.words.FilePerformance
use Rattle.files.specs.declared.words.FileWeight
use Rattle.files.specs.declared.fault.Fault.{Fault}
use Rattle.files.specs.declared.fault.Fault.TheVariants.{Refused}
use Rattle.files.specs.declared.limits.TheConstants.{NO_RECORD, LONGEST_REPORT}
use Rattle.files.specs.Contents.{Contents}
use Rattle.diagram.specs.Makings.{drawn}
use Rattle.files.specs.Reading.{ContentsRead}
use Rattle.files.specs.Reports.{report_of, Unreported, Put}

module _ {P W : Type 0} (kind : Performance.Ghosts P) (weights : Weight.Ghosts W) where
  module _ (file_kind : FilePerformance.Ghosts P) (file_weights : FileWeight.Ghosts W) where
    module _ (out : List ℕ) (r : Result ℕ Fault) (out' : List ℕ) where
      -- the report is on the last node, and short enough: its row is that of all the combinations of the file's states
      abbrev pub Reported : Contents P W → Type 0
      Reported c =
          let h = drawn c.nodes in
          AllCollected kind weights h (λ k why. Unreported out r out' (Refused k why))
          ((row : List (Term P W)) × RowOfNode kind weights h (length c.nodes - 1) row ×
          (length (report_of kind weights file_kind file_weights c.demands row) ≤ LONGEST_REPORT) ×
          Put (report_of kind weights file_kind file_weights c.demands row) out r out')

      abbrev pub ReportedOr : Result (Contents P W) Fault → Type 0
      ReportedOr (Ok c) = Reported c
      ReportedOr (Err f) = Unreported out r out' f

      -- a file of this kind and weight, from the number of its records on
      abbrev pub AnalysedAs : List ℕ → Type 0
      AnalysedAs bytes = (read : Result (Contents P W) Fault) × ContentsRead kind weights file_kind file_weights bytes read × ReportedOr read

      -- the same over a store that is lent, which has to be long enough
      abbrev pub AnalysedOver : List (Term P W) → List ℕ → Type 0
      AnalysedOver s bytes = Asked (STORE ≤ length s) (Unreported out r out' (Refused NO_RECORD ShortStore)) (AnalysedAs bytes)
