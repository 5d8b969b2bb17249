-- What a report says of true counts, where weights count up to a top.
use Rattle.std.specs.Prelude.{◌≡◌, ℕ, ◌-◌, ◌<◌, List, length, take, Result, Ok, Err}
use Rattle.kinds.specs.Capped.{capped}
use Rattle.kinds.specs.Counting.{whole_numbers, CountsTo}
use Rattle.kinds.specs.declared.performance.Performance
use Rattle.kinds.specs.declared.weight.Weight
use Rattle.terms.specs.declared.term.Term.{Term}
use Rattle.terms.specs.Sums.{total_of}
use Rattle.diagram.specs.Counted.{TrueRow}
use Rattle.files.specs.declared.words.FilePerformance
use Rattle.files.specs.declared.words.FileWeight
use Rattle.files.specs.declared.fault.Fault.{Fault}
use Rattle.files.specs.Analyses.{AnalysedAs}
use Rattle.files.specs.Contents.{Contents}
use Rattle.diagram.specs.Makings.{drawn}
use Rattle.files.specs.Reading.{ContentsRead}
use Rattle.files.specs.Reports.{report_of}

-- whole numbers as a report writes them: each stopped at the top, or as it is
abbrev pub stopped : ℕ → FileWeight.Ghosts ℕ
stopped top = record { word = capped top }

abbrev pub unstopped : FileWeight.Ghosts ℕ
unstopped = record { word = λ n. n }

module _ {P W : Type 0} (kind : Performance.Ghosts P) (weights : Weight.Ghosts W) (file_kind : FilePerformance.Ghosts P) (file_weights : FileWeight.Ghosts W) (top : ℕ) where
  -- The report is that of the true row, each weight stopped at the top once; and where the total that it tells is below the top, nothing was stopped.
  abbrev pub ReportCounts : Contents P W → List ℕ → Type 0
  ReportCounts c report =
      (row : List (Term P ℕ)) × TrueRow kind file_weights.word (drawn c.nodes) (length c.nodes - 1) row
      × (report ≡ report_of kind whole_numbers file_kind (stopped top) c.demands row)
      × (capped top (total_of whole_numbers row) < top → report ≡ report_of kind whole_numbers file_kind unstopped c.demands row)

  -- so is the report on the file's contents that is put first in the output, if there is one
  abbrev pub CountsTruly : List ℕ → Result ℕ Fault → List ℕ → Type 0
  CountsTruly bytes (Ok n) out = (c : Contents P W) × ContentsRead kind weights file_kind file_weights bytes (Ok c) × ReportCounts c (take n out)
  CountsTruly bytes (Err why) out = Unit {0}

-- wherever the weights count up to a top, the report counts truly
abbrev pub TrueCounts : {P W : Type 0} → Performance.Ghosts P → Weight.Ghosts W → FilePerformance.Ghosts P → FileWeight.Ghosts W → List ℕ → Result ℕ Fault → List ℕ → Type 0
TrueCounts kind weights file_kind file_weights bytes r out =
    (top : ℕ) → CountsTo top weights file_weights.word → CountsTruly kind weights file_kind file_weights top bytes r out

-- so whatever is analysed as a report does
abbrev pub AnalysedCounts : {P W : Type 0} → Performance.Ghosts P → Weight.Ghosts W → FilePerformance.Ghosts P → FileWeight.Ghosts W → Type 0
AnalysedCounts kind weights file_kind file_weights =
    (out : List ℕ) (r : Result ℕ Fault) (out' bytes : List ℕ) → AnalysedAs kind weights file_kind file_weights out r out' bytes → TrueCounts kind weights file_kind file_weights bytes r out'
