-- Cited by private functions only: what the steps of an analysis do.
use Rattle.std.specs.Prelude.{◌≡◌, ℕ, ◌<◌, ◌≤◌, List, [], ◌++◌, length, flat_map, Result, Ok, Err, IsOkAnd}
use Rattle.std.specs.Borrow.{Bor}
use Rattle.kinds.specs.declared.performance.Performance
use Rattle.kinds.specs.declared.weight.Weight
use Rattle.terms.specs.declared.term.Term.{Term}
use Rattle.diagram.specs.declared.table.Table.{Table}
use Rattle.diagram.specs.declared.diagram.Diagram.{Diagram}
use Rattle.diagram.specs.declared.limits.TheConstants.{TERMS, STORE}
use Rattle.diagram.specs.declared.node.Status.TheVariants.{UpToDate}
use Rattle.diagram.specs.Records.{status_at, size_at}
use Rattle.diagram.specs.Histories.{Making, History, made, Answers}
use Rattle.diagram.specs.RightAnswers.{RowOfNode}
use Rattle.diagram.specs.Runs.{Run}
use Rattle.diagram.specs.Shown.{records}
use Rattle.diagram.specs.Store.{row_at}
use Rattle.files.specs.declared.words.FilePerformance
use Rattle.files.specs.declared.words.FileWeight
use Rattle.files.specs.declared.demands.Demands.{Demands}
use Rattle.files.specs.declared.fault.Fault.{Fault}
use Rattle.files.specs.declared.page.Page.{Page}
use Rattle.files.specs.declared.limits.TheConstants.{DEMANDS, LONGEST_REPORT}
use Rattle.files.specs.Contents.{Contents, performance_bytes}
use Rattle.diagram.specs.Makings.{history_of, drawn, meaning}
use Rattle.diagram.specs.InTurn.{RowsLeft}
use Rattle.diagram.specs.declared.making.Making.{Making as Given}
use Rattle.files.specs.Reading.{LastRecord, NodeRecord, RecordsRead}
use Rattle.files.specs.StoreLeft.{FirstNodes, LeftAtFault}
use Rattle.files.specs.Reports.{demand_line, state_line, report_of, Put}
use Rattle.files.specs.Pages.{Wrote}

-- so many values are written at the front of the bytes
abbrev pub ManyAhead : {V : Type 0} → (V → List ℕ) → ℕ → List ℕ → Type 0
ManyAhead {V} write n bytes = (vs : List V) × (rest : List ℕ) × (length vs ≡ n) × (bytes ≡ flat_map write vs ++ rest)

-- node k tells its row when it is asked
pub record NodeAnswers {T : Type 0} (t : Table) (s : List T) (k : ℕ) : Type 0 where
  pub roomy : STORE ≤ length s
  pub node : k < t.count
  pub up_to_date : status_at t k ≡ UpToDate
  pub fits : size_at t k ≤ TERMS

-- the last record is read: its demands, by their bytes
abbrev pub DemandsRead : {P : Type 0} → FilePerformance.Ghosts P → ℕ → List ℕ → Result (Demands P) Fault → Type 0
DemandsRead file_kind k bytes r =
    LastRecord file_kind k bytes (λ why. r ≡ Err why) (λ demands. IsOkAnd r (λ x. x.bytes.now ≡ flat_map (performance_bytes file_kind) demands))

-- the record that makes node k is read: its making, and a slice of the bytes after it
abbrev pub MakingRead : {P W : Type 0} → FilePerformance.Ghosts P → FileWeight.Ghosts W → ℕ → List ℕ → Result (Given P W × Bor (List ℕ)) Fault → Type 0
MakingRead file_kind file_weights k bytes r =
    NodeRecord file_kind file_weights k bytes (λ why. r ≡ Err why) (λ m rest. IsOkAnd r (λ x. (meaning x.0 ≡ m) × (x.1.now ≡ rest)))

module _ {P W : Type 0} (kind : Performance.Ghosts P) (weights : Weight.Ghosts W) where
  abbrev Terms : Type 0
  Terms = List (Term P W)

  module _ (file_kind : FilePerformance.Ghosts P) (file_weights : FileWeight.Ghosts W) {X : Type 0} (shown : X → List ℕ) where
    -- so many records, from the first on, are given to a new diagram; what is left tells the rest of the answer
    abbrev pub NodesDrawn : Terms → ℕ → List ℕ → Result X Fault → Diagram P W → Terms → Type 0
    NodesDrawn before n bytes (Ok x) d s =
        (ms : List (Making P W)) × FirstNodes kind weights file_kind file_weights bytes n ms × RowsLeft kind weights (drawn ms) 0 before s
        × Run kind weights (history_of (length before) ms) d s
        × ((answer : Result (Contents P W) Fault) → RecordsRead kind weights file_kind file_weights 0 ms (shown x) answer → RecordsRead kind weights file_kind file_weights n [] bytes answer)
    NodesDrawn before n bytes (Err why) d s =
        RecordsRead kind weights file_kind file_weights n [] bytes (Err why) × LeftAtFault kind weights file_kind file_weights n bytes before why s

  module _ (file_kind : FilePerformance.Ghosts P) (file_weights : FileWeight.Ghosts W) where
    -- if node k tells its row when it is asked, this text on the row is added to the page
    abbrev RowWritten : Diagram P W → Terms → ℕ → (Terms → List ℕ) → Page → Result (Unit {0}) Fault → Page → Type 0
    RowWritten d s k text page r page' = NodeAnswers (records d) s k → (r ≡ Ok tt) × Wrote page (text (row_at (records d) s k)) page'

    -- the line of one demand
    abbrev pub NeedWritten : Diagram P W → Terms → ℕ → P → Page → Result (Unit {0}) Fault → Page → Type 0
    NeedWritten d s k demand page r page' = RowWritten d s k (λ row. demand_line kind weights file_kind file_weights row demand) page r page'

    -- the lines of the demands that these bytes write, DEMANDS at most
    abbrev pub NeedsWritten : Diagram P W → Terms → ℕ → List ℕ → Page → Result (Unit {0}) Fault → Page → Type 0
    NeedsWritten d s k bytes page r page' =
        (demands : List P) → bytes ≡ flat_map (performance_bytes file_kind) demands → length demands ≤ DEMANDS →
        RowWritten d s k (λ row. flat_map (demand_line kind weights file_kind file_weights row) demands) page r page'

    -- the lines of the terms
    abbrev pub TermsWritten : Diagram P W → Terms → ℕ → Page → Result (Unit {0}) Fault → Page → Type 0
    TermsWritten d s k page r page' = RowWritten d s k (flat_map (state_line kind weights file_kind file_weights)) page r page'

    -- the report on node k, which answers, is put in the output; these bytes write its demands
    abbrev pub NodeReported : Diagram P W → Terms → ℕ → List ℕ → List ℕ → Result ℕ Fault → List ℕ → Type 0
    NodeReported d s k bytes out r out' =
        (h : History P W) (demands : List P) → STORE ≤ length s → Run kind weights h d s → k < made h → Answers h k →
        bytes ≡ flat_map (performance_bytes file_kind) demands → length demands ≤ DEMANDS →
        (row : Terms) × RowOfNode kind weights h k row ×
        (length (report_of kind weights file_kind file_weights demands row) ≤ LONGEST_REPORT) ×
        Put (report_of kind weights file_kind file_weights demands row) out r out'
