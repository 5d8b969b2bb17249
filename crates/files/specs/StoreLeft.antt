-- What reading and analysing leave of the store that they are lent.
use Rattle.std.specs.Prelude.{◌≡◌, ℕ, ◌-◌, ◌≤◌, List, ◌++◌, length, get_or, drop, Result, Ok, Err}
use Rattle.kinds.specs.declared.performance.Performance
use Rattle.kinds.specs.declared.weight.Weight
use Rattle.terms.specs.declared.term.Term.{Term}
use Rattle.diagram.specs.declared.limits.TheConstants.{STORE}
use Rattle.diagram.specs.Refusals.{Asked}
use Rattle.diagram.specs.InTurn.{AllCollected, RowsLeft}
use Rattle.diagram.specs.Histories.{Making, made}
use Rattle.files.specs.declared.words.FilePerformance
use Rattle.files.specs.declared.words.FileWeight
use Rattle.files.specs.declared.fault.Fault.{Fault}
use Rattle.files.specs.declared.fault.Fault.TheVariants.{LeftOver}
use Rattle.files.specs.Contents.{Contents, nodes_bytes}
use Rattle.files.specs.Faults.{record_of}
use Rattle.diagram.specs.Makings.{drawn, TakesAll}
use Rattle.files.specs.Reading.{RecordsCounted, ContentsRead}

-- how many of n nodes stand in the records before the one at fault; a file that is longer than its records has all of them
abbrev pub nodes_before : ℕ → Fault → ℕ
nodes_before n LeftOver = n
nodes_before n why = record_of why

module _ {P W : Type 0} (kind : Performance.Ghosts P) (weights : Weight.Ghosts W) where
  abbrev Terms : Type 0
  Terms = List (Term P W)

  module _ (file_kind : FilePerformance.Ghosts P) (file_weights : FileWeight.Ghosts W) where
    -- The first n of some records make these nodes, and the diagram takes them. (No others: letter, count and words fix each record.)
    abbrev pub FirstNodes : List ℕ → ℕ → List (Making P W) → Type 0
    FirstNodes records n ms = (length ms ≡ n) × TakesAll kind weights ms × (rest : List ℕ) × (records ≡ nodes_bytes file_kind file_weights ms ++ rest)

    -- where n records make nodes and one of the file is at fault, the rows of the parts in the records before it are left
    abbrev pub LeftAtFault : ℕ → List ℕ → Terms → Fault → Terms → Type 0
    LeftAtFault n records s why s' = (ms : List (Making P W)) × FirstNodes records (nodes_before n why) ms × RowsLeft kind weights (drawn ms) 0 s s'

    module _ (bytes : List ℕ) (s s' : Terms) where
      -- at a fault of the file, what is said of the records before it; else what is said of the contents
      abbrev pub LeftBy : (Contents P W → Type 0) → Result (Contents P W) Fault → Type 0
      LeftBy left (Ok c) = left c
      LeftBy left (Err why) = LeftAtFault (get_or bytes 0 0 - 1) (drop 1 bytes) s why s'

      -- all is left of a store that is too short, or if the file does not say how many records it has
      abbrev LeftStore : (Contents P W → Type 0) → Type 0
      LeftStore left =
          Asked (STORE ≤ length s) (s' ≡ s)
          (Asked (RecordsCounted bytes) (s' ≡ s)
          ((read : Result (Contents P W) Fault) × ContentsRead kind weights file_kind file_weights bytes read × LeftBy left read))

      -- what reading leaves: the rows of all the file's parts
      abbrev pub LeftByReading : Type 0
      LeftByReading = LeftStore (λ c. RowsLeft kind weights (drawn c.nodes) 0 s s')

      -- what analysing leaves: the rows of all the file's nodes, or at a fault in collecting node k those of the parts and of the joined nodes below k
      abbrev pub LeftByAnalysing : Type 0
      LeftByAnalysing =
          LeftStore (λ c. let h = drawn c.nodes in AllCollected kind weights h (λ k why. RowsLeft kind weights h k s s') (RowsLeft kind weights h (made h) s s'))
