-- The questions that a model file is asked, record by record, and the contents that it has where each is answered yes.
use Rattle.std.specs.Prelude.{◌≡◌, ◌↔◌, ℕ, zero, suc, ◌-◌, ◌*◌, ◌≤◌, ◌⊎◌, cond, ◌==◌, List, [], ◌∷◌, ◌++◌, length, get_or, drop, Result, Ok, Err}
use Rattle.kinds.specs.declared.performance.Performance
use Rattle.kinds.specs.declared.weight.Weight
use Rattle.diagram.specs.declared.limits.TheConstants.{NODES, ARMS}
use Rattle.diagram.specs.Refusals.{Asked}
use Rattle.diagram.specs.Histories.{Making}
use Rattle.files.specs.declared.words.FilePerformance
use Rattle.files.specs.declared.words.FileWeight
use Rattle.files.specs.declared.fault.Fault.{Fault}
use Rattle.files.specs.declared.fault.Fault.TheVariants.{Records, Letter, Body, LeftOver, Value, Refused}
use Rattle.files.specs.declared.limits.TheConstants.{FEWEST_RECORDS, RECORDS, DEMANDS, STATE_BYTES, DEMAND_BYTES}
use Rattle.files.specs.Contents.{Contents, Ahead, part_letter, series_letter, parallel_letter, bridge_letter, demand_letter, node_bytes, demand_bytes, contents_bytes}
use Rattle.diagram.specs.Makings.{TakesAll, TakenOr}

-- a file may have so many records
abbrev pub MayBeRecords : ℕ → Type 0
MayBeRecords n = (FEWEST_RECORDS ≤ n) × (n ≤ RECORDS)

-- a file may have so many demands
abbrev pub MayBeDemands : ℕ → Type 0
MayBeDemands n = (1 ≤ n) × (n ≤ DEMANDS)

-- the number of records stands first
abbrev pub RecordsCounted : List ℕ → Type 0
RecordsCounted (count ∷ records) = MayBeRecords count
RecordsCounted [] = ⊥

-- the letters of records that make nodes
abbrev pub NodeLetter : ℕ → Type 0
NodeLetter l = (l ≡ part_letter) ⊎ (l ≡ series_letter) ⊎ (l ≡ parallel_letter) ⊎ (l ≡ bridge_letter)

-- the letter of the last record
abbrev pub DemandLetter : ℕ → Type 0
DemandLetter l = l ≡ demand_letter

-- two bytes are left, and the first is a right letter
abbrev pub Headed : (ℕ → Type 0) → List ℕ → Type 0
Headed IsRight (letter ∷ count ∷ body) = IsRight letter
Headed IsRight bytes = ⊥

-- how many bytes such a record has after its letter and its count
abbrev pub body_length : ℕ → ℕ → ℕ
body_length letter count = cond (letter == part_letter) (STATE_BYTES * count) (cond (letter == demand_letter) (DEMAND_BYTES * count) count)

-- the count may be, and the body is all there
abbrev pub Whole : List ℕ → Type 0
Whole (letter ∷ count ∷ body) =
    (letter ≡ bridge_letter → count ≡ ARMS) × (letter ≡ demand_letter → MayBeDemands count) × (body_length letter count ≤ length body)
Whole bytes = ⊥

-- Record k is to write one value: first its letter is asked about, then whether it is whole, then whether its body writes a value. If each answer
-- is yes, something is told of that value and of the bytes after it.
abbrev pub RecordRead : {V : Type 0} → (ℕ → Type 0) → (V → List ℕ) → ℕ → List ℕ → (Fault → Type 0) → (V → List ℕ → Type 0) → Type 0
RecordRead {V} IsRight write k bytes refused told =
    Asked (Headed IsRight bytes) (refused (Letter k))
    (Asked (Whole bytes) (refused (Body k))
    (Asked (Ahead write bytes) (refused (Value k))
    ((v : V) × (rest : List ℕ) × (bytes ≡ write v ++ rest) × told v rest)))

-- a record that makes a node
abbrev pub NodeRecord : {P W : Type 0} → FilePerformance.Ghosts P → FileWeight.Ghosts W → ℕ → List ℕ → (Fault → Type 0) → (Making P W → List ℕ → Type 0) → Type 0
NodeRecord file_kind file_weights = RecordRead NodeLetter (node_bytes file_kind file_weights)

-- the last record: the demands, and then the file is at its end
abbrev pub LastRecord : {P : Type 0} → FilePerformance.Ghosts P → ℕ → List ℕ → (Fault → Type 0) → (List P → Type 0) → Type 0
LastRecord file_kind k bytes refused told =
    RecordRead DemandLetter (demand_bytes file_kind) k bytes refused (λ demands rest. Asked (rest ≡ []) (refused LeftOver) (told demands))

module _ {P W : Type 0} (kind : Performance.Ghosts P) (weights : Weight.Ghosts W) (file_kind : FilePerformance.Ghosts P) (file_weights : FileWeight.Ghosts W) where
  abbrev FileAnswer : Type 0
  FileAnswer = Result (Contents P W) Fault

  -- so many records that make nodes, after these, and then the last
  abbrev pub RecordsRead : ℕ → List (Making P W) → List ℕ → FileAnswer → Type 0
  RecordsRead zero ms bytes answer =
      LastRecord file_kind (length ms) bytes (λ why. answer ≡ Err why)
      (λ demands. answer ≡ Ok (record { nodes = ms; demands = demands }))
  RecordsRead (suc n) ms bytes answer =
      NodeRecord file_kind file_weights (length ms) bytes (λ why. answer ≡ Err why)
      (λ m rest. TakenOr kind weights ms m (λ why. answer ≡ Err (Refused (length ms) why)) (RecordsRead n (m ∷ ms) rest answer))

  -- what a file says from the number of its records on: its contents, or its first fault
  abbrev pub ContentsRead : List ℕ → FileAnswer → Type 0
  ContentsRead bytes answer = Asked (RecordsCounted bytes) (answer ≡ Err Records) (RecordsRead (get_or bytes 0 0 - 1) [] (drop 1 bytes) answer)

  -- contents that a file may have
  pub record ValidContents (c : Contents P W) : Type 0 where
    pub nodes : (1 ≤ length c.nodes) × (length c.nodes ≤ NODES)
    pub demands : MayBeDemands (length c.demands)
    pub taken : TakesAll kind weights c.nodes

  -- a file is read as these contents exactly if it is their writing, and they are valid
  abbrev pub ReadsBack : Type 0
  ReadsBack =
      (bytes : List ℕ) (answer : FileAnswer) → ContentsRead bytes answer → (c : Contents P W) →
      (answer ≡ Ok c) ↔ ((bytes ≡ contents_bytes file_kind file_weights c) × ValidContents c)

  -- and there is one answer
  abbrev pub ReadsOneWay : Type 0
  ReadsOneWay = (bytes : List ℕ) (a b : FileAnswer) → ContentsRead bytes a → ContentsRead bytes b → a ≡ b
