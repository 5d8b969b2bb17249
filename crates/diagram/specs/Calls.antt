-- What each call answers, and what it leaves in the records and in the store.
use Rattle.std.specs.Prelude.{◌≡◌, ℕ, ◌<◌, ◌≤◌, List, length, slice_index_or, Result, Ok, Err, IsOkAnd, All, AllPairs, ◌≢◌}
use Rattle.kinds.specs.declared.performance.Performance
use Rattle.kinds.specs.declared.weight.Weight
use Rattle.terms.specs.declared.term.Term.{Term}
use Rattle.terms.specs.Rows.{RowOf}
use Rattle.terms.specs.Sums.{total_of, met_of}
use Rattle.diagram.specs.declared.limits.TheConstants.{NODES, ARM_TERMS, STORE}
use Rattle.diagram.specs.declared.refusal.Refusal.{Refusal}
use Rattle.diagram.specs.declared.refusal.Refusal.TheVariants.{ShortStore, NoNumberLeft, WrongStates, WrongChildren, NoNode, InUse, Repeated, NotPart, NotJoined, StaleChild, LongArm, LongResult, Stale, NoTerm}
use Rattle.diagram.specs.declared.node.Form.{Form}
use Rattle.diagram.specs.declared.node.Form.TheVariants.{Part, Bridge}
use Rattle.diagram.specs.declared.node.Status.TheVariants.{UpToDate}
use Rattle.diagram.specs.declared.table.Table.{Table}
use Rattle.diagram.specs.Refusals.{Asked}
use Rattle.diagram.specs.Nodes.{Takes, EnoughStates}
use Rattle.diagram.specs.Records.{form_at, status_at, size_at, Uses, children_at}
use Rattle.diagram.specs.Changes.{PartAdded, NodeJoined, PartRestated, NodeCollected}
use Rattle.diagram.specs.Store.{row_at, Kept, no_node, RowPut}
use Rattle.diagram.specs.Results.{joining_of, RowOfDrawing, ResultsFit}

-- no node uses k
abbrev pub Free : Table → ℕ → Type 0
Free t k = (u : ℕ) → ¬ Uses t k u

-- the children of k are up to date
abbrev pub ChildrenUpToDate : Table → ℕ → Type 0
ChildrenUpToDate t k = All (λ c. status_at t c ≡ UpToDate) (children_at t k)

-- if k is a bridge, the row of each arm is short enough
abbrev pub ArmsFit : Table → ℕ → Type 0
ArmsFit t k = form_at t k ≡ Bridge → All (λ c. size_at t c ≤ ARM_TERMS) (children_at t k)

-- a call that a question refuses changes nothing
pub record Refused {T A : Type 0} (t : Table) (s : List T) (r : Result A Refusal) (t' : Table) (s' : List T)
    (why : Refusal) : Type 0 where
  pub answer : r ≡ Err why
  pub records : t' ≡ t
  pub store : s' ≡ s

-- that a running result is too long is found out in the working rows, and nothing else changes
pub record TooLong {T A : Type 0} (t : Table) (s : List T) (r : Result A Refusal) (t' : Table) (s' : List T) : Type 0 where
  pub answer : r ≡ Err LongResult
  pub records : t' ≡ t
  pub store : Kept no_node s s'

-- a diagram is made without nodes
abbrev pub Made : {D T : Type 0} → (D → Table) → List T → Result D Refusal → Type 0
Made table s r = Asked (STORE ≤ length s) (r ≡ Err ShortStore) (IsOkAnd r (λ d. (table d).count ≡ 0))

module _ {P W : Type 0} (kind : Performance.Ghosts P) (weights : Weight.Ghosts W) where
  abbrev Terms : Type 0
  Terms = List (Term P W)

  module _ (t : Table) (s : Terms) where
    abbrev Roomy : Type 0
    Roomy = STORE ≤ length s

    -- the row of the states is put at the next number
    abbrev pub Added : Terms → Result ℕ Refusal → Table → Terms → Type 0
    Added states r t' s' =
        Asked Roomy (Refused t s r t' s' ShortStore)
        (Asked (t.count < NODES) (Refused t s r t' s' NoNumberLeft)
        (Asked (EnoughStates (length states)) (Refused t s r t' s' WrongStates)
        ((r ≡ Ok t.count)
        × ((row : Terms) × RowOf kind weights states row × PartAdded t t' (length row) × RowPut t.count row s s'))))

    -- the node stands beside its children; a bridge always has as many as it takes
    abbrev pub Joins : Form → List ℕ → Result ℕ Refusal → Table → Type 0
    Joins form named r t' =
        Asked Roomy (Refused t s r t' s ShortStore)
        (Asked (t.count < NODES) (Refused t s r t' s NoNumberLeft)
        (Asked (Takes form (length named)) (Refused t s r t' s WrongChildren)
        (Asked (All (λ c. c < t.count) named) (Refused t s r t' s NoNode)
        (Asked (All (Free t) named) (Refused t s r t' s InUse)
        (Asked (AllPairs ◌≢◌ named) (Refused t s r t' s Repeated)
        ((r ≡ Ok t.count) × NodeJoined t t' form named))))))

    -- the row of the new states is put at k
    abbrev pub Restated : ℕ → Terms → Result ℕ Refusal → Table → Terms → Type 0
    Restated k states r t' s' =
        Asked Roomy (Refused t s r t' s' ShortStore)
        (Asked (k < t.count) (Refused t s r t' s' NoNode)
        (Asked (form_at t k ≡ Part) (Refused t s r t' s' NotPart)
        (Asked (EnoughStates (length states)) (Refused t s r t' s' WrongStates)
        ((row : Terms) × RowOf kind weights states row × (r ≡ Ok (length row))
        × PartRestated t t' k (length row) × RowPut k row s s'))))

    -- the row of the node as it is joined from its children is put at k
    abbrev pub Collected : ℕ → Result ℕ Refusal → Table → Terms → Type 0
    Collected k r t' s' =
        Asked Roomy (Refused t s r t' s' ShortStore)
        (Asked (k < t.count) (Refused t s r t' s' NoNode)
        (Asked (form_at t k ≢ Part) (Refused t s r t' s' NotJoined)
        (Asked (ChildrenUpToDate t k) (Refused t s r t' s' StaleChild)
        (Asked (ArmsFit t k) (Refused t s r t' s' LongArm)
        (Asked (ResultsFit kind weights (row_at t s) (joining_of t k)) (TooLong t s r t' s')
        ((row : Terms) × RowOfDrawing kind weights (row_at t s) (joining_of t k) row
        × (r ≡ Ok (length row)) × NodeCollected t t' k (length row) × RowPut k row s s'))))))

    -- a question about node k: the records and the store are only read
    abbrev pub Asks : {A : Type 0} → ℕ → Result A Refusal → Type 0 → Type 0
    Asks k r told =
        Asked Roomy (r ≡ Err ShortStore)
        (Asked (k < t.count) (r ≡ Err NoNode)
        (Asked (status_at t k ≡ UpToDate) (r ≡ Err Stale) told))

    -- what k tells when it is asked; its size is the length of its row
    abbrev pub TellsSize : ℕ → Result ℕ Refusal → Type 0
    TellsSize k r = Asks k r (r ≡ Ok (size_at t k))

    abbrev pub TellsTerm : ℕ → ℕ → Result (Term P W) Refusal → Type 0
    TellsTerm k i r =
        Asks k r (Asked (i < size_at t k) (r ≡ Err NoTerm) (IsOkAnd r (λ x. slice_index_or (row_at t s k) i x ≡ x)))

    abbrev pub TellsTotal : ℕ → Result W Refusal → Type 0
    TellsTotal k r = Asks k r (r ≡ Ok (total_of weights (row_at t s k)))

    abbrev pub TellsAvailability : ℕ → P → Result (W × W) Refusal → Type 0
    TellsAvailability k demand r =
        Asks k r (r ≡ Ok (met_of kind weights demand (row_at t s k), total_of weights (row_at t s k)))
