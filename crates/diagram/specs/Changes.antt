-- What an accepted call changes in the records.
use Rattle.std.specs.Prelude.{◌≡◌, ◌≢◌, ◌⊎◌, ◌↔◌, ℕ, ◌+◌, ◌<◌, List, [], Some, Contains}
use Rattle.diagram.specs.declared.node.Form.{Form}
use Rattle.diagram.specs.declared.node.Status.TheVariants.{Stale, UpToDate}
use Rattle.diagram.specs.declared.table.Table.{Table}
use Rattle.diagram.specs.Nodes.{part_of, joined_by}
use Rattle.diagram.specs.Records.{node_at, form_at, status_at, size_at, children_at, NodeBeneath}

module _ (t : Table) (t' : Table) where
  abbrev pub SameChildren : Type 0
  SameChildren = (j : ℕ) → j < t.count → children_at t' j ≡ children_at t j

  -- stale is then what was so before, and what k is beneath
  abbrev pub StaleAbove : ℕ → Type 0
  StaleAbove k =
      (j : ℕ) → j < t.count →
      (status_at t' j ≡ Stale) ↔ ((status_at t j ≡ Stale) ⊎ NodeBeneath (children_at t) j k)

  -- a part is added, with a row of so many terms
  pub record PartAdded (size : ℕ) : Type 0 where
    pub number : t'.count ≡ t.count + 1
    pub record_made : node_at t' t.count ≡ part_of size
    pub childless : children_at t' t.count ≡ []
    pub others : (j : ℕ) → j < t.count → node_at t' j ≡ node_at t j
    pub children : SameChildren

  -- a node is joined from these children
  pub record NodeJoined (form : Form) (named : List ℕ) : Type 0 where
    pub number : t'.count ≡ t.count + 1
    pub record_made : node_at t' t.count ≡ joined_by form
    pub names_them : children_at t' t.count ≡ named
    pub used : (j : ℕ) → j < t.count → Contains named j → node_at t' j ≡ record (node_at t j) { user = Some t.count }
    pub others : (j : ℕ) → j < t.count → ¬ Contains named j → node_at t' j ≡ node_at t j
    pub children : SameChildren

  -- part k is restated, with a row of so many terms
  pub record PartRestated (k size : ℕ) : Type 0 where
    pub number : t'.count ≡ t.count
    pub resized : size_at t' k ≡ size
    pub stale : StaleAbove k
    pub sizes : (j : ℕ) → j < t.count → j ≢ k → size_at t' j ≡ size_at t j
    pub forms : (j : ℕ) → j < t.count → form_at t' j ≡ form_at t j
    pub users : (j : ℕ) → j < t.count → (node_at t' j).user ≡ (node_at t j).user
    pub children : SameChildren

  -- node k is collected, with a row of so many terms
  pub record NodeCollected (k size : ℕ) : Type 0 where
    pub number : t'.count ≡ t.count
    pub collected : node_at t' k ≡ record (node_at t k) { status = UpToDate; size = size }
    pub others : (j : ℕ) → j < t.count → j ≢ k → node_at t' j ≡ node_at t j
    pub children : SameChildren
