-- Cited by private functions only: what is written to the table, at one node or by a loop.
use Rattle.std.specs.Prelude.{◌≡◌, ℕ, List, length, slice_set, Some, if◌then◌else◌, ◌==◌}
use Rattle.std.specs.List.{list_any}
use Rattle.diagram.specs.declared.node.Status.TheVariants.{Stale, UpToDate}
use Rattle.diagram.specs.declared.table.Table.{Table}
use Rattle.diagram.specs.Changes.{StaleAbove}
use Rattle.diagram.specs.Records.{node_at}

-- node k is marked stale
abbrev pub with_stale : Table → ℕ → Table
with_stale t k = record t { nodes = slice_set t.nodes k (record (node_at t k) { status = Stale }) }

-- node k is up to date, with a row of so many terms
abbrev pub with_collected : Table → ℕ → ℕ → Table
with_collected t k size =
    record t { nodes = slice_set t.nodes k (record (node_at t k) { status = UpToDate; size = size }) }

-- nothing but nodes is written
pub record NodesOnly (t t' : Table) : Type 0 where
  pub nodes : length t'.nodes ≡ length t.nodes
  pub children : t'.children ≡ t.children
  pub arities : t'.arities ≡ t.arities
  pub count : t'.count ≡ t.count

-- u is the user of the named nodes
pub record UserSet (t t' : Table) (named : List ℕ) (u : ℕ) : Type 0 where
  pub rest : NodesOnly t t'
  pub nodes : (j : ℕ) →
      node_at t' j ≡ (if list_any (λ c. j == c) named then record (node_at t j) { user = Some u } else node_at t j)

-- all above k is marked stale
pub record MarkedAbove (t t' : Table) (k : ℕ) : Type 0 where
  pub rest : NodesOnly t t'
  pub stale : StaleAbove t t' k
  pub others : (j : ℕ) → record (node_at t' j) { status = Stale } ≡ record (node_at t j) { status = Stale }
