-- What the records of a diagram tell, and what holds of them at all times.
use Rattle.std.specs.Prelude.{◌≡◌, ◌≢◌, ℕ, ◌<◌, ◌≤◌, List, [], length, take, slice_index, slice_index_or, Some, None, All, AllPairs, Contains, IsTrue, ◌==◌}
use Rattle.std.specs.List.{list_any}
use Rattle.terms.specs.declared.term.Way.{Way}
use Rattle.diagram.specs.declared.limits.TheConstants.{NODES, FEWEST_CHILDREN, CHILDREN, ARMS, TERMS}
use Rattle.diagram.specs.declared.node.Form.{Form}
use Rattle.diagram.specs.declared.node.Form.TheVariants.{Part, Joined, Bridge}
use Rattle.diagram.specs.declared.node.Status.{Status}
use Rattle.diagram.specs.declared.node.Status.TheVariants.{Stale, UpToDate}
use Rattle.diagram.specs.declared.node.Node.{Node}
use Rattle.diagram.specs.declared.table.Table.{Table}

-- what is read past the table
abbrev pub blank : Node
blank = record { form = Part; status = Stale; user = None; size = 0 }

abbrev pub node_at : Table → ℕ → Node
node_at t k = slice_index_or t.nodes k blank

abbrev pub form_at : Table → ℕ → Form
form_at t k = (node_at t k).form

abbrev pub status_at : Table → ℕ → Status
status_at t k = (node_at t k).status

abbrev pub size_at : Table → ℕ → ℕ
size_at t k = (node_at t k).size

-- u is a user of k
abbrev pub Uses : Table → ℕ → ℕ → Type 0
Uses t k u = (node_at t k).user ≡ Some u

-- the children that the joining of k named, in order
abbrev pub children_at : Table → ℕ → List ℕ
children_at t k = take (slice_index t.arities k) (slice_index_or t.children k [])

-- k is a child of u, as a test
abbrev pub Names : Table → ℕ → ℕ → Type 0
Names t u k = IsTrue (list_any (λ c. k == c) (children_at t u))

-- beneath a node are its children, and all that is beneath those
pub data NodeBeneath (children : ℕ → List ℕ) : ℕ → ℕ → Type 0 where
  child : {k p : ℕ} → Contains (children k) p → NodeBeneath children k p
  deeper : {k c p : ℕ} → Contains (children k) c → NodeBeneath children c p → NodeBeneath children k p

-- what the record of node k tells of itself alone
pub record Fitting (form : Form) (status : Status) (size : ℕ) (children : List ℕ) (k : ℕ) : Type 0 where
  pub sized : size ≤ TERMS
  pub part_is_up_to_date : form ≡ Part → status ≡ UpToDate
  pub part_is_alone : form ≡ Part → length children ≡ 0
  pub joins_two_or_more : (way : Way) → form ≡ Joined way → FEWEST_CHILDREN ≤ length children
  pub bridges_five : form ≡ Bridge → length children ≡ ARMS
  pub children_below : All (λ c. c < k) children
  pub children_apart : AllPairs ◌≢◌ children

-- children and users tell of each other, and what uses a stale node is stale
pub record SoundAt (t : Table) (k : ℕ) : Type 0 where
  pub own : Fitting (form_at t k) (status_at t k) (size_at t k) (children_at t k) k
  pub children_used : (c : ℕ) → Names t k c → Uses t c k
  pub user_above : (u : ℕ) → Uses t k u → (k < u) × (u < t.count)
  pub user_names : (u : ℕ) → Uses t k u → Names t u k
  pub stale_to_top : (u : ℕ) → Uses t k u → status_at t k ≡ Stale → status_at t u ≡ Stale

-- what holds of the records at all times
pub record Sound (t : Table) : Type 0 where
  pub few : t.count ≤ NODES
  pub short : All (λ n. n ≤ CHILDREN) t.arities
  pub at : (k : ℕ) → k < t.count → SoundAt t k
