-- The store: places for the row of each node, two working rows, and a tail.
use Rattle.std.specs.Prelude.{◌≡◌, ℕ, ◌+◌, ◌*◌, ◌<◌, List, length, take, drop, slice_range}
use Rattle.diagram.specs.declared.limits.TheConstants.{NODES, TERMS, STORE}
use Rattle.diagram.specs.declared.table.Table.{Table}
use Rattle.diagram.specs.Records.{size_at}

-- the places of node k
abbrev pub places_of : {T : Type 0} → ℕ → List T → List T
places_of k store = slice_range store (TERMS * k) (TERMS * k + TERMS)

-- the row stands in the first places of node k
abbrev pub StandsAt : {T : Type 0} → ℕ → List T → List T → Type 0
StandsAt k row store = take (length row) (places_of k store) ≡ row

-- the row of node k, as its record and the store tell it
abbrev pub row_at : {T : Type 0} → Table → List T → ℕ → List T
row_at t store k = take (size_at t k) (places_of k store)

-- nothing has changed but the working rows and the places of the nodes that are free
pub record Kept {T : Type 0} (free : ℕ → Type 0) (before after : List T) : Type 0 where
  pub places : (j : ℕ) → j < NODES → ¬ free j → places_of j after ≡ places_of j before
  pub tail : drop STORE after ≡ drop STORE before
  pub as_long : length after ≡ length before

abbrev pub no_node : ℕ → Type 0
no_node j = ⊥

abbrev pub only : ℕ → ℕ → Type 0
only k j = j ≡ k

-- the row stands at node k, and nothing has changed but the places of k and the working rows
pub record RowPut {T : Type 0} (k : ℕ) (row before after : List T) : Type 0 where
  pub stands : StandsAt k row after
  pub others : Kept (only k) before after
