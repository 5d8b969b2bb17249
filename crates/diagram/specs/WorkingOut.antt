-- Cited by private functions only: what working out a row in the store answers and leaves.
use Rattle.std.specs.Prelude.{◌≡◌, ℕ, ◌<◌, ◌≤◌, List, length, Option, Some, None}
use Rattle.kinds.specs.declared.performance.Performance
use Rattle.kinds.specs.declared.weight.Weight
use Rattle.terms.specs.declared.term.Term.{Term}
use Rattle.terms.specs.Rows.{RowOf}
use Rattle.terms.specs.Merging.{Merges}
use Rattle.terms.specs.Drawings.{Drawing}
use Rattle.terms.specs.Enumeration.{enumeration}
use Rattle.diagram.specs.declared.limits.TheConstants.{NODES, TERMS}
use Rattle.diagram.specs.declared.table.Table.{Table}
use Rattle.diagram.specs.Records.{size_at}
use Rattle.diagram.specs.Store.{row_at, Kept, no_node, RowPut}
use Rattle.diagram.specs.Results.{joining_of, ResultsFit}

-- c has places in the store, in which its row fits
abbrev pub InStore : Table → ℕ → Type 0
InStore t c = (c < NODES) × (size_at t c ≤ TERMS)

module _ {P W : Type 0} (kind : Performance.Ghosts P) (weights : Weight.Ghosts W) where
  abbrev Terms : Type 0
  Terms = List (Term P W)

  -- an answer n says that the row of the drawing stands in the first n places of the room, and
  -- that all its running results fit, and None that one of them does not
  abbrev pub RowFound : (ℕ → Terms) → Drawing → Terms → Option ℕ → Type 0
  RowFound states d room (Some n) =
      ResultsFit kind weights states d
      × Merges kind weights (enumeration kind weights states d) room (Some n)
  RowFound states d room None = ¬ ResultsFit kind weights states d

  -- so for node k, as the rows of its children stand in the store
  abbrev pub NodeFound : Table → Terms → ℕ → Terms → Option ℕ → Type 0
  NodeFound t rows k = RowFound (row_at t rows) (joining_of t k)

  -- the row of these terms is put at node k, and n is its length
  abbrev pub RowMade : ℕ → Terms → Terms → Terms → ℕ → Type 0
  RowMade k ts before after n =
      (row : Terms) × RowOf kind weights ts row × (n ≡ length row) × RowPut k row before after

  -- node k is worked out from the rows of its children: its row is put, or a running result does
  -- not fit
  abbrev pub NodeWorkedOut : Table → ℕ → Terms → Terms → Option ℕ → Type 0
  NodeWorkedOut t k before after (Some n) =
      ResultsFit kind weights (row_at t before) (joining_of t k)
      × RowMade k (enumeration kind weights (row_at t before) (joining_of t k)) before after n
  NodeWorkedOut t k before after None =
      (¬ ResultsFit kind weights (row_at t before) (joining_of t k)) × Kept no_node before after
