use Rattle.std.proofs.Common.{◌≤◌, ℕ, ◌<◌, slice_index_or}
use Rattle.diagram.specs.Records.{size_at}
use Rattle.diagram.proofs.table.Table.children_have_at_most.Given as goal

abbrev pub invariant-loop-c : goal.invariant-loop-c
invariant-loop-c l = (j d : ℕ) → j < l.c-index → size_at l.self (slice_index_or l.c-items j d) ≤ l.n
