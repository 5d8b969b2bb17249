use Rattle.std.proofs.Common.{ℕ, ◌<◌, slice_index_or}
use Rattle.diagram.specs.Calls.{Free}
use Rattle.diagram.proofs.table.Table.are_free.Given as goal

abbrev pub invariant-loop-c : goal.invariant-loop-c
invariant-loop-c l = (j d : ℕ) → j < l.c-index → Free l.self (slice_index_or l.children j d)
