use Rattle.std.proofs.Common.{◌≢◌, ℕ, ◌<◌, slice_index_or}
use Rattle.diagram.proofs.table.are_distinct.Given as goal

abbrev pub invariant-loop-i : goal.invariant-loop-i
invariant-loop-i l = (i j d : ℕ) → i < j → j < l.i → slice_index_or l.children i d ≢ slice_index_or l.children j d
