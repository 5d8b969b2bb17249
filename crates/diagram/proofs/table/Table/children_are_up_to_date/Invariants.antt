use Rattle.std.proofs.Common.{◌≡◌, ℕ, ◌<◌, slice_index_or}
use Rattle.diagram.specs.declared.node.Status.TheVariants.{UpToDate}
use Rattle.diagram.specs.Records.{status_at}
use Rattle.diagram.proofs.table.Table.children_are_up_to_date.Given as goal

abbrev pub invariant-loop-c : goal.invariant-loop-c
invariant-loop-c l = (j d : ℕ) → j < l.c-index → status_at l.self (slice_index_or l.c-items j d) ≡ UpToDate
