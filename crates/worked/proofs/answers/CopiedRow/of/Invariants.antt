use Rattle.std.proofs.Common.{◌≡◌, length, take}
use Rattle.diagram.specs.declared.limits.TheConstants.{TERMS}
use Rattle.diagram.specs.Shown.{records}
use Rattle.diagram.specs.Store.{row_at}
use Rattle.worked.proofs.answers.CopiedRow.of.Given as goal

abbrev pub invariant-loop-i : goal.invariant-loop-i
invariant-loop-i l = (length l.terms ≡ TERMS) × (take l.i l.terms ≡ take l.i (row_at (records l.fn.diagram) l.fn.store l.fn.k))
