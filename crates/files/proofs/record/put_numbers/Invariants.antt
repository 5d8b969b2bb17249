use Rattle.std.proofs.Common.{◌≡◌, length, take}
use Rattle.files.specs.declared.limits.TheConstants.{ROOM}
use Rattle.files.proofs.record.put_numbers.Given as goal

-- the first children are those named so far
abbrev pub invariant-loop-i : goal.invariant-loop-i
invariant-loop-i l = (length l.children ≡ ROOM) × (take l.i l.children ≡ take l.i l.named)
