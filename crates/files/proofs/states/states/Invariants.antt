use Rattle.std.proofs.Common.{◌≡◌, ◌++◌, length, take, flat_map}
use Rattle.files.specs.declared.limits.TheConstants.{ROOM}
use Rattle.files.specs.Contents.{state_bytes}
use Rattle.files.proofs.states.states.Given as goal

-- the bytes are those of the states in the room so far, and the rest
abbrev pub invariant-loop-i : goal.invariant-loop-i
invariant-loop-i g l = (length l.room ≡ ROOM) × (l.bytes ≡ flat_map (state_bytes g.P.FilePerformance g.W.FileWeight) (take l.i l.room) ++ l.rest)
