use Rattle.std.proofs.Common.{◌≡◌, ◌*◌, ◌++◌, List, length, drop, flat_map}
use Rattle.files.specs.declared.limits.TheConstants.{DEMAND_BYTES}
use Rattle.files.specs.Contents.{performance_bytes}
use Rattle.files.proofs.demands.Demands.begin_with.Given as goal

-- the bytes are those of the demands before i, and the rest
abbrev pub invariant-loop-i : goal.invariant-loop-i
invariant-loop-i g l =
    (demands : List g.row.P.Denot) × (length demands ≡ l.i)
    × (l.self.bytes.now ≡ flat_map (performance_bytes g.P.FilePerformance) demands ++ drop (DEMAND_BYTES * l.i) l.self.bytes.now)
