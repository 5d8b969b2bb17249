-- Fault set: in series all that either shows, in parallel what both show.
use Rattle.std.specs.Prelude.{Bool, ◌==◌, bit_and}
use Rattle.kinds.specs.Named.{FaultSet}
use Rattle.kinds.specs.Paths.{by_paths}
use Rattle.kinds.specs.Words.{union, intersection}

-- the intersection of the unions of the paths a-d, b-e, a-c-e and b-c-d
abbrev pub faults_bridge : FaultSet → FaultSet → FaultSet → FaultSet → FaultSet → FaultSet
faults_bridge = by_paths union intersection

-- v has no bit outside w
abbrev pub faults_meets : FaultSet → FaultSet → Bool
faults_meets v w = bit_and v.bits w.bits == v.bits
