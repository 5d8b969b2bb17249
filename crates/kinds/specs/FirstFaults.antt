-- First fault: the one met first; 0 is healthy. Order counts, in series and in parallel.
use Rattle.std.specs.Prelude.{Bool, cond, ◌||◌, ◌==◌}
use Rattle.kinds.specs.Named.{FirstFault}
use Rattle.kinds.specs.Paths.{by_paths}

-- the first unless it is healthy, then the second
abbrev pub first_series : FirstFault → FirstFault → FirstFault
first_series a b = cond (a.bits == 0) b a

-- healthy if either is, else the first
abbrev pub first_parallel : FirstFault → FirstFault → FirstFault
first_parallel a b = cond (a.bits == 0) a (cond (b.bits == 0) b a)

-- the paths a-d, b-e, a-c-e and b-c-d by series, joined by parallel in this order
abbrev pub first_bridge : FirstFault → FirstFault → FirstFault → FirstFault → FirstFault → FirstFault
first_bridge = by_paths first_series first_parallel

-- v is healthy, or the fault w
abbrev pub first_meets : FirstFault → FirstFault → Bool
first_meets v w = v.bits == 0 || v.bits == w.bits
