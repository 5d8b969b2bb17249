-- Flow: in series the smaller passes, in parallel the capped sum.
use Rattle.std.specs.Prelude.{◌+◌, Bool, nat_le}
use Rattle.kinds.specs.Named.{Flow}
use Rattle.kinds.specs.Words.{smaller, capped_word}

-- the smallest of the capped sums of the cuts a-b, d-e, a-c-e and b-c-d
abbrev pub flow_bridge : Flow → Flow → Flow → Flow → Flow → Flow
flow_bridge a b c d e =
    smaller (smaller (smaller (capped_word (a.bits + b.bits)) (capped_word (d.bits + e.bits))) (capped_word (a.bits + c.bits + e.bits)))
    (capped_word (b.bits + c.bits + d.bits))

-- v is at least w
abbrev pub flow_meets : Flow → Flow → Bool
flow_meets v w = nat_le w.bits v.bits
