-- Delay: in series the capped sum is waited for, in parallel the smaller; the largest number is never.
use Rattle.std.specs.Prelude.{◌+◌, Bool, ◌&&◌, nat_le, nat_lt}
use Rattle.kinds.specs.Capped.{top32}
use Rattle.kinds.specs.Named.{Delay}
use Rattle.kinds.specs.Words.{smaller, capped_word}

-- the smallest of the capped sums of the paths a-d, b-e, a-c-e and b-c-d
abbrev pub delay_bridge : Delay → Delay → Delay → Delay → Delay → Delay
delay_bridge a b c d e =
    smaller (smaller (smaller (capped_word (a.bits + d.bits)) (capped_word (b.bits + e.bits))) (capped_word (a.bits + c.bits + e.bits)))
    (capped_word (b.bits + c.bits + d.bits))

-- v is at most w, and is not never
abbrev pub delay_meets : Delay → Delay → Bool
delay_meets v w = nat_le v.bits w.bits && nat_lt v.bits top32
