-- Batches are counted up to a top: what is more counts as the top.
use Rattle.std.specs.Prelude.{ℕ, ◌+◌, ◌*◌, Bool, ◌==◌}
use Rattle.kinds.specs.Capped.{capped}
use Rattle.kinds.specs.Caps.{at_most}
use Rattle.grades.specs.declared.batches.Batches.{Batches}

-- the largest number of 16 bits
abbrev pub top16 : ℕ
top16 = 65535

-- the number of batches
abbrev pub how_many : Batches → ℕ
how_many b = b.count

-- that many, or the top
abbrev pub capped_batches : ℕ → Batches
capped_batches n = record { count = capped top16 n; fits = at_most top16 n }

abbrev pub no_batches : Batches
no_batches = capped_batches 0

abbrev pub batches_sum : Batches → Batches → Batches
batches_sum a b = capped_batches (a.count + b.count)

abbrev pub batches_product : Batches → Batches → Batches
batches_product a b = capped_batches (a.count * b.count)

abbrev pub are_none : Batches → Bool
are_none b = b.count == 0
