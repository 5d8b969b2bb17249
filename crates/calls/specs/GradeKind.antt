-- Grades: the order of their numbers, the worse and the better of two, a bridge by its paths.
use Rattle.std.specs.Prelude.{Bool, min, max, nat_le}
use Rattle.std.specs.declared.cmp.Ordering.{Ordering}
use Rattle.std.specs.Ordering.{nat_cmp}
use Rattle.kinds.specs.Paths.{by_paths}
use Rattle.calls.specs.declared.grade.Grade.{Grade}

abbrev pub grade_compared : Grade → Grade → Ordering
grade_compared v w = nat_cmp v.number w.number

abbrev pub worse : Grade → Grade → Grade
worse v w = record { number = min v.number w.number }

abbrev pub better : Grade → Grade → Grade
better v w = record { number = max v.number w.number }

abbrev pub grade_bridge : Grade → Grade → Grade → Grade → Grade → Grade
grade_bridge = by_paths worse better

-- v is at least w
abbrev pub grade_meets : Grade → Grade → Bool
grade_meets v w = nat_le w.number v.number
