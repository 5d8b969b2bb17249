-- Grades: in series the lower, in parallel the higher, and over a bridge the best of the paths.
use Rattle.std.specs.Prelude.{ℕ, min, max, Bool, nat_le}
use Rattle.std.specs.declared.cmp.Ordering.{Ordering}
use Rattle.std.specs.Ordering.{nat_cmp}
use Rattle.kinds.specs.Paths.{by_paths}
use Rattle.kinds.specs.Bounded.{min_fits, max_fits}
use Rattle.grades.specs.declared.grade.Grade.{Grade}

-- the number of a grade
abbrev pub grade_number : Grade → ℕ
grade_number g = g.digit

-- in the order of their numbers
abbrev pub grade_compared : Grade → Grade → Ordering
grade_compared a b = nat_cmp a.digit b.digit

abbrev pub lower : Grade → Grade → Grade
lower a b = record { digit = min a.digit b.digit; fits = min_fits a.digit b.digit a.fits }

abbrev pub higher : Grade → Grade → Grade
higher a b = record { digit = max a.digit b.digit; fits = max_fits a.digit b.digit a.fits b.fits }

-- the highest of the lowest grades on the paths a-d, b-e, a-c-e and b-c-d
abbrev pub grade_bridge : Grade → Grade → Grade → Grade → Grade → Grade
grade_bridge = by_paths lower higher

-- v is at least w
abbrev pub grade_meets : Grade → Grade → Bool
grade_meets v w = nat_le w.digit v.digit
