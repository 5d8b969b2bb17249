-- Grades are the same where their numbers are, and so the laws of numbers hold of grades.
use Rattle.std.specs.Prelude.{◌≡◌}
use Rattle.std.specs.declared.cmp.Ordering.TheVariants.{Less, Equal}
use Rattle.std.specs.Ordering.{ordering_reverse}
use Rattle.std.proofs.Math.Nat.{min_comm, max_comm}
use Rattle.std.proofs.lemmas.Cmp.{nat_cmp_total, tied_itself}
use Rattle.kinds.specs.WordLaws.{nat_equal, min_assoc, max_assoc}
use Rattle.calls.specs.GradeKind.{grade_compared, worse, better}
use Rattle.calls.specs.declared.grade.Grade.{Grade}

same : (v w : Grade) → v.number ≡ w.number → v ≡ w
same v w p = λ i. record { number = p i }

pub compared_same : (v w : Grade) → grade_compared v w ≡ Equal → v ≡ w
compared_same v w h = same v w (nat_equal v.number w.number h)

pub compared_itself : (v : Grade) → grade_compared v v ≡ Equal
compared_itself v = tied_itself nat_cmp_total v.number

pub compared_swapped : (v w : Grade) → grade_compared w v ≡ ordering_reverse (grade_compared v w)
compared_swapped v w = nat_cmp_total.antisymm w.number v.number

pub compared_less : (u v w : Grade) → grade_compared u v ≡ Less → grade_compared v w ≡ Less → grade_compared u w ≡ Less
compared_less u v w = nat_cmp_total.trans u.number v.number w.number

pub worse_assoc : (u v w : Grade) → worse (worse u v) w ≡ worse u (worse v w)
worse_assoc u v w = same _ _ (min_assoc u.number v.number w.number)

pub worse_comm : (v w : Grade) → worse v w ≡ worse w v
worse_comm v w = same _ _ (min_comm v.number w.number)

pub better_assoc : (u v w : Grade) → better (better u v) w ≡ better u (better v w)
better_assoc u v w = same _ _ (max_assoc u.number v.number w.number)

pub better_comm : (v w : Grade) → better v w ≡ better w v
better_comm v w = same _ _ (max_comm v.number w.number)
