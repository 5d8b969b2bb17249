-- Grades are equal where their numbers are, and so the laws of numbers hold of grades. (Other laws are found by search.)
use Rattle.std.specs.Prelude.{◌≡◌, refl}
use Rattle.std.specs.declared.cmp.Ordering.TheVariants.{Equal}
use Rattle.std.proofs.Math.Nat.{min_comm, max_comm}
use Rattle.kinds.specs.Bounded.{bound_path}
use Rattle.kinds.specs.Holding.{NumbersTo}
use Rattle.kinds.specs.WordLaws.{holds, nat_equal, min_assoc, max_assoc}
use Rattle.grades.specs.GradeKind.{grade_number, grade_compared, lower, higher}
use Rattle.grades.specs.declared.grade.Grade.{Grade}

pub grade_same : (a b : Grade) → a.digit ≡ b.digit → a ≡ b
grade_same a b p = λ i. record { digit = p i; fits = bound_path p 9 a.fits b.fits i }

pub ten_grades : NumbersTo 9 grade_number
ten_grades = record {
  every = λ n h. let g : Grade = record { digit = n; fits = h } in (g, holds grade_number grade_same n g refl);
  none_else = λ g. g.fits;
}

pub compared_same : (a b : Grade) → grade_compared a b ≡ Equal → a ≡ b
compared_same a b h = grade_same a b (nat_equal a.digit b.digit h)

pub lower_assoc : (a b c : Grade) → lower (lower a b) c ≡ lower a (lower b c)
lower_assoc a b c = grade_same _ _ (min_assoc a.digit b.digit c.digit)

pub lower_comm : (a b : Grade) → lower a b ≡ lower b a
lower_comm a b = grade_same _ _ (min_comm a.digit b.digit)

pub higher_assoc : (a b c : Grade) → higher (higher a b) c ≡ higher a (higher b c)
higher_assoc a b c = grade_same _ _ (max_assoc a.digit b.digit c.digit)

pub higher_comm : (a b : Grade) → higher a b ≡ higher b a
higher_comm a b = grade_same _ _ (max_comm a.digit b.digit)
