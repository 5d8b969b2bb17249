-- Grades are a lawful kind, and batches a lawful weight.
use Rattle.kinds.proofs.Lawful.{Kind, Weighing}
use Rattle.grades.specs.contracts.grade_kind.GradePerformance.TheImpl.{ghosts as grade_kind}
use Rattle.grades.specs.contracts.grade_kind.GradePerformance.TheImpl.Laws as of_grades
use Rattle.grades.specs.contracts.batches_weight.BatchesWeight.TheImpl.{ghosts as batches_weight}
use Rattle.grades.specs.contracts.batches_weight.BatchesWeight.TheImpl.Laws as of_batches

pub grade_laws : Kind grade_kind
grade_laws = record {
  same_itself = of_grades.identical_same-law;
  same_only = of_grades.same_identical-law;
  swaps = of_grades.swapped-law;
  transitive = of_grades.less_transitive-law;
  series_assoc = of_grades.series_associative-law;
  parallel_assoc = of_grades.parallel_associative-law;
  series_comm = of_grades.series_commutative-law;
  parallel_comm = of_grades.parallel_commutative-law;
}

pub batch_laws : Weighing batches_weight
batch_laws = record {
  nothing_is = of_batches.test_accepts_nothing-law;
  only_nothing = of_batches.test_accepts_only_nothing-law;
  sum_assoc = of_batches.sum_associative-law;
  sum_comm = of_batches.sum_commutative-law;
  neutral = of_batches.sum_neutral-law;
  no_cancelling = of_batches.sum_none-law;
  product_assoc = of_batches.product_associative-law;
  product_comm = of_batches.product_commutative-law;
  distributes = of_batches.product_distributes-law;
  absorbs = of_batches.product_nothing-law;
}
