use Rattle.std.proofs.Common.{refl, arith}
use Rattle.grades.specs.BatchesLaws.{batches_same}
use Rattle.grades.proofs.theorems.batches_count_to_the_top.Goals as goal

pub returns : goal.returns
returns c = record {
  some = omega arith;
  at_most = λ w. w.fits;
  tells = batches_same;
  nothing = refl;
  sum = λ v w. refl;
  product = λ v w. refl;
}
