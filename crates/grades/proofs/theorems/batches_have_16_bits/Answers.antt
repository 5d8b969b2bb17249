use Rattle.grades.specs.BatchesLaws.{batches_to_the_top}
use Rattle.grades.proofs.theorems.batches_have_16_bits.Goals as goal

pub returns : goal.returns
returns c = batches_to_the_top
