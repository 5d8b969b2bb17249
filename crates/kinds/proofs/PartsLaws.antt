-- Parts are a lawful weight, and count up to the top.
use Rattle.std.proofs.Common.{refl, arith}
use Rattle.kinds.specs.Capped.{top32}
use Rattle.kinds.specs.Counting.{CountsTo}
use Rattle.kinds.specs.Words.{number}
use Rattle.kinds.specs.WordLaws.{word_same}
use Rattle.kinds.specs.contracts.parts.PartsWeight.TheImpl as parts_weight
use Rattle.kinds.specs.contracts.parts.PartsWeight.TheImpl.Laws as laws
use Rattle.kinds.proofs.Lawful.{Weighing}

pub parts_laws : Weighing parts_weight.ghosts
parts_laws = record {
  nothing_is = laws.test_accepts_nothing-law;
  only_nothing = laws.test_accepts_only_nothing-law;
  sum_assoc = laws.sum_associative-law;
  sum_comm = laws.sum_commutative-law;
  neutral = laws.sum_neutral-law;
  no_cancelling = laws.sum_none-law;
  product_assoc = laws.product_associative-law;
  product_comm = laws.product_commutative-law;
  distributes = laws.product_distributes-law;
  absorbs = laws.product_nothing-law;
}

pub parts_count : CountsTo top32 parts_weight.ghosts number
parts_count = record {
  some = omega arith;
  at_most = λ w. let fits = w.fits in omega (arith, fits);
  tells = word_same;
  nothing = refl;
  sum = λ v w. refl;
  product = λ v w. refl;
}
