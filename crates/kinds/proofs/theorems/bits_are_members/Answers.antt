use Rattle.kinds.proofs.BitSets.{union_has, intersection_has, meets_within}
use Rattle.kinds.proofs.theorems.bits_are_members.Goals as goal

pub returns : goal.returns
returns c = record {
  union = union_has;
  intersection = intersection_has;
  within = λ v w. meets_within v.bits w.bits;
}
