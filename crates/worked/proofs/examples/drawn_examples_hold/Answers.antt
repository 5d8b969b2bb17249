use Rattle.std.proofs.Common.{refl}
use Rattle.kinds.specs.WordLaws.{word_same}
use Rattle.worked.proofs.Computed.{row_by_computing, redrawn_same}
use Rattle.worked.proofs.examples.drawn_examples_hold.Goals as goal

pub returns : goal.returns
returns c = record {
  plant_by_enumeration = row_by_computing _ _ (refl, refl, (refl, refl, (refl, refl, (refl, refl, tt))));
  redrawn_by_enumeration = row_by_computing _ _ (refl, refl, (refl, refl, (refl, refl, (refl, refl, tt))));
  redrawn_reads_the_same = redrawn_same;
  one_pump_at_two_places = row_by_computing _ _ (refl, refl, (refl, refl, tt));
  a_combination_of_a_bridge = word_same _ _ refl;
  a_combination_from_the_left = word_same _ _ refl;
}
