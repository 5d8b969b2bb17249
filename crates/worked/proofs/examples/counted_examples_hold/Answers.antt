use Rattle.std.proofs.Common.{refl}
use Rattle.kinds.specs.WordLaws.{word_same}
use Rattle.worked.proofs.examples.counted_examples_hold.Goals as goal

pub returns : goal.returns
returns c = record {
  percents_stop_at_the_top = (word_same _ _ refl, word_same _ _ refl);
  true_percents = (refl, refl);
  only_the_total_stops = (word_same _ _ refl, word_same _ _ refl);
  its_true_counts = (refl, refl);
  tenths_do_not_stop = (word_same _ _ refl, word_same _ _ refl);
  true_tenths = (refl, refl);
}
