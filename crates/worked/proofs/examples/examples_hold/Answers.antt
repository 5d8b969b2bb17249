use Rattle.std.proofs.Common.{refl, ap}
use Rattle.kinds.specs.declared.values.OrOut.TheVariants.{Working}
use Rattle.kinds.proofs.FlowLaws.{flow_laws}
use Rattle.kinds.proofs.ScenariosLaws.{scenarios_laws}
use Rattle.kinds.specs.WordLaws.{word_same}
use Rattle.terms.proofs.Canonical.{canon_row}
use Rattle.worked.proofs.Computed.{row_by_computing}
use Rattle.worked.proofs.examples.examples_hold.Goals as goal

pub returns : goal.returns
returns c = record {
  flows_in_series = word_same _ _ refl;
  flows_in_parallel = word_same _ _ refl;
  flow_stops_at_the_top = word_same _ _ refl;
  flow_over_a_bridge = word_same _ _ refl;
  delay_over_a_bridge = word_same _ _ refl;
  faults_over_a_bridge = word_same _ _ refl;
  healthy_then_faulty = word_same _ _ refl;
  both_faulty = word_same _ _ refl;
  one_healthy = word_same _ _ refl;
  an_arm_out = ap Working (word_same _ _ refl);
  likes_are_added = row_by_computing _ _ (refl, refl, (refl, refl, tt));
  nothing_is_left_out = row_by_computing _ _ (refl, refl, tt);
  parts_stop_at_the_top = word_same _ _ refl;
  scenarios_apart = word_same _ _ refl;
  no_term_of_scenarios_apart = canon_row flow_laws scenarios_laws _;
  pumps_in_parallel = row_by_computing _ _ (refl, refl, (refl, refl, (refl, refl, (refl, refl, tt))));
  plant_in_series = row_by_computing _ _ (refl, refl, (refl, refl, (refl, refl, (refl, refl, tt))));
  need_of_three = word_same _ _ refl;
  need_of_five = word_same _ _ refl;
  everything = word_same _ _ refl;
}
