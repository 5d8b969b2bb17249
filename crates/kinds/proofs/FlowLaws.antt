-- Flow is a lawful kind.
use Rattle.kinds.specs.contracts.flow.FlowPerformance.TheImpl as flow_kind
use Rattle.kinds.specs.contracts.flow.FlowPerformance.TheImpl.Laws as laws
use Rattle.kinds.proofs.Lawful.{Kind}

pub flow_laws : Kind flow_kind.ghosts
flow_laws = record {
  same_itself = laws.identical_same-law;
  same_only = laws.same_identical-law;
  swaps = laws.swapped-law;
  transitive = laws.less_transitive-law;
  series_assoc = laws.series_associative-law;
  parallel_assoc = laws.parallel_associative-law;
  series_comm = laws.series_commutative-law;
  parallel_comm = laws.parallel_commutative-law;
}
