-- The joined ones of the nodes below k are collected.
use Rattle.diagram.specs.InTurn.{CollectedTo}
use Rattle.diagram.proofs.diagram.Diagram.collect_all.Given as goal

abbrev pub invariant-loop-k : goal.invariant-loop-k
invariant-loop-k g l = CollectedTo g.P.Performance g.W.Weight l.fn.self l.fn.store l.k-counter l.self l.store
