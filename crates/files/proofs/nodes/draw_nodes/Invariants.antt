-- The records before k have made their nodes.
use Rattle.files.proofs.ManyNodes.{SoFar}
use Rattle.files.proofs.nodes.draw_nodes.Given as goal

abbrev pub invariant-loop-k : goal.invariant-loop-k
invariant-loop-k g l = SoFar g.P.Performance g.W.Weight g.P.FilePerformance g.W.FileWeight l.fn.store l.fn.n l.fn.bytes l.k-counter l.rest l.diagram l.store
