-- The lines so far are played: their calls are a run, the newest first.
use Rattle.std.proofs.Common.{map}
use Rattle.calls.proofs.Playing.{PlayedSoFar}
use Rattle.calls.proofs.play.play.Given as goal

abbrev pub invariant-loop-line : goal.invariant-loop-line
invariant-loop-line g l = PlayedSoFar g.P.Written g.P.Performance (map (λ x. x.now) l.yielded) l.diagram l.store.items
