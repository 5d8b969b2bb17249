use Rattle.std.proofs.Common.{◌≡◌, take}
use Rattle.terms.specs.Rows.{sum_over}
use Rattle.terms.specs.Growing.{OfMap}
use Rattle.terms.proofs.sums.sum_of.Given as goal

abbrev pub invariant-loop-t : goal.invariant-loop-t
invariant-loop-t g l = OfMap (goal.F-post g l.gives) λ given. l.all ≡ sum_over g.W.Weight given (take l.t-index l.row)
