-- Series and parallel, as the ways of joining.
use Rattle.std.proofs.Common.{◌≡◌, false}
use Rattle.kinds.specs.declared.performance.Performance
use Rattle.terms.specs.declared.term.Way.{Way}
use Rattle.terms.specs.declared.term.Way.TheVariants.{Series, Parallel}
use Rattle.terms.specs.Combinations.{joins, ordered}
use Rattle.kinds.proofs.Lawful.{Kind}

module _ {P : Type 0} {kind : Performance.Ghosts P} (k : Kind kind) where
  pub joins_associate : (way : Way) (a b c : P) → joins kind way (joins kind way a b) c ≡ joins kind way a (joins kind way b c)
  joins_associate Series = k.series_assoc
  joins_associate Parallel = k.parallel_assoc

  pub joins_commute : (way : Way) → ordered kind way ≡ false → (a b : P) → joins kind way a b ≡ joins kind way b a
  joins_commute Series = k.series_comm
  joins_commute Parallel = k.parallel_comm
