-- Cited by private functions only: the combinations of a bridge that are left once the first arms
-- are picked, in the order a, b, d, e, c.
use Rattle.std.specs.Prelude.{List, [], ◌∷◌}
use Rattle.kinds.specs.declared.performance.Performance
use Rattle.kinds.specs.declared.performance.OuterArms.{OuterArms}
use Rattle.kinds.specs.declared.weight.Weight
use Rattle.terms.specs.declared.term.Term.{Term}
use Rattle.terms.specs.declared.bridge.Arms.{Arms}
use Rattle.terms.specs.Combinations.{each}
use Rattle.terms.specs.Growing.{scaled, mapped}

module _ {P W : Type 0} (kind : Performance.Ghosts P) (weights : Weight.Ghosts W) where
  abbrev T : Type 0
  T = Term P W

  -- The arms before have their performances picked; the weight of the term picked last is the product of all.
  abbrev pub with_outer : List T → OuterArms P → W → List T
  with_outer cs outer v = each cs λ c.
      mapped weights (λ p. kind.bridge outer.a outer.b p outer.d outer.e) v c ∷ []

  abbrev pub with_d : P → P → T → Arms P W → List T
  with_d a b d arms = each arms.e.now λ e.
      with_outer arms.c.now (record { a = a; b = b; d = d.performance; e = e.performance })
      (weights.product d.weight e.weight)

  abbrev pub with_b : P → T → Arms P W → List T
  with_b a b arms = each arms.d.now λ d. with_d a b.performance (scaled weights b.weight d) arms

  abbrev pub with_a : T → Arms P W → List T
  with_a a arms = each arms.b.now λ b. with_b a.performance (scaled weights a.weight b) arms
