-- The arms of a bridge gone through in another order, and what outer arms give with all of arm c.
use Rattle.std.proofs.Common.{◌≡◌, List, [], ◌∷◌, ◌++◌, sym, ap, ◌∙◌}
use Rattle.kinds.specs.declared.performance.Performance
use Rattle.kinds.specs.declared.performance.OuterArms.{OuterArms}
use Rattle.kinds.specs.declared.weight.Weight
use Rattle.kinds.specs.OuterArms.{SameAround}
use Rattle.kinds.proofs.Lawful.{Kind, Weighing}
use Rattle.terms.specs.declared.term.Term.{Term}
use Rattle.terms.specs.declared.bridge.Arms.{Arms}
use Rattle.terms.specs.Rows.{sum_over, share, weight_at, SameDistribution}
use Rattle.terms.specs.Combinations.{each, term, bridged, bridges}
use Rattle.terms.specs.Growing.{mapped}
use Rattle.terms.specs.Picking.{with_outer, with_a}
use Rattle.terms.proofs.Canonical.{share_additive}
use Rattle.terms.proofs.Each.{each_cong}
use Rattle.terms.proofs.Summing.{Additive, additive_sum, additive_through, linear_times, linear_itself, sum_append, sum_cong, sum_each, sum_one, sum_swap}
use Rattle.terms.proofs.Combining.{sum_bridges}

module _ {P W : Type 0} {kind : Performance.Ghosts P} {weights : Weight.Ghosts W} (k : Kind kind) (w : Weighing weights) where
  abbrev T : Type 0
  T = Term P W

  infixl 60 ◌⊗◌
  abbrev ◌⊗◌ : W → W → W
  u ⊗ v = weights.product u v

  -- all five picked, in the order a, b, d, e, c
  abbrev picked : T → T → T → T → T → T
  picked a b d e c = mapped weights (λ p. kind.bridge a.performance b.performance p d.performance e.performance) (a.weight ⊗ b.weight ⊗ d.weight ⊗ e.weight) c

  c_last : (u c d e : W) → u ⊗ d ⊗ e ⊗ c ≡ u ⊗ c ⊗ d ⊗ e
  c_last u c d e =
      w.product_assoc (u ⊗ d) e c
      ∙ ap (λ z. u ⊗ d ⊗ z) (w.product_comm e c)
      ∙ sym (w.product_assoc (u ⊗ d) c e)
      ∙ ap (λ z. z ⊗ e) (w.product_assoc u d c ∙ ap (λ z. u ⊗ z) (w.product_comm d c) ∙ sym (w.product_assoc u c d))

  picked_bridged : (a b d e c : T) → picked a b d e c ≡ bridged kind weights a b c d e
  picked_bridged a b d e c = ap (λ z. record { performance = kind.bridge a.performance b.performance c.performance d.performance e.performance; weight = z }) (c_last (a.weight ⊗ b.weight) c.weight d.weight e.weight)

  abbrev total : (T → W) → List T → W
  total = sum_over weights

  sum_picked : (gives : T → W) (qs : List T) (arms : Arms P W) →
      total gives (each qs λ a. with_a kind weights a arms)
      ≡ total (λ a. total (λ b. total (λ d. total (λ e. total (λ c. gives (bridged kind weights a b c d e)) arms.c.now) arms.e.now) arms.d.now) arms.b.now) qs
  sum_picked gives qs arms =
      sum_each w gives qs _ ∙ sum_cong w _ _ qs (λ a.
      sum_each w gives arms.b.now _ ∙ sum_cong w _ _ arms.b.now (λ b.
      sum_each w gives arms.d.now _ ∙ sum_cong w _ _ arms.d.now (λ d.
      sum_each w gives arms.e.now _ ∙ sum_cong w _ _ arms.e.now (λ e.
      sum_each w gives arms.c.now _ ∙ sum_cong w _ _ arms.c.now (λ c. sum_one w gives (picked a b d e c) ∙ ap gives (picked_bridged a b d e c))))))

  pub arms_reordered : (qs : List T) (arms : Arms P W) → SameDistribution kind weights (bridges kind weights qs arms.b.now arms.c.now arms.d.now arms.e.now) (each qs λ a. with_a kind weights a arms)
  arms_reordered qs arms p =
      let gives = share kind weights p in
      sum_bridges k w gives qs arms.b.now arms.c.now arms.d.now arms.e.now
      ∙ sum_cong w _ _ qs (λ a. sum_cong w _ _ arms.b.now (λ b.
      sum_swap w (λ c d. total (λ e. gives (bridged kind weights a b c d e)) arms.e.now) arms.c.now arms.d.now
      ∙ sum_cong w _ _ arms.d.now (λ d. sum_swap w (λ c e. gives (bridged kind weights a b c d e)) arms.c.now arms.e.now)))
      ∙ sym (sum_picked gives qs arms)

  module _ (cs : List T) where
    abbrev gives : OuterArms P → W → List T
    gives = with_outer kind weights cs

    pub outer_same : (p q : OuterArms P) (v : W) → SameAround kind.series kind.parallel kind.bridge p q → gives q v ≡ gives p v
    outer_same p q v same = each_cong cs _ _ (λ c. ap (λ z. term z (weights.product v c.weight) ∷ []) (same.around c.performance))

    module _ (outer : OuterArms P) where
      abbrev bridge : P → P
      bridge c = kind.bridge outer.a outer.b c outer.d outer.e

      -- what a performance has of it, as a sum over arm c
      abbrev summed : P → T → W
      summed p t = sum_over weights (λ c. share kind weights p (term (bridge c.performance) (weights.product t.weight c.weight))) cs

      outer_weight : (p : P) (v : W) → weight_at kind weights (gives outer v) p ≡ summed p (term p v)
      outer_weight p v = sum_each w (share kind weights p) cs _ ∙ sum_cong w _ _ cs (λ c. sum_one w (share kind weights p) (mapped weights bridge v c))

      summed_additive : (p : P) → Additive weights (summed p)
      summed_additive p =
          additive_sum w (λ t c. share kind weights p (term (bridge c.performance) (weights.product t.weight c.weight))) cs
          (λ c. additive_through w (share kind weights p) (share_additive k w p) (λ _. bridge c.performance) (λ u. weights.product u c.weight) (linear_times w (λ u. u) (linear_itself w) c.weight))

      pub outer_sums : (u v : W) → SameDistribution kind weights (gives outer (weights.sum u v)) (gives outer u ++ gives outer v)
      outer_sums u v p =
          outer_weight p (weights.sum u v)
          ∙ (summed_additive p).more p u v
          ∙ ap (λ z. weights.sum z (summed p (term p v))) (sym (outer_weight p u))
          ∙ ap (weights.sum (weight_at kind weights (gives outer u) p)) (sym (outer_weight p v))
          ∙ sym (sum_append w (share kind weights p) (gives outer u) (gives outer v))
