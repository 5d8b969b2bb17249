-- Combinations whose picked weights have a product of nothing add nothing to a row.
use Rattle.std.proofs.Common.{◌≡◌, List, [], ◌∷◌, ◌++◌, Ordering, Less, Equal, Greater, refl, ap, ◌∙◌}
use Rattle.kinds.specs.declared.performance.Performance
use Rattle.kinds.specs.declared.performance.OuterArms.{OuterArms}
use Rattle.kinds.specs.declared.weight.Weight
use Rattle.terms.specs.declared.term.Term.{Term}
use Rattle.terms.specs.declared.bridge.Arms.{Arms}
use Rattle.terms.specs.Rows.{if_same, share, weight_at, SameDistribution, IsRow, RowOf}
use Rattle.terms.specs.Combinations.{each}
use Rattle.terms.specs.Picking.{with_b, with_d, with_outer}
use Rattle.terms.specs.Growing.{scaled, GivesNothing}
use Rattle.kinds.proofs.Lawful.{Kind, Weighing}
use Rattle.terms.proofs.Summing.{sum_append}

module _ {P W : Type 0} {kind : Performance.Ghosts P} {weights : Weight.Ghosts W} (k : Kind kind) (w : Weighing weights) where
  abbrev T : Type 0
  T = Term P W

  -- the distribution is nothing everywhere
  abbrev Void : List T → Type 0
  Void ts = SameDistribution kind weights ts []

  void_append : (ts us : List T) → Void ts → Void us → Void (ts ++ us)
  void_append ts us e f p =
      sum_append w (share kind weights p) ts us
      ∙ ap (λ z. weights.sum z (weight_at kind weights us p)) (e p)
      ∙ w.neutral (weight_at kind weights us p)
      ∙ f p

  void_each : {X : Type 0} (xs : List X) (f : X → List T) → ((x : X) → Void (f x)) → Void (each xs f)
  void_each [] f e p = refl
  void_each (x ∷ xs) f e p = void_append (f x) (each xs f) (e x) (void_each xs f e) p

  if_same_nothing : (o : Ordering) (v : W) → v ≡ weights.nothing → if_same o v weights.nothing ≡ weights.nothing
  if_same_nothing Less v e = refl
  if_same_nothing Equal v e = e
  if_same_nothing Greater v e = refl

  pub void_one : (t : T) → t.weight ≡ weights.nothing → Void (t ∷ [])
  void_one t e p =
      ap (λ z. weights.sum z weights.nothing) (if_same_nothing (kind.compared t.performance p) t.weight e)
      ∙ w.neutral weights.nothing

  pub void_times : (xs : List T) (gives : T → List T) → GivesNothing kind weights gives → (v : W) → v ≡ weights.nothing → Void (each xs λ x. gives (scaled weights v x))
  void_times xs gives keeps v e = void_each xs _ (λ x. keeps _ (ap (λ z. weights.product z x.weight) e ∙ w.absorbs x.weight))

  pub void_wanted : (xs : List T) (wanted : P → W → List T) → ((p : P) → Void (wanted p weights.nothing)) → (v : W) → v ≡ weights.nothing → Void (each xs λ x. wanted x.performance (weights.product v x.weight))
  void_wanted xs wanted none v e = void_each xs _ (λ x p. ap (λ z. weight_at kind weights (wanted x.performance z) p) (ap (λ z. weights.product z x.weight) e ∙ w.absorbs x.weight) ∙ none x.performance p)

  pub void_outer : (cs : List T) (outer : OuterArms P) (v : W) → v ≡ weights.nothing → Void (with_outer kind weights cs outer v)
  void_outer cs outer v e = void_each cs _ (λ c. void_one _ (ap (λ z. weights.product z c.weight) e ∙ w.absorbs c.weight))

  pub void_d : (a b : P) (arms : Arms P W) → GivesNothing kind weights (λ d. with_d kind weights a b d arms)
  void_d a b arms d h = void_each arms.e.now _ (λ e. void_outer arms.c.now _ _ (ap (λ z. weights.product z e.weight) h ∙ w.absorbs e.weight))

  pub void_b : (a : P) (arms : Arms P W) → GivesNothing kind weights (λ b. with_b kind weights a b arms)
  void_b a arms b = void_times arms.d.now (λ d. with_d kind weights a b.performance d arms) (void_d a b.performance arms) b.weight

  pub void_adds : (ts r : List T) → Void ts → IsRow kind weights r → RowOf kind weights (ts ++ r) r
  void_adds ts r e h = record {
    row = h;
    same = λ p. sum_append w (share kind weights p) ts r ∙ ap (λ z. weights.sum z (weight_at kind weights r p)) (e p) ∙ w.neutral (weight_at kind weights r p);
  }
