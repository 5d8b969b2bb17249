-- The order of a pair is transitive.
use Rattle.std.specs.Prelude.{◌≡◌, ℕ, ◌⊎◌, refl}
use Rattle.std.specs.declared.cmp.Ordering.TheVariants.{Less, Equal, Greater}
use Rattle.std.specs.declared.cmp.Ordering.{Ordering}
use Rattle.std.proofs.Common.{inl, inr, ⊎_elim, arith}
use Rattle.std.specs.Ordering.{ordering_then}
use Rattle.kinds.specs.Pairs.{pair_compared}
use Rattle.kinds.specs.declared.values.Pair.{Pair}

then_less : (o p : Ordering) → ordering_then o p ≡ Less → (o ≡ Less) ⊎ ((o ≡ Equal) × (p ≡ Less))
then_less Less p h = inl refl
then_less Equal p h = inr (refl, h)
then_less Greater p h = let z : ◌≡◌ {A = ℕ} 0 1 = cc in absurd (omega arith)

module _ {X Y : Type 0} {f : X → X → Ordering} {g : Y → Y → Ordering}
    (same : (a b : X) → f a b ≡ Equal → a ≡ b)
    (f_less : (a b c : X) → f a b ≡ Less → f b c ≡ Less → f a c ≡ Less)
    (g_less : (a b c : Y) → g a b ≡ Less → g b c ≡ Less → g a c ≡ Less) where
  pub pair_less : (a b c : Pair X Y) → pair_compared f g a b ≡ Less → pair_compared f g b c ≡ Less → pair_compared f g a c ≡ Less
  pair_less a b c p q =
      ⊎_elim
      (λ l. ⊎_elim
      (λ m. let r = f_less a.first b.first c.first l m in cc)
      (λ m. let e = same b.first c.first m.0 in cc)
      (then_less (f b.first c.first) (g b.second c.second) q))
      (λ l. let e = same a.first b.first l.0 in ⊎_elim
      (λ m. cc)
      (λ m. let r = g_less a.second b.second c.second l.1 m.1 in cc)
      (then_less (f b.first c.first) (g b.second c.second) q))
      (then_less (f a.first b.first) (g a.second b.second) p)
