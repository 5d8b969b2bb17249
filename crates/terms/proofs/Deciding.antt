-- Readings that are the same have the same distribution.
use Rattle.std.proofs.Common.{◌≡◌, ℕ, Bool, true, false, List, [], Some, None, Option, sym, refl, ap, ◌∙◌, subst}
use Rattle.kinds.specs.declared.performance.Performance
use Rattle.kinds.specs.declared.weight.Weight
use Rattle.terms.specs.declared.term.Term.{Term}
use Rattle.terms.specs.declared.term.Way.{Way}
use Rattle.terms.specs.declared.term.Way.TheVariants.{Series, Parallel}
use Rattle.terms.specs.Rows.{weight_at, SameDistribution}
use Rattle.terms.specs.Combinations.{joins, ordered, combinations, bridges}
use Rattle.terms.specs.Drawings.{Drawing, part, joined, bridge, Children, one, more, NoPartTwice}
use Rattle.terms.specs.Enumeration.{enumeration}
use Rattle.terms.specs.Readings.{Reading, as_part, as_joined, as_bridge, Readings, none, item, and_then, in_place, reading, items, Rearranged, unmoved, swapped, further, and_again, MayBecome, SameReading, parts, lists, arms, Agree, ends, next, EqualDistributions, ReadSame}
use Rattle.kinds.proofs.Lawful.{Kind, Weighing}
use Rattle.terms.proofs.Combining.{combinations_keep, combinations_associate, combinations_commute, bridges_keep}
use Rattle.terms.proofs.Renaming.{reads_by}
use Rattle.terms.proofs.Stepwise.{stepwise, stepwise_of, step_by_step}
use Rattle.terms.proofs.Ways.{joins_associate, joins_commute}

module _ {P W : Type 0} {kind : Performance.Ghosts P} {weights : Weight.Ghosts W} (k : Kind kind) (w : Weighing weights) where
  abbrev L : Type 0
  L = List (Term P W)

  abbrev Same : L → L → Type 0
  Same = SameDistribution kind weights

  -- the same distribution, or no list at all on both sides
  abbrev Like : Option L → Option L → Type 0
  Like None None = Unit {0}
  Like None (Some y) = ⊥
  Like (Some x) None = ⊥
  Like (Some x) (Some y) = Same x y

  like_refl : (a : Option L) → Like a a
  like_refl None = tt
  like_refl (Some x) = λ p. refl

  like_path : (a b : Option L) → a ≡ b → Like a b
  like_path a b e = subst (Like a) e (like_refl a)

  like_trans : (a b c : Option L) → Like a b → Like b c → Like a c
  like_trans None None c h i = i
  like_trans None (Some y) c h i = absurd h
  like_trans (Some x) None c h i = absurd h
  like_trans (Some x) (Some y) None h i = i
  like_trans (Some x) (Some y) (Some z) h i = λ p. h p ∙ i p

  abbrev or_empty : Option L → L
  or_empty None = []
  or_empty (Some x) = x

  like_empty : (a b : Option L) → Like a b → Same (or_empty a) (or_empty b)
  like_empty None None h = λ p. refl
  like_empty None (Some y) h = absurd h
  like_empty (Some x) None h = absurd h
  like_empty (Some x) (Some y) h = h

  -- joining two lists, with no list as the neutral element that a kind need not have
  module _ (way : Way) where
    abbrev both : L → L → L
    both = combinations weights (joins kind way)

    abbrev mul : Option L → Option L → Option L
    mul None b = b
    mul (Some x) None = Some x
    mul (Some x) (Some y) = Some (both x y)

    associate : (x y z : L) → both (both x y) z ≡ both x (both y z)
    associate = combinations_associate k w (joins kind way) (joins_associate k way)

    mul_assoc : (a b c : Option L) → mul (mul a b) c ≡ mul a (mul b c)
    mul_assoc None b c = refl
    mul_assoc (Some x) None c = refl
    mul_assoc (Some x) (Some y) None = refl
    mul_assoc (Some x) (Some y) (Some z) = ap Some (associate x y z)

    keep : (x x' y y' : L) → Same x x' → Same y y' → Same (both x y) (both x' y')
    keep = combinations_keep k w (joins kind way)

    mul_like : (a a' b b' : Option L) → Like a a' → Like b b' → Like (mul a b) (mul a' b')
    mul_like None None b b' h i = i
    mul_like None (Some y) b b' h i = absurd h
    mul_like (Some x) None b b' h i = absurd h
    mul_like (Some x) (Some x') None None h i = h
    mul_like (Some x) (Some x') None (Some y) h i = absurd i
    mul_like (Some x) (Some x') (Some y) None h i = absurd i
    mul_like (Some x) (Some x') (Some y) (Some y') h i = keep x x' y y' h i

    swap_first : ordered kind way ≡ false → (x y : L) (b : Option L) → Like (mul (Some x) (mul (Some y) b)) (mul (Some y) (mul (Some x) b))
    swap_first e x y None = combinations_commute k w (joins kind way) (joins_commute k way e) x y
    swap_first e x y (Some z) = λ p.
        ap (λ l. weight_at kind weights l p) (sym (associate x y z))
        ∙ keep (both x y) (both y x) z z (combinations_commute k w (joins kind way) (joins_commute k way e) x y) (λ q. refl) p
        ∙ ap (λ l. weight_at kind weights l p) (associate y x z)

  -- the terms that a reading stands for
  abbrev mutual
    value : Reading L → L
    value (as_part ts) = ts
    value (as_joined way xs) = or_empty (values way xs)
    value (as_bridge a b c d e) = bridges kind weights (value a) (value b) (value c) (value d) (value e)

    values : Way → Readings L → Option L
    values way none = None
    values way (item x xs) = mul way (Some (value x)) (values way xs)

  values_append : (way : Way) (xs ys : Readings L) → values way (and_then xs ys) ≡ mul way (values way xs) (values way ys)
  values_append way none ys = refl
  values_append way (item x xs) ys = ap (mul way (Some (value x))) (values_append way xs ys) ∙ sym (mul_assoc way (Some (value x)) (values way xs) (values way ys))

  -- a drawing has the combinations of its reading

  placed_joined : (way v : Way) (l : L) (xs : Readings L) → Some l ≡ values v xs → Some l ≡ values way (in_place way (as_joined v xs))
  placed_joined Series Series l xs e = e
  placed_joined Series Parallel l xs e = ap (λ z. Some (or_empty z)) e
  placed_joined Parallel Series l xs e = ap (λ z. Some (or_empty z)) e
  placed_joined Parallel Parallel l xs e = e

  module _ (states : ℕ → L) where
    mutual
      flat : (d : Drawing) → stepwise kind weights states d ≡ value (reading states d)
      flat (part n) = refl
      flat (joined way ds) = ap or_empty (flat_of way ds)
      flat (bridge a b c d e) = λ i. bridges kind weights (flat a i) (flat b i) (flat c i) (flat d i) (flat e i)

      placed : (way : Way) (d : Drawing) → Some (stepwise kind weights states d) ≡ values way (in_place way (reading states d))
      placed way (part n) = refl
      placed way (joined v ds) = placed_joined way v (stepwise_of kind weights states v ds) (items states v ds) (flat_of v ds)
      placed way (bridge a b c d e) = λ i. Some (bridges kind weights (flat a i) (flat b i) (flat c i) (flat d i) (flat e i))

      flat_of : (way : Way) (ds : Children) → Some (stepwise_of kind weights states way ds) ≡ values way (items states way ds)
      flat_of way (one d) = placed way d
      flat_of way (more ds d) = (λ i. mul way (flat_of way ds i) (placed way d i)) ∙ sym (values_append way (items states way ds) (in_place way (reading states d)))

  -- rearranged lists, where order does not count

  rearranged_like : (way : Way) → ordered kind way ≡ false → {xs ys : Readings L} → Rearranged xs ys → Like (values way xs) (values way ys)
  rearranged_like way e (unmoved {xs = xs}) = like_refl (values way xs)
  rearranged_like way e (swapped {x = x} {y = y} {xs = xs}) = swap_first way e (value x) (value y) (values way xs)
  rearranged_like way e (further {x = x} {xs = xs} {ys = ys} h) = mul_like way (Some (value x)) (Some (value x)) (values way xs) (values way ys) (λ p. refl) (rearranged_like way e h)
  rearranged_like way e (and_again {xs = xs} {ys = ys} {zs = zs} h i) = like_trans (values way xs) (values way ys) (values way zs) (rearranged_like way e h) (rearranged_like way e i)

  may_like : (way : Way) (xs ys : Readings L) → MayBecome (ordered kind way) xs ys → Like (values way xs) (values way ys)
  may_like way xs ys h = go (ordered kind way) refl h
    where
      go : (b : Bool) → ordered kind way ≡ b → MayBecome b xs ys → Like (values way xs) (values way ys)
      go true e h = like_path (values way xs) (values way ys) (ap (values way) h)
      go false e h = rearranged_like way e h

  mutual
    same_value : {x y : Reading L} → SameReading Same (ordered kind) x y → Same (value x) (value y)
    same_value (parts h) = h
    same_value (lists {way = way} {xs = xs} {ys = ys} zs m a) =
        like_empty (values way xs) (values way ys)
        (like_trans (values way xs) (values way zs) (values way ys) (may_like way xs zs m) (agree_like way a))
    same_value (arms a b c d e) = bridges_keep k w _ _ _ _ _ _ _ _ _ _ (same_value a) (same_value b) (same_value c) (same_value d) (same_value e)

    agree_like : (way : Way) {xs ys : Readings L} → Agree Same (ordered kind) xs ys → Like (values way xs) (values way ys)
    agree_like way ends = tt
    agree_like way (next {x = x} {y = y} {xs = xs} {ys = ys} h a) = mul_like way (Some (value x)) (Some (value y)) (values way xs) (values way ys) (same_value h) (agree_like way a)

  pub reading_decides : (states states' : ℕ → L) (d e : Drawing) → NoPartTwice d → NoPartTwice e → ReadSame kind weights states d states' e → Same (enumeration kind weights states d) (enumeration kind weights states' e)
  reading_decides states states' d e hd he s p =
      ap (λ z. weight_at kind weights z p) (step_by_step kind weights states w d hd ∙ flat states d)
      ∙ same_value (reads_by (weight_at kind weights) (EqualDistributions kind weights) (ordered kind) states states' d e s) p
      ∙ ap (λ z. weight_at kind weights z p) (sym (step_by_step kind weights states' w e he ∙ flat states' e))
