-- Drawings that read the same although they are drawn otherwise, and drawings that never do.
use Rattle.std.proofs.Common.{◌≡◌, ℕ, Bool, true, false, List, [], ◌∷◌, ◌++◌, sym, refl, ap, ◌∙◌, subst}
use mathlib.Core.List.{Permᴰ}
use Rattle.terms.specs.declared.term.Way.{Way}
use Rattle.terms.specs.declared.term.Way.TheVariants.{Series, Parallel}
use Rattle.terms.specs.Drawings.{Drawing, part, joined, Children, one, more, as_list}
use Rattle.terms.specs.Readings.{Reading, as_part, as_joined, as_bridge, Readings, none, item, and_then, in_place, reading, items, Rearranged, unmoved, swapped, further, and_again, MayBecome, SameReading, parts, lists, arms, Agree, ends, next}
use Rattle.terms.proofs.Equivalence.{Equality, may_stay, same_itself, agrees_itself}

module _ {D : Type 0} where
  in_place_own : (way : Way) (xs : Readings D) → in_place way (as_joined way xs) ≡ xs
  in_place_own Series xs = refl
  in_place_own Parallel xs = refl

  then_none : (xs : Readings D) → and_then xs none ≡ xs
  then_none none = refl
  then_none (item x xs) = ap (item x) (then_none xs)

  then_assoc : (xs ys zs : Readings D) → and_then (and_then xs ys) zs ≡ and_then xs (and_then ys zs)
  then_assoc none ys zs = refl
  then_assoc (item x xs) ys zs = ap (item x) (then_assoc xs ys zs)

  -- one list behind another, rearranged

  move_back : (x : Reading D) (ys zs : Readings D) → Rearranged (item x (and_then ys zs)) (and_then ys (item x zs))
  move_back x none zs = unmoved
  move_back x (item y ys) zs = and_again swapped (further (move_back x ys zs))

  exchanged : (xs ys : Readings D) → Rearranged (and_then xs ys) (and_then ys xs)
  exchanged none ys = subst (λ z. Rearranged ys z) (sym (then_none ys)) unmoved
  exchanged (item x xs) ys = and_again (further (exchanged xs ys)) (move_back x ys xs)

  rearranged_front : {xs xs' : Readings D} → Rearranged xs xs' → (ys : Readings D) → Rearranged (and_then xs ys) (and_then xs' ys)
  rearranged_front unmoved ys = unmoved
  rearranged_front swapped ys = swapped
  rearranged_front (further h) ys = further (rearranged_front h ys)
  rearranged_front (and_again h i) ys = and_again (rearranged_front h ys) (rearranged_front i ys)

  rearranged_behind : (xs : Readings D) {ys ys' : Readings D} → Rearranged ys ys' → Rearranged (and_then xs ys) (and_then xs ys')
  rearranged_behind none h = h
  rearranged_behind (item x xs) h = further (rearranged_behind xs h)

  may_both : (b : Bool) (xs xs' ys ys' : Readings D) → MayBecome b xs xs' → MayBecome b ys ys' → MayBecome b (and_then xs ys) (and_then xs' ys')
  may_both true xs xs' ys ys' e f = λ i. and_then (e i) (f i)
  may_both false xs xs' ys ys' h i = and_again (rearranged_front h ys) (rearranged_behind xs' i)

module _ {D : Type 0} {equal : D → D → Type 0} (equality : Equality equal) (is_ordered : Way → Bool) where
  abbrev Same : Reading D → Reading D → Type 0
  Same = SameReading equal is_ordered

  abbrev Agrees : Readings D → Readings D → Type 0
  Agrees = Agree equal is_ordered

  -- two drawings, given what their parts read as
  abbrev Alike : (ℕ → D) → Drawing → (ℕ → D) → Drawing → Type 0
  Alike f d g e = Same (reading f d) (reading g e)

  equal_same : (x y : Reading D) → x ≡ y → Same x y
  equal_same x y e = subst (Same x) e (same_itself equality is_ordered x)

  -- regrouped

  module _ (f : ℕ → D) (way : Way) where
    abbrev its : Drawing → Readings D
    its d = in_place way (reading f d)

    pub regrouped : (a b c : Drawing) → Alike f (joined way (more (one a) (joined way (more (one b) c)))) f (joined way (more (one (joined way (more (one a) b))) c))
    regrouped a b c = equal_same _ _ (ap (as_joined way)
        (ap (and_then (its a)) (in_place_own way (and_then (its b) (its c)))
        ∙ sym (then_assoc (its a) (its b) (its c))
        ∙ ap (λ z. and_then z (its c)) (sym (in_place_own way (and_then (its a) (its b))))))

    -- the items of some drawings, one behind the other
    abbrev all : List Drawing → Readings D
    all [] = none
    all (d ∷ ds) = and_then (its d) (all ds)

    all_append : (ds es : List Drawing) → all (ds ++ es) ≡ and_then (all ds) (all es)
    all_append [] es = refl
    all_append (d ∷ ds) es = ap (and_then (its d)) (all_append ds es) ∙ sym (then_assoc (its d) (all ds) (all es))

    items_all : (ds : Children) → items f way ds ≡ all (as_list ds)
    items_all (one d) = sym (then_none (its d))
    items_all (more ds d) =
        ap (λ z. and_then z (its d)) (items_all ds)
        ∙ ap (and_then (all (as_list ds))) (sym (then_none (its d)))
        ∙ sym (all_append (as_list ds) (d ∷ []))

    pub dissolved : (front back : List Drawing) (own before after : Children) → as_list before ≡ front ++ joined way own ∷ back → as_list after ≡ front ++ (as_list own ++ back) → Alike f (joined way before) f (joined way after)
    dissolved front back own before after e g = equal_same _ _ (ap (as_joined way)
        (items_all before ∙ ap all e ∙ all_append front (joined way own ∷ back)
        ∙ ap (λ z. and_then (all front) (and_then z (all back))) (in_place_own way (items f way own) ∙ items_all own)
        ∙ ap (and_then (all front)) (sym (all_append (as_list own) back))
        ∙ sym (all_append front (as_list own ++ back)) ∙ sym (ap all g) ∙ sym (items_all after)))

    permuted : {ds es : List Drawing} → Permᴰ ds es → Rearranged (all ds) (all es)
    permuted Permᴰ.nil = unmoved
    permuted (Permᴰ.cons {a = a} {l₁ = ds} {l₂ = es} e h) = subst (λ b. Rearranged (and_then (its a) (all ds)) (and_then (its b) (all es))) e (rearranged_behind (its a) (permuted h))
    permuted (Permᴰ.swap {a = a} {b = b} {b' = b'} {l = ds} e h) =
        subst (λ c. Rearranged (and_then (its a) (and_then (its b) (all ds))) (and_then (its c) (and_then (its b') (all ds)))) h
        (subst (λ c. Rearranged (and_then (its a) (and_then (its b) (all ds))) (and_then (its b) (and_then (its c) (all ds)))) e
        (subst (Rearranged (and_then (its a) (and_then (its b) (all ds)))) (then_assoc (its b) (its a) (all ds))
        (subst (λ z. Rearranged z (and_then (and_then (its b) (its a)) (all ds))) (then_assoc (its a) (its b) (all ds)) (rearranged_front (exchanged (its a) (its b)) (all ds)))))
    permuted (Permᴰ.trans h i) = and_again (permuted h) (permuted i)

    pub in_any_order : is_ordered way ≡ false → (ds es : Children) → Permᴰ (as_list ds) (as_list es) → Alike f (joined way ds) f (joined way es)
    in_any_order e ds es h =
        let zs = items f way es in
        lists zs (subst (λ b. MayBecome b (items f way ds) zs) (sym e) (subst (λ z. Rearranged z zs) (sym (items_all ds)) (subst (Rearranged (all (as_list ds))) (sym (items_all es)) (permuted h)))) (agrees_itself equality is_ordered zs)

  -- a child may be replaced by one that reads the same

  agrees_both : {xs xs' ys ys' : Readings D} → Agrees xs xs' → Agrees ys ys' → Agrees (and_then xs ys) (and_then xs' ys')
  agrees_both ends k = k
  agrees_both (next h t) k = next h (agrees_both t k)

  -- the items of the one can be rearranged to agree with those of the other
  abbrev Matches : Bool → Readings D → Readings D → Type 0
  Matches b xs ys = (zs : Readings D) × MayBecome b xs zs × Agrees zs ys

  single : (b : Bool) (x y : Reading D) → Same x y → Matches b (item x none) (item y none)
  single b x y h = (item x none, may_stay b (item x none), next h ends)

  list_match : {v v' : Way} {xs ys : Readings D} → Same (as_joined v xs) (as_joined v' ys) → Matches (is_ordered v) xs ys
  list_match (lists zs m a) = (zs, m, a)

  joined_match : (way v : Way) (xs ys : Readings D) → Matches (is_ordered v) xs ys → Matches (is_ordered way) (in_place way (as_joined v xs)) (in_place way (as_joined v ys))
  joined_match Series Series xs ys m = m
  joined_match Series Parallel xs ys m = single (is_ordered Series) (as_joined Parallel xs) (as_joined Parallel ys) (lists m.0 m.1 m.2)
  joined_match Parallel Series xs ys m = single (is_ordered Parallel) (as_joined Series xs) (as_joined Series ys) (lists m.0 m.1 m.2)
  joined_match Parallel Parallel xs ys m = m

  in_place_match : (way : Way) {x y : Reading D} → Same x y → Matches (is_ordered way) (in_place way x) (in_place way y)
  in_place_match way (parts {x = x} {y = y} h) = single (is_ordered way) (as_part x) (as_part y) (parts h)
  in_place_match way (lists {way = v} {xs = xs} {ys = ys} zs m a) = joined_match way v xs ys (zs, m, a)
  in_place_match way (arms a b c d e) = single (is_ordered way) _ _ (arms a b c d e)

  module _ (f g : ℕ → D) (way : Way) where
    pub only_replaced : (d e : Drawing) → Alike f d g e → Alike f (joined way (one d)) g (joined way (one e))
    only_replaced d e h = let m = in_place_match way h in lists m.0 m.1 m.2

    pub replaced : (ds es : Children) (d e : Drawing) → Alike f (joined way ds) g (joined way es) → Alike f d g e → Alike f (joined way (more ds d)) g (joined way (more es e))
    replaced ds es d e h i =
        let m = list_match h in
        let n = in_place_match way i in
        lists (and_then m.0 n.0) (may_both (is_ordered way) (items f way ds) m.0 (in_place way (reading f d)) n.0 m.1 n.1) (agrees_both m.2 n.2)

    -- where order counts, two parts that are exchanged read the same only if they are alike
    pub order_counts : is_ordered way ≡ true → (m n : ℕ) → Alike f (joined way (more (one (part m)) (part n))) g (joined way (more (one (part n)) (part m))) → equal (f m) (g n)
    order_counts e m n h =
        let z = list_match h in
        let q = subst (λ b. MayBecome b (item (as_part (f m)) (item (as_part (f n)) none)) z.0) e z.1 in
        first (subst (λ u. Agrees u (item (as_part (g n)) (item (as_part (g m)) none))) (sym q) z.2)
      where
        first : {t u : D} {xs ys : Readings D} → Agrees (item (as_part t) xs) (item (as_part u) ys) → equal t u
        first (next (parts g) a) = g

  -- different forms

  pub part_not_joined : (t : D) (way : Way) (xs : Readings D) → Same (as_part t) (as_joined way xs) → ⊥
  part_not_joined t way xs h = elim h [ ]

  pub part_not_bridge : (t : D) (a b c d e : Reading D) → Same (as_part t) (as_bridge a b c d e) → ⊥
  part_not_bridge t a b c d e h = elim h [ ]

  pub joined_not_bridge : (way : Way) (xs : Readings D) (a b c d e : Reading D) → Same (as_joined way xs) (as_bridge a b c d e) → ⊥
  joined_not_bridge way xs a b c d e h = elim h [ ]

  pub series_not_parallel : (xs ys : Readings D) → Same (as_joined Series xs) (as_joined Parallel ys) → ⊥
  series_not_parallel xs ys h = elim h [ ]
