-- Being the same reading is reflexive, symmetric and transitive.
use Rattle.std.proofs.Common.{Bool, true, false, sym, refl, ◌∙◌, subst}
use Rattle.kinds.specs.declared.performance.Performance
use Rattle.kinds.specs.declared.weight.Weight
use Rattle.terms.specs.declared.term.Way.{Way}
use Rattle.terms.specs.Readings.{Reading, as_part, as_joined, as_bridge, Readings, none, item, Rearranged, unmoved, swapped, further, and_again, MayBecome, SameReading, parts, lists, arms, Agree, ends, next, EqualDistributions}

module _ {D : Type 0} where
  back : {xs ys : Readings D} → Rearranged xs ys → Rearranged ys xs
  back unmoved = unmoved
  back swapped = swapped
  back (further h) = further (back h)
  back (and_again h i) = and_again (back i) (back h)

  pub may_stay : (b : Bool) (xs : Readings D) → MayBecome b xs xs
  may_stay true xs = refl
  may_stay false xs = unmoved

  may_back : (b : Bool) (xs ys : Readings D) → MayBecome b xs ys → MayBecome b ys xs
  may_back true xs ys e = sym e
  may_back false xs ys h = back h

  may_again : (b : Bool) (xs ys zs : Readings D) → MayBecome b xs ys → MayBecome b ys zs → MayBecome b xs zs
  may_again true xs ys zs e f = e ∙ f
  may_again false xs ys zs h i = and_again h i

-- being equal as parts is reflexive, symmetric and transitive
pub record Equality {D : Type 0} (equal : D → D → Type 0) : Type 0 where
  pub itself : (x : D) → equal x x
  pub flip : (x y : D) → equal x y → equal y x
  pub trans : (x y z : D) → equal x y → equal y z → equal x z

module _ {D : Type 0} {equal : D → D → Type 0} (equality : Equality equal) (is_ordered : Way → Bool) where
  abbrev R : Type 0
  R = Reading D

  abbrev Rs : Type 0
  Rs = Readings D

  abbrev Same : R → R → Type 0
  Same = SameReading equal is_ordered

  abbrev Agrees : Rs → Rs → Type 0
  Agrees = Agree equal is_ordered

  mutual
    pub same_itself : (x : R) → Same x x
    same_itself (as_part ts) = parts (equality.itself ts)
    same_itself (as_joined way xs) = lists xs (may_stay (is_ordered way) xs) (agrees_itself xs)
    same_itself (as_bridge a b c d e) = arms (same_itself a) (same_itself b) (same_itself c) (same_itself d) (same_itself e)

    pub agrees_itself : (xs : Rs) → Agrees xs xs
    agrees_itself none = ends
    agrees_itself (item x xs) = next (same_itself x) (agrees_itself xs)

  -- what agrees with a list can be rearranged as the list is
  abbrev Follows : Bool → Rs → Rs → Type 0
  Follows b ys xs = (us : Rs) × MayBecome b ys us × Agrees us xs

  follow_swaps : {zs xs : Rs} → Rearranged zs xs → (ys : Rs) → Agrees ys zs → Follows false ys xs
  follow_swaps unmoved ys a = (ys, unmoved, a)
  follow_swaps swapped ys (next {x = p} h (next {x = q} {xs = us} i t)) = (item q (item p us), swapped, next i (next h t))
  follow_swaps (further r) ys (next {x = p} {xs = us} h t) =
      let f = follow_swaps r us t in
      (item p f.0, further f.1, next h f.2)
  follow_swaps (and_again r s) ys a =
      let f = follow_swaps r ys a in
      let g = follow_swaps s f.0 f.2 in
      (g.0, and_again f.1 g.1, g.2)

  pub follow : (b : Bool) (ys zs xs : Rs) → MayBecome b zs xs → Agrees ys zs → Follows b ys xs
  follow true ys zs xs e a = (ys, refl, subst (Agrees ys) e a)
  follow false ys zs xs r a = follow_swaps r ys a

  mutual
    pub same_flip : {x y : R} → Same x y → Same y x
    same_flip (parts {x = x} {y = y} h) = parts (equality.flip x y h)
    same_flip (lists {way = way} {xs = xs} {ys = ys} zs m a) =
        let f = follow (is_ordered way) ys zs xs (may_back (is_ordered way) xs zs m) (agrees_flip a) in
        lists f.0 f.1 f.2
    same_flip (arms a b c d e) = arms (same_flip a) (same_flip b) (same_flip c) (same_flip d) (same_flip e)

    agrees_flip : {xs ys : Rs} → Agrees xs ys → Agrees ys xs
    agrees_flip ends = ends
    agrees_flip (next h a) = next (same_flip h) (agrees_flip a)

  -- two steps that meet at y make one
  abbrev Through : R → Type 0
  Through y = (x z : R) → Same x y → Same y z → Same x z

  abbrev ThroughAll : Rs → Type 0
  ThroughAll none = Unit {0}
  ThroughAll (item y ys) = Through y × ThroughAll ys

  through_swaps : {xs ys : Rs} → Rearranged xs ys → ThroughAll xs → ThroughAll ys
  through_swaps unmoved t = t
  through_swaps swapped t = (t.1.0, (t.0, t.1.1))
  through_swaps (further h) t = (t.0, through_swaps h t.1)
  through_swaps (and_again h i) t = through_swaps i (through_swaps h t)

  through_may : (b : Bool) (xs ys : Rs) → MayBecome b xs ys → ThroughAll xs → ThroughAll ys
  through_may true xs ys e t = subst ThroughAll e t
  through_may false xs ys h t = through_swaps h t

  agrees_through : {xs ys zs : Rs} → ThroughAll ys → Agrees xs ys → Agrees ys zs → Agrees xs zs
  agrees_through t ends ends = ends
  agrees_through t (next h a) (next i b) = next (t.0 _ _ h i) (agrees_through t.1 a b)

  mutual
    through : (y : R) → Through y
    through (as_part y) s t (parts {x = x} h) (parts {y = z} i) = parts (equality.trans x y z h i)
    through (as_joined way ys) x z (lists {xs = xs} zs m a) (lists {ys = vs} us n b) =
        let f = follow (is_ordered way) zs ys us n a in
        lists f.0 (may_again (is_ordered way) xs zs f.0 m f.1) (agrees_through (through_may (is_ordered way) ys us n (through_all ys)) f.2 b)
    through (as_bridge a b c d e) x z (arms ha hb hc hd he) (arms ia ib ic id ie) = arms (through a _ _ ha ia) (through b _ _ hb ib) (through c _ _ hc ic) (through d _ _ hd id) (through e _ _ he ie)

    through_all : (ys : Rs) → ThroughAll ys
    through_all none = tt
    through_all (item y ys) = (through y, through_all ys)

  pub same_trans : (x y z : R) → Same x y → Same y z → Same x z
  same_trans x y z = through y x z

pub equal_distributions : {P W : Type 0} (kind : Performance.Ghosts P) (weights : Weight.Ghosts W) → Equality (EqualDistributions kind weights)
equal_distributions kind weights = record {
  itself = λ f p. refl;
  flip = λ f g e p. sym (e p);
  trans = λ f g h d e p. d p ∙ e p;
}
