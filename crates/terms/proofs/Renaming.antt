-- Readings whose parts are told by a function of something else.
use Rattle.std.proofs.Common.{◌≡◌, ℕ, Bool, true, false, sym, refl, ap, ◌∙◌, subst, arith}
use Rattle.terms.specs.declared.term.Way.{Way}
use Rattle.terms.specs.declared.term.Way.TheVariants.{Series, Parallel}
use Rattle.terms.specs.Drawings.{Drawing, part, joined, bridge, Children, one, more}
use Rattle.terms.specs.Readings.{Reading, as_part, as_joined, as_bridge, Readings, none, item, and_then, in_place, reading, items, Rearranged, unmoved, swapped, further, and_again, MayBecome, SameReading, parts, lists, arms, Agree, ends, next}

module _ {A D : Type 0} (f : A → D) where
  abbrev mutual
    told : Reading A → Reading D
    told (as_part x) = as_part (f x)
    told (as_joined way xs) = as_joined way (all_told xs)
    told (as_bridge a b c d e) = as_bridge (told a) (told b) (told c) (told d) (told e)

    all_told : Readings A → Readings D
    all_told none = none
    all_told (item x xs) = item (told x) (all_told xs)

  told_then : (xs ys : Readings A) → all_told (and_then xs ys) ≡ and_then (all_told xs) (all_told ys)
  told_then none ys = refl
  told_then (item x xs) ys = ap (item (told x)) (told_then xs ys)

  told_in_place : (way : Way) (x : Reading A) → all_told (in_place way x) ≡ in_place way (told x)
  told_in_place way (as_part x) = refl
  told_in_place Series (as_joined Series xs) = refl
  told_in_place Series (as_joined Parallel xs) = refl
  told_in_place Parallel (as_joined Series xs) = refl
  told_in_place Parallel (as_joined Parallel xs) = refl
  told_in_place way (as_bridge a b c d e) = refl

  mutual
    told_reading : (by : ℕ → A) (d : Drawing) → told (reading by d) ≡ reading (λ n. f (by n)) d
    told_reading by (part n) = refl
    told_reading by (joined way ds) = ap (as_joined way) (told_items by way ds)
    told_reading by (bridge a b c d e) = λ i. as_bridge (told_reading by a i) (told_reading by b i) (told_reading by c i) (told_reading by d i) (told_reading by e i)

    told_items : (by : ℕ → A) (way : Way) (ds : Children) → all_told (items by way ds) ≡ items (λ n. f (by n)) way ds
    told_items by way (one d) = told_in_place way (reading by d) ∙ ap (in_place way) (told_reading by d)
    told_items by way (more ds d) =
        told_then (items by way ds) (in_place way (reading by d))
        ∙ (λ i. and_then (told_items by way ds i) ((told_in_place way (reading by d) ∙ ap (in_place way) (told_reading by d)) i))

  -- what a told list becomes is told too

  abbrev Before : Bool → Readings A → Readings D → Type 0
  Before b xs zs = (us : Readings A) × MayBecome b xs us × (zs ≡ all_told us)

  first_same : {x y : Reading D} {xs ys : Readings D} → item x xs ≡ item y ys → x ≡ y
  first_same e = cc

  rest_same : {x y : Reading D} {xs ys : Readings D} → item x xs ≡ item y ys → xs ≡ ys
  rest_same e = cc

  empty_not : {X : Type 0} {x : Reading D} {xs : Readings D} → item x xs ≡ none → X
  empty_not e = let z : ◌≡◌ {A = ℕ} 0 1 = cc in absurd (omega arith)

  before_swaps : {ws zs : Readings D} → Rearranged ws zs → (xs : Readings A) → ws ≡ all_told xs → Before false xs zs
  before_swaps unmoved xs e = (xs, unmoved, e)
  before_swaps swapped none e = empty_not e
  before_swaps swapped (item a none) e = empty_not (rest_same e)
  before_swaps swapped (item a (item b xs)) e =
      (item b (item a xs), swapped, λ i. item (first_same (rest_same e) i) (item (first_same e i) (rest_same (rest_same e) i)))
  before_swaps (further h) none e = empty_not e
  before_swaps (further h) (item a xs) e =
      let r = before_swaps h xs (rest_same e) in
      (item a r.0, further r.1, λ i. item (first_same e i) (r.2 i))
  before_swaps (and_again h g) xs e =
      let r = before_swaps h xs e in
      let s = before_swaps g r.0 r.2 in
      (s.0, and_again r.1 s.1, s.2)

  before : (b : Bool) (xs : Readings A) (zs : Readings D) → MayBecome b (all_told xs) zs → Before b xs zs
  before true xs zs e = (xs, refl, sym e)
  before false xs zs h = before_swaps h xs refl

  module _ (equal : D → D → Type 0) (is_ordered : Way → Bool) where
    abbrev Told : A → A → Type 0
    Told x y = equal (f x) (f y)

    abbrev Within : Readings D → Readings D → Type 0
    Within = Agree equal is_ordered

    abbrev Same : Reading D → Reading D → Type 0
    Same = SameReading equal is_ordered

    part_same : {x y : D} → Same (as_part x) (as_part y) → equal x y
    part_same (parts h) = h

    list_same : {v v' : Way} {xs ys : Readings D} → Same (as_joined v xs) (as_joined v' ys) → (zs : Readings D) × MayBecome (is_ordered v) xs zs × Within zs ys
    list_same (lists zs m a) = (zs, m, a)

    arms_same : {a b c d e a' b' c' d' e' : Reading D} → Same (as_bridge a b c d e) (as_bridge a' b' c' d' e') → Same a a' × Same b b' × Same c c' × Same d d' × Same e e'
    arms_same (arms a b c d e) = (a, b, c, d, e)

    items_same : {x y : Reading D} {xs ys : Readings D} → Within (item x xs) (item y ys) → Same x y × Within xs ys
    items_same (next h a) = (h, a)

    untold_list : (way : Way) (xs ys : Readings A) → Same (as_joined way (all_told xs)) (as_joined way (all_told ys)) → ((us : Readings A) → Within (all_told us) (all_told ys) → Agree Told is_ordered us ys) → SameReading Told is_ordered (as_joined way xs) (as_joined way ys)
    untold_list way xs ys h agrees =
        let s = list_same h in
        let b = before (is_ordered way) xs s.0 s.1 in
        lists b.0 b.1 (agrees b.0 (subst (λ z. Within z (all_told ys)) b.2 s.2))

    mutual
      untold : (y x : Reading A) → Same (told x) (told y) → SameReading Told is_ordered x y
      untold (as_part y) (as_part x) h = parts (part_same h)
      untold (as_part y) (as_joined way xs) h = elim h [ ]
      untold (as_part y) (as_bridge a b c d e) h = elim h [ ]
      untold (as_joined way ys) (as_part x) h = elim h [ ]
      untold (as_joined Series ys) (as_joined Series xs) h = untold_list Series xs ys h (all_untold ys)
      untold (as_joined Series ys) (as_joined Parallel xs) h = elim h [ ]
      untold (as_joined Parallel ys) (as_joined Series xs) h = elim h [ ]
      untold (as_joined Parallel ys) (as_joined Parallel xs) h = untold_list Parallel xs ys h (all_untold ys)
      untold (as_joined way ys) (as_bridge a b c d e) h = elim h [ ]
      untold (as_bridge a b c d e) (as_part x) h = elim h [ ]
      untold (as_bridge a b c d e) (as_joined way xs) h = elim h [ ]
      untold (as_bridge a b c d e) (as_bridge a' b' c' d' e') h =
          let s = arms_same h in
          arms (untold a a' s.0) (untold b b' s.1) (untold c c' s.2) (untold d d' s.3) (untold e e' s.4)

      all_untold : (ys xs : Readings A) → Within (all_told xs) (all_told ys) → Agree Told is_ordered xs ys
      all_untold none none h = ends
      all_untold none (item x xs) h = elim h [ ]
      all_untold (item y ys) none h = elim h [ ]
      all_untold (item y ys) (item x xs) h = let s = items_same h in next (untold y x s.0) (all_untold ys xs s.1)

    -- drawings whose parts are told read the same exactly where what is told of the parts does
    pub reads_by : (by by' : ℕ → A) (d e : Drawing) → Same (reading (λ n. f (by n)) d) (reading (λ n. f (by' n)) e) → SameReading Told is_ordered (reading by d) (reading by' e)
    reads_by by by' d e h = untold (reading by' e) (reading by d) (subst (λ z. Same z (told (reading by' e))) (sym (told_reading by d)) (subst (Same (reading (λ n. f (by n)) d)) (sym (told_reading by' e)) h))
