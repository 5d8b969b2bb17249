-- Picks over one list of parts followed by another.
use Rattle.std.proofs.Common.{◌≡◌, ℕ, Bool, true, false, ◌||◌, eqb, List, [], ◌∷◌, sym, refl, ap, ◌∙◌, subst, ⊎_elim}
use Rattle.std.proofs.lemmas.Bool.{eq-eqb, eqb-true, or_parts, or_left, or_right, or_cases, cond-true, cond-false, cond_both}
use Rattle.terms.specs.Combinations.{each}
use Rattle.terms.specs.Drawings.{PartList, only, and, followed_by, has, once, NoneTwice}
use Rattle.terms.specs.Enumeration.{but, picks}
use Rattle.terms.proofs.Each.{each_cong, each_each, each_through}

-- parts listed once

-- no part of the first list stands in the second
abbrev pub Apart : PartList → PartList → Type 0
Apart (only n) ms = has n ms ≡ false
Apart (and n ns) ms = (has n ms ≡ false) × Apart ns ms

has_followed : (n : ℕ) (ns ms : PartList) → has n (followed_by ns ms) ≡ false → (has n ns ≡ false) × (has n ms ≡ false)
has_followed n (only m) ms e = or_parts (eqb n m) (has n ms) e
has_followed n (and m ns) ms e =
    let s = or_parts (eqb n m) (has n (followed_by ns ms)) e in
    let r = has_followed n ns ms s.1 in
    (ap (λ b. b || has n ns) s.0 ∙ r.0, r.1)

pub apart_followed : (ns ms : PartList) → NoneTwice (followed_by ns ms) → NoneTwice ns × NoneTwice ms × Apart ns ms
apart_followed (only n) ms h = (tt, h.1, h.0)
apart_followed (and n ns) ms h =
    let s = has_followed n ns ms h.0 in
    let r = apart_followed ns ms h.1 in
    ((s.0, r.0), r.1, (s.1, r.2))

pub once_same : (ns : PartList) → NoneTwice ns → once ns ≡ ns
once_same (only n) h = refl
once_same (and n ns) h = cond-false (has n ns) (once ns) (and n (once ns)) h.0 ∙ ap (and n) (once_same ns h.1)

-- a part is listed once exactly where it is listed
pub has_once : (n : ℕ) (ns : PartList) → has n (once ns) ≡ has n ns
has_once n (only m) = refl
has_once n (and m ns) =
    cond_both (has m ns) (once ns) (and m (once ns)) (λ z. has n z ≡ (eqb n m || has n ns))
    (λ e. has_once n ns ∙ listed (eqb n m) refl e)
    (λ e. ap (λ b. eqb n m || b) (has_once n ns))
  where
    listed : (b : Bool) → eqb n m ≡ b → has m ns ≡ true → has n ns ≡ (b || has n ns)
    listed true t e = ap (λ k. has k ns) (eqb-true n m t) ∙ e
    listed false t e = refl

pub once_none_twice : (ns : PartList) → NoneTwice (once ns)
once_none_twice (only n) = tt
once_none_twice (and n ns) =
    cond_both (has n ns) (once ns) (and n (once ns)) NoneTwice
    (λ e. once_none_twice ns)
    (λ e. (has_once n ns ∙ e, once_none_twice ns))

module _ {S : Type 0} where
  -- two functions agree on the parts
  abbrev pub AgreeOn : PartList → (ℕ → S) → (ℕ → S) → Type 0
  AgreeOn (only n) f g = f n ≡ g n
  AgreeOn (and n ns) f g = (f n ≡ g n) × AgreeOn ns f g

  pub agree_from : (ns : PartList) (f g : ℕ → S) → ((n : ℕ) → has n ns ≡ true → f n ≡ g n) → AgreeOn ns f g
  agree_from (only n) f g h = h n (eq-eqb n n refl)
  agree_from (and n ns) f g h = (h n (or_left (eqb n n) (has n ns) (eq-eqb n n refl)), agree_from ns f g (λ m e. h m (or_right (eqb m n) (has m ns) e)))

  pub agree_at : (ns : PartList) (f g : ℕ → S) → AgreeOn ns f g → (n : ℕ) → has n ns ≡ true → f n ≡ g n
  agree_at (only m) f g a n e = subst (λ k. f k ≡ g k) (sym (eqb-true n m e)) a
  agree_at (and m ns) f g a n e = ⊎_elim (λ t. subst (λ k. f k ≡ g k) (sym (eqb-true n m t)) a.0) (λ t. agree_at ns f g a.1 n t) (or_cases (eqb n m) (has n ns) e)

  -- parts that are listed once say all
  pub agree_once : (ns : PartList) (f g : ℕ → S) → AgreeOn (once ns) f g → AgreeOn ns f g
  agree_once ns f g a = agree_from ns f g (λ n e. agree_at (once ns) f g a n (has_once n ns ∙ e))

  pub agree_trans : (ns : PartList) (f g h : ℕ → S) → AgreeOn ns f g → AgreeOn ns g h → AgreeOn ns f h
  agree_trans (only n) f g h a b = a ∙ b
  agree_trans (and n ns) f g h a b = (a.0 ∙ b.0, agree_trans ns f g h a.1 b.1)

  pub agree_followed : (ns ms : PartList) (f g : ℕ → S) → AgreeOn (followed_by ns ms) f g → AgreeOn ns f g × AgreeOn ms f g
  agree_followed (only n) ms f g h = (h.0, h.1)
  agree_followed (and n ns) ms f g h = let r = agree_followed ns ms f g h.1 in ((h.0, r.0), r.1)

  -- f on the parts, g elsewhere
  abbrev pub over : PartList → (ℕ → S) → (ℕ → S) → ℕ → S
  over (only n) f g = but n (f n) g
  over (and n ns) f g = but n (f n) (over ns f g)

  pub but_same : (n : ℕ) (s : S) (f : ℕ → S) → but n s f n ≡ s
  but_same n s f = cond-true (eqb n n) s (f n) (eq-eqb n n refl)

  but_absent : (n : ℕ) (ms : PartList) (s : S) (f : ℕ → S) → has n ms ≡ false → AgreeOn ms (but n s f) f
  but_absent n (only m) s f e = cond-false (eqb n m) s (f m) e
  but_absent n (and m ms) s f e = let r = or_parts (eqb n m) (has n ms) e in (cond-false (eqb n m) s (f m) r.0, but_absent n ms s f r.1)

  own : (n m : ℕ) (f h : ℕ → S) → h m ≡ f m → but n (f n) h m ≡ f m
  own n m f h a = cond_both (eqb n m) (f n) (h m) (λ z. z ≡ f m) (λ e. ap f (eqb-true n m e)) (λ e. a)

  pub but_own : (n : ℕ) (ms : PartList) (f h : ℕ → S) → AgreeOn ms h f → AgreeOn ms (but n (f n) h) f
  but_own n (only m) f h a = own n m f h a
  but_own n (and m ms) f h a = (own n m f h a.0, but_own n ms f h a.1)

  pub over_left : (ns : PartList) (f g : ℕ → S) → AgreeOn ns (over ns f g) f
  over_left (only n) f g = but_same n (f n) g
  over_left (and n ns) f g = (but_same n (f n) (over ns f g), but_own n ns f (over ns f g) (over_left ns f g))

  pub over_right : (ns ms : PartList) (f g : ℕ → S) → Apart ns ms → AgreeOn ms (over ns f g) g
  over_right (only n) ms f g h = but_absent n ms (f n) g h
  over_right (and n ns) ms f g h = agree_trans ms (but n (f n) (over ns f g)) (over ns f g) g (but_absent n ms (f n) (over ns f g) h.0) (over_right ns ms f g h.1)

  over_cong : (ns : PartList) (f f' g : ℕ → S) → AgreeOn ns f f' → over ns f g ≡ over ns f' g
  over_cong (only n) f f' g e = ap (λ s. but n s g) e
  over_cong (and n ns) f f' g e = ap (λ s. but n s (over ns f g)) e.0 ∙ ap (but n (f' n)) (over_cong ns f f' g e.1)

  -- a pick over both lists is one over the first together with one over the second
  pub picks_followed : {X : Type 0} (states : ℕ → List S) (ns ms : PartList) → NoneTwice ns → (to : (ℕ → S) → List X) → each (picks states (followed_by ns ms)) to ≡ each (picks states ns) (λ f. each (picks states ms) λ g. to (over ns f g))
  picks_followed states (only n) ms h to =
      each_each (states n) (λ s. each (picks states ms) λ g. but n s g ∷ []) to
      ∙ each_cong (states n) _ _ (λ s. each_through (picks states ms) (but n s) to)
      ∙ sym (each_through (states n) (λ s _. s) (λ f. each (picks states ms) λ g. to (but n (f n) g)))
  picks_followed states (and n ns) ms h to =
      each_each (states n) (λ s. each (picks states (followed_by ns ms)) λ f. but n s f ∷ []) to
      ∙ each_cong (states n) _ _ (λ s.
      each_through (picks states (followed_by ns ms)) (but n s) to
      ∙ picks_followed states ns ms h.1 (λ f. to (but n s f))
      ∙ each_cong (picks states ns) _ _ (λ f. each_cong (picks states ms) _ _ (λ g. ap to (sym (point s f g))))
      ∙ sym (each_through (picks states ns) (but n s) (λ f. each (picks states ms) λ g. to (over (and n ns) f g))))
      ∙ sym (each_each (states n) (λ s. each (picks states ns) λ f. but n s f ∷ []) (λ f. each (picks states ms) λ g. to (over (and n ns) f g)))
    where
      point : (s : S) (f g : ℕ → S) → over (and n ns) (but n s f) g ≡ but n s (over ns f g)
      point s f g = ap (λ z. but n z (over ns (but n s f) g)) (but_same n s f) ∙ ap (but n s) (over_cong ns (but n s f) f g (but_absent n ns s f h.0))
