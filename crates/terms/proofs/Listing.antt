-- The enumeration lists every combination, nothing else, and as many as there are ways to pick.
use Rattle.std.proofs.Common.{All, Contains, ◌≡◌, ℕ, zero, suc, ◌+◌, ◌*◌, ◌<◌, true, eqb, List, [], ◌∷◌, length, get_or, sym, refl, ap, ◌∙◌, subst, ⊎_elim, suc-mul, mul-one, arith}
use Rattle.std.proofs.lemmas.List.{length-append}
use Rattle.std.proofs.lemmas.List.Elements.{All-nil, All-cons, All-head, All-tail, All-append, All-weaker, All-contains_itself, Contains-append_left, Contains-append_right, Contains-push}
use Rattle.std.proofs.lemmas.Bool.{eq-eqb, eqb-true, eqb-false, or_cases, or_left, or_right, cond_both}
use Rattle.kinds.specs.declared.performance.Performance
use Rattle.kinds.specs.declared.weight.Weight
use Rattle.terms.specs.declared.term.Term.{Term}
use Rattle.terms.specs.Combinations.{each, term}
use Rattle.terms.specs.Drawings.{Drawing, PartList, only, and, has, all_parts, Beneath, parts_beneath}
use Rattle.terms.specs.Enumeration.{but, picks, combination}
use Rattle.terms.specs.EnumerationLaws.{ways_to_pick, EveryCombination, NothingElse, AsManyAsPicks}
use Rattle.terms.proofs.Picks.{AgreeOn, agree_once, has_once, but_same, but_own}
use Rattle.terms.proofs.Stepwise.{performance_asks, weight_asks}

-- items of `each`

has_at : {A B : Type 0} (xs : List A) (f : A → List B) (x : A) (y : B) (k : ℕ) → k < length xs → get_or xs k x ≡ x → Contains (f x) y → Contains (each xs f) y
has_at [] f x y k l e h = absurd (omega arith)
has_at (z ∷ zs) f x y zero l e h = Contains-append_left (f z) (each zs f) y (subst (λ t. Contains (f t) y) (sym e) h)
has_at (z ∷ zs) f x y (suc k) l e h = Contains-append_right (f z) (each zs f) y (has_at zs f x y k (omega arith) e h)

has_each : {A B : Type 0} (xs : List A) (f : A → List B) (x : A) (y : B) → Contains xs x → Contains (f x) y → Contains (each xs f) y
has_each xs f x y h g = has_at xs f x y h.0 h.1 h.2 g

all_each : {A B : Type 0} (Q : B → Type 0) (xs : List A) (f : A → List B) → All (λ x. All Q (f x)) xs → All Q (each xs f)
all_each Q [] f h = All-nil Q
all_each Q (x ∷ xs) f h =
    let first = All-head (λ x. All Q (f x)) x xs h in
    let rest = All-tail (λ x. All Q (f x)) x xs h in
    All-append Q (f x) (each xs f) first (all_each Q xs f rest)

all_one : {B : Type 0} (Q : B → Type 0) (y : B) → Q y → All Q (y ∷ [])
all_one Q y h = All-cons Q y [] h (All-nil Q)

length_each : {A B : Type 0} (xs : List A) (f : A → List B) (c : ℕ) → ((x : A) → length (f x) ≡ c) → length (each xs f) ≡ length xs * c
length_each [] f c h = omega arith
length_each (x ∷ xs) f c h =
    length-append (f x) (each xs f)
    ∙ ap (λ z. z + length (each xs f)) (h x)
    ∙ ap (λ z. c + z) (length_each xs f c h)
    ∙ (let e = suc-mul (length xs) c in omega arith)

module _ {S : Type 0} (states : ℕ → List S) where
  -- each of the parts is in one of its states
  abbrev From : PartList → (ℕ → S) → Type 0
  From ns f = (n : ℕ) → has n ns ≡ true → Contains (states n) (f n)

  moved : (m n : ℕ) (s : S) → m ≡ n → Contains (states m) s → Contains (states n) s
  moved m n s e h = subst (λ k. Contains (states k) s) e h

  picks_from : (ns : PartList) → All (From ns) (picks states ns)
  picks_from (only m) =
      all_each (From (only m)) (states m) (λ s. (λ _. s) ∷ [])
      (All-weaker (Contains (states m)) (λ s. All (From (only m)) ((λ _. s) ∷ []))
      (λ s h. all_one (From (only m)) (λ _. s) (λ n e. moved m n s (sym (eqb-true n m e)) h))
      (states m) (All-contains_itself (states m)))
  picks_from (and m ns) =
      all_each (From (and m ns)) (states m) (λ s. each (picks states ns) λ f. but m s f ∷ [])
      (All-weaker (Contains (states m)) (λ s. All (From (and m ns)) (each (picks states ns) λ f. but m s f ∷ []))
      (λ s h. all_each (From (and m ns)) (picks states ns) (λ f. but m s f ∷ [])
      (All-weaker (From ns) (λ f. All (From (and m ns)) (but m s f ∷ []))
      (λ f g. all_one (From (and m ns)) (but m s f) (more s f h g))
      (picks states ns) (picks_from ns)))
      (states m) (All-contains_itself (states m)))
    where
      more : (s : S) (f : ℕ → S) → Contains (states m) s → From ns f → From (and m ns) (but m s f)
      more s f h g n e =
          cond_both (eqb m n) s (f n) (Contains (states n))
          (λ t. moved m n s (eqb-true m n t) h)
          (λ t. ⊎_elim (λ u. absurd (eqb-false m n t (sym (eqb-true n m u)))) (λ u. g n u) (or_cases (eqb n m) (has n ns) e))

  picks_every : (ns : PartList) (f : ℕ → S) → From ns f → (g : ℕ → S) × Contains (picks states ns) g × AgreeOn ns g f
  picks_every (only m) f h = ((λ _. f m), has_each (states m) _ (f m) (λ _. f m) (h m (eq-eqb m m refl)) (Contains-push [] (λ _. f m)), refl)
  picks_every (and m ns) f h =
      let r = picks_every ns f (λ n e. h n (or_right (eqb n m) (has n ns) e)) in
      let g = but m (f m) r.0 in (
        g,
        has_each (states m) _ (f m) g (h m (or_left (eqb m m) (has m ns) (eq-eqb m m refl))) (has_each (picks states ns) _ r.0 g r.1 (Contains-push [] g)),
        (but_same m (f m) r.0, but_own m ns f r.0 r.2),
      )

  picks_count : (ns : PartList) → length (picks states ns) ≡ ways_to_pick states ns
  picks_count (only m) = length_each (states m) _ 1 (λ s. refl) ∙ mul-one (length (states m))
  picks_count (and m ns) =
      length_each (states m) _ (length (picks states ns)) (λ s. length_each (picks states ns) _ 1 (λ f. refl) ∙ mul-one (length (picks states ns)))
      ∙ ap (λ z. length (states m) * z) (picks_count ns)

module _ {P W : Type 0} (kind : Performance.Ghosts P) (weights : Weight.Ghosts W) where
  -- a combination asks only of the parts beneath
  combination_asks : (d : Drawing) (f g : ℕ → Term P W) → AgreeOn (parts_beneath d) f g → combination kind weights d f ≡ combination kind weights d g
  combination_asks d f g a =
      let p = performance_asks kind weights d f g (agree_once (all_parts d) f g a) in
      let v = weight_asks kind weights (parts_beneath d) f g a in
      λ i. term (p i) (v i)

  pub every_combination : EveryCombination kind weights
  every_combination states d pick h =
      let r = picks_every states (parts_beneath d) pick (λ n e. h n (sym (has_once n (all_parts d)) ∙ e)) in
      subst (Contains _) (combination_asks d r.0 pick r.2) (has_each (picks states (parts_beneath d)) _ r.0 _ r.1 (Contains-push [] (combination kind weights d r.0)))

  pub nothing_else : NothingElse kind weights
  nothing_else states d =
      let ns = parts_beneath d in
      let Q : Term P W → Type 0 = λ t. (pick : ℕ → Term P W) × ((n : ℕ) → Beneath n d → Contains (states n) (pick n)) × (t ≡ combination kind weights d pick) in
      all_each Q (picks states ns) (λ f. combination kind weights d f ∷ [])
      (All-weaker (From states ns) (λ f. All Q (combination kind weights d f ∷ []))
      (λ f g. all_one Q (combination kind weights d f) (f, (λ n e. g n (has_once n (all_parts d) ∙ e)), refl))
      (picks states ns) (picks_from states ns))

  pub as_many : AsManyAsPicks kind weights
  as_many states d = length_each (picks states (parts_beneath d)) _ 1 (λ f. refl) ∙ mul-one (length (picks states (parts_beneath d))) ∙ picks_count states (parts_beneath d)
