-- The parts of a drawing that is drawn from those of children, one after another.
use Rattle.std.proofs.Common.{◌≡◌, ◌≢◌, ◌⊎◌, ◌↔◌, ℕ, zero, suc, ◌≤◌, true, eqb, List, [], ◌∷◌, length, Contains, AllPairs, sym, refl, ap, ◌∙◌, subst, inl, inr, arith}
use Rattle.std.proofs.lemmas.Bool.{true≢false, eq-eqb, or_cases, or_left, or_right, false_from_ne_true}
use Rattle.terms.specs.declared.term.Way.{Way}
use Rattle.terms.specs.Drawings.{Drawing, joined, bridge, Children, one, more, PartList, only, and, followed_by, has, NoneTwice, all_parts, all_parts_of, Beneath, NoPartTwice}
use Rattle.diagram.specs.declared.limits.TheConstants.{FEWEST_CHILDREN, ARMS}
use Rattle.diagram.specs.declared.node.Form.{Form}
use Rattle.diagram.specs.declared.node.Form.TheVariants.{Part, Joined, Bridge}
use Rattle.diagram.specs.Histories.{followed_by_all}
use Rattle.diagram.proofs.Drawn.{drawn_form}

-- one list of parts followed by another

has_either : (n : ℕ) (ns ms : PartList) → has n (followed_by ns ms) ≡ true → (has n ns ≡ true) ⊎ (has n ms ≡ true)
has_either n (only m) ms h = or_cases (eqb n m) (has n ms) h
has_either n (and m ns) ms h = elim (or_cases (eqb n m) (has n (followed_by ns ms)) h) [
  | inl e ↦ inl (or_left (eqb n m) (has n ns) e)
  | inr e ↦ elim (has_either n ns ms e) [ inl f ↦ inl (or_right (eqb n m) (has n ns) f) | inr f ↦ inr f ]
]

has_first : (n : ℕ) (ns ms : PartList) → has n ns ≡ true → has n (followed_by ns ms) ≡ true
has_first n (only m) ms h = or_left (eqb n m) (has n ms) h
has_first n (and m ns) ms h = elim (or_cases (eqb n m) (has n ns) h) [
  | inl e ↦ or_left (eqb n m) (has n (followed_by ns ms)) e
  | inr e ↦ or_right (eqb n m) (has n (followed_by ns ms)) (has_first n ns ms e)
]

has_second : (n : ℕ) (ns ms : PartList) → has n ms ≡ true → has n (followed_by ns ms) ≡ true
has_second n (only m) ms h = or_right (eqb n m) (has n ms) h
has_second n (and m ns) ms h = or_right (eqb n m) (has n (followed_by ns ms)) (has_second n ns ms h)

-- two lists that share no part, in each of which none is listed twice
none_twice_followed : (ns ms : PartList) → NoneTwice ns → NoneTwice ms → ((n : ℕ) → has n ns ≡ true → ¬ (has n ms ≡ true)) → NoneTwice (followed_by ns ms)
none_twice_followed (only n) ms h g apart = (false_from_ne_true (has n ms) (apart n (eq-eqb n n refl)), g)
none_twice_followed (and n ns) ms h g apart =
    let own : has n (followed_by ns ms) ≡ true → ⊥ = λ e. elim (has_either n ns ms e) [
      | inl f ↦ true≢false (sym f ∙ h.0)
      | inr f ↦ apart n (or_left (eqb n n) (has n ns) (eq-eqb n n refl)) f
    ] in
    (false_from_ne_true (has n (followed_by ns ms)) own, none_twice_followed ns ms h.1 g (λ m e. apart m (or_right (eqb m n) (has m ns) e)))

-- the first of some elements and the others

first_of_all : {X : Type 0} (x : X) (xs : List X) → Contains (x ∷ xs) x
first_of_all x xs = (0, omega arith, refl)

one_of_others : {X : Type 0} (x y : X) (xs : List X) → Contains xs y → Contains (x ∷ xs) y
one_of_others x y xs (i, l, e) = (suc i, omega (arith, l), e)

first_or_other : {X : Type 0} (x y : X) (xs : List X) → Contains (x ∷ xs) y → (x ≡ y) ⊎ Contains xs y
first_or_other x y xs (zero, l, e) = inl e
first_or_other x y xs (suc i, l, e) = inr (i, omega (arith, l), e)

apart_from_others : {X : Type 0} (x y : X) (xs : List X) → AllPairs ◌≢◌ (x ∷ xs) → Contains xs y → x ≢ y
apart_from_others x y xs h (i, l, e) = subst (λ z. x ≢ z) e (h 0 (suc i) y (omega arith) (omega (arith, l)))

others_apart : {X : Type 0} (x : X) (xs : List X) → AllPairs ◌≢◌ (x ∷ xs) → AllPairs ◌≢◌ xs
others_apart x xs h i j d l m = h (suc i) (suc j) d (omega (arith, l)) (omega (arith, m))

-- the parts of children that are drawn one after another, behind others

module _ (drawing : ℕ → Drawing) where
  in_some_child : (ds : Children) (cs : List ℕ) (n : ℕ) → has n (all_parts_of (followed_by_all ds drawing cs)) ≡ true → (has n (all_parts_of ds) ≡ true) ⊎ ((c : ℕ) × Contains cs c × Beneath n (drawing c))
  in_some_child ds [] n h = inl h
  in_some_child ds (c ∷ cs) n h = elim (in_some_child (more ds (drawing c)) cs n h) [
    | inl e ↦ elim (has_either n (all_parts_of ds) (all_parts (drawing c)) e) [ inl f ↦ inl f | inr f ↦ inr (c, first_of_all c cs, f) ]
    | inr r ↦ inr (r.0, one_of_others c r.0 cs r.1, r.2)
  ]

  from_before : (ds : Children) (cs : List ℕ) (n : ℕ) → has n (all_parts_of ds) ≡ true → has n (all_parts_of (followed_by_all ds drawing cs)) ≡ true
  from_before ds [] n h = h
  from_before ds (c ∷ cs) n h = from_before (more ds (drawing c)) cs n (has_first n (all_parts_of ds) (all_parts (drawing c)) h)

  from_child : (ds : Children) (cs : List ℕ) (n c : ℕ) → Contains cs c → Beneath n (drawing c) → has n (all_parts_of (followed_by_all ds drawing cs)) ≡ true
  from_child ds [] n c i b = absurd (omega (arith, i.1))
  from_child ds (x ∷ cs) n c i b = elim (first_or_other x c cs i) [
    | inl e ↦ from_before (more ds (drawing x)) cs n (has_second n (all_parts_of ds) (all_parts (drawing x)) (subst (λ z. Beneath n (drawing z)) (sym e) b))
    | inr o ↦ from_child (more ds (drawing x)) cs n c o b
  ]

  none_twice_in_all : (ds : Children) (cs : List ℕ) → NoneTwice (all_parts_of ds) → ((c : ℕ) → Contains cs c → NoPartTwice (drawing c)) → AllPairs ◌≢◌ cs →
      ((n c : ℕ) → Contains cs c → has n (all_parts_of ds) ≡ true → ¬ Beneath n (drawing c)) →
      ((n c d : ℕ) → Contains cs c → Contains cs d → Beneath n (drawing c) → Beneath n (drawing d) → c ≡ d) → NoneTwice (all_parts_of (followed_by_all ds drawing cs))
  none_twice_in_all ds [] h once different apart same = h
  none_twice_in_all ds (c ∷ cs) h once different apart same =
      none_twice_in_all (more ds (drawing c)) cs
      (none_twice_followed (all_parts_of ds) (all_parts (drawing c)) h (once c (first_of_all c cs)) (λ n e. apart n c (first_of_all c cs) e))
      (λ d i. once d (one_of_others c d cs i))
      (others_apart c cs different)
      (λ n d i e b. elim (has_either n (all_parts_of ds) (all_parts (drawing c)) e) [
        | inl f ↦ apart n d (one_of_others c d cs i) f b
        | inr f ↦ apart_from_others c d cs different i (same n c d (first_of_all c cs) (one_of_others c d cs i) f b)
      ])
      (λ n d e i j. same n d e (one_of_others c d cs i) (one_of_others c e cs j))

  -- in all the children together stands what stands in one of them
  pub beneath_all : (c : ℕ) (cs : List ℕ) (n : ℕ) → (has n (all_parts_of (followed_by_all (one (drawing c)) drawing cs)) ≡ true) ↔ ((d : ℕ) × Contains (c ∷ cs) d × Beneath n (drawing d))
  beneath_all c cs n = (
    (λ h. elim (in_some_child (one (drawing c)) cs n h) [ inl e ↦ (c, first_of_all c cs, e) | inr r ↦ (r.0, one_of_others c r.0 cs r.1, r.2) ]),
    (λ r. elim (first_or_other c r.0 cs r.1) [
      | inl e ↦ from_before (one (drawing c)) cs n (subst (λ z. Beneath n (drawing z)) (sym e) r.2)
      | inr i ↦ from_child (one (drawing c)) cs n r.0 i r.2
    ]),
  )

  -- children that are apart, none of which has a part twice, and of which no two have one part, have none twice together
  pub none_twice_all : (c : ℕ) (cs : List ℕ) → ((d : ℕ) → Contains (c ∷ cs) d → NoPartTwice (drawing d)) → AllPairs ◌≢◌ (c ∷ cs) →
      ((n d e : ℕ) → Contains (c ∷ cs) d → Contains (c ∷ cs) e → Beneath n (drawing d) → Beneath n (drawing e) → d ≡ e) → NoneTwice (all_parts_of (followed_by_all (one (drawing c)) drawing cs))
  none_twice_all c cs once different same =
      none_twice_in_all (one (drawing c)) cs
      (once c (first_of_all c cs))
      (λ d i. once d (one_of_others c d cs i))
      (others_apart c cs different)
      (λ n d i b b'. apart_from_others c d cs different i (same n c d (first_of_all c cs) (one_of_others c d cs i) b b'))
      (λ n d e i j. same n d e (one_of_others c d cs i) (one_of_others c e cs j))

  -- a drawing that is joined or a bridge has the places of its children, one after another
  pub drawn_places : (form : Form) (k : ℕ) (xs : List ℕ) → form ≢ Part → ((way : Way) → form ≡ Joined way → FEWEST_CHILDREN ≤ length xs) → (form ≡ Bridge → length xs ≡ ARMS) →
      (c : ℕ) × (cs : List ℕ) × (xs ≡ c ∷ cs) × (all_parts (drawn_form form k xs drawing) ≡ all_parts_of (followed_by_all (one (drawing c)) drawing cs))
  drawn_places Part k xs other two five = absurd (other refl)
  drawn_places (Joined way) k [] other two five = absurd (omega (arith, two way refl))
  drawn_places (Joined way) k (c ∷ cs) other two five = (c, cs, refl, refl)
  drawn_places Bridge k [] other two five = absurd (omega (arith, five refl))
  drawn_places Bridge k (a ∷ []) other two five = absurd (omega (arith, five refl))
  drawn_places Bridge k (a ∷ b ∷ []) other two five = absurd (omega (arith, five refl))
  drawn_places Bridge k (a ∷ b ∷ c ∷ []) other two five = absurd (omega (arith, five refl))
  drawn_places Bridge k (a ∷ b ∷ c ∷ d ∷ []) other two five = absurd (omega (arith, five refl))
  drawn_places Bridge k (a ∷ b ∷ c ∷ d ∷ e ∷ []) other two five = (a, b ∷ c ∷ d ∷ e ∷ [], refl, refl)
  drawn_places Bridge k (a ∷ b ∷ c ∷ d ∷ e ∷ x ∷ xs) other two five = absurd (omega (arith, five refl))

-- children drawn the same, behind the same others
all_same : (f g : ℕ → Drawing) (cs : List ℕ) → ((c : ℕ) → Contains cs c → f c ≡ g c) → (ds : Children) → followed_by_all ds f cs ≡ followed_by_all ds g cs
all_same f g [] h ds = refl
all_same f g (c ∷ cs) h ds =
    ap (λ d. followed_by_all (more ds d) f cs) (h c (first_of_all c cs))
    ∙ all_same f g cs (λ d i. h d (one_of_others c d cs i)) (more ds (g c))

-- a drawing asks only of the drawings of the children
pub drawn_same : (f g : ℕ → Drawing) (form : Form) (k : ℕ) (cs : List ℕ) → ((c : ℕ) → Contains cs c → f c ≡ g c) → drawn_form form k cs f ≡ drawn_form form k cs g
drawn_same f g Part k cs h = refl
drawn_same f g (Joined way) k [] h = refl
drawn_same f g (Joined way) k (c ∷ cs) h =
    ap (λ d. joined way (followed_by_all (one d) f cs)) (h c (first_of_all c cs))
    ∙ ap (joined way) (all_same f g cs (λ d i. h d (one_of_others c d cs i)) (one (g c)))
drawn_same f g Bridge k [] h = refl
drawn_same f g Bridge k (a ∷ []) h = refl
drawn_same f g Bridge k (a ∷ b ∷ []) h = refl
drawn_same f g Bridge k (a ∷ b ∷ c ∷ []) h = refl
drawn_same f g Bridge k (a ∷ b ∷ c ∷ d ∷ []) h = refl
drawn_same f g Bridge k (a ∷ b ∷ c ∷ d ∷ e ∷ []) h =
    λ i. bridge (h a (0, omega arith, refl) i) (h b (1, omega arith, refl) i) (h c (2, omega arith, refl) i) (h d (3, omega arith, refl) i) (h e (4, omega arith, refl) i)
drawn_same f g Bridge k (a ∷ b ∷ c ∷ d ∷ e ∷ x ∷ xs) h = refl
