-- In the drawing of a node stand exactly the parts at and below it, each once.
use Rattle.std.proofs.Common.{◌≡◌, ◌≢◌, ◌⊎◌, ◌↔◌, ℕ, zero, suc, ◌<◌, true, List, ◌∷◌, Contains, AllPairs, Option, Some, unwrap_or, sym, refl, ap, ◌∙◌, subst, inl, inr, arith}
use Rattle.std.proofs.lemmas.Bool.{true≢false, eq-eqb, eqb-true}
use Rattle.terms.specs.Drawings.{Drawing, part, one, has, NoneTwice, all_parts, all_parts_of, Beneath, NoPartTwice}
use Rattle.diagram.specs.declared.node.Form.{Form}
use Rattle.diagram.specs.declared.node.Form.TheVariants.{Part, Joined, Bridge}
use Rattle.diagram.specs.declared.table.Table.{Table}
use Rattle.diagram.specs.Records.{Sound, Uses, form_at, children_at, NodeBeneath as Below, child, deeper}
use Rattle.diagram.specs.Histories.{followed_by_all}
use Rattle.diagram.proofs.FoundByTest.{test_finds}
use Rattle.diagram.proofs.Climbing.{Above, user, higher, above_then, child_is_below, beneath_from_above}
use Rattle.diagram.proofs.Drawn.{drawn_form, Drawn}
use Rattle.diagram.proofs.PartsOfChildren.{beneath_all, none_twice_all, drawn_places}
use Rattle.diagram.proofs.Facts.{is_part}

-- part n is k itself or below it
abbrev pub Within : Table → ℕ → ℕ → Type 0
Within t n k = (n ≡ k) ⊎ Above t n k

pub part_or_not : (form : Form) → (form ≡ Part) ⊎ (form ≢ Part)
part_or_not Part = inl refl
part_or_not (Joined way) = inr (λ e. true≢false (ap is_part (sym e)))
part_or_not Bridge = inr (λ e. true≢false (ap is_part (sym e)))

same_user : {o : Option ℕ} {u v : ℕ} → o ≡ Some u → o ≡ Some v → u ≡ v
same_user {u = u} e f = ap (λ o. unwrap_or o u) (sym e ∙ f)

-- of two nodes above one node, one is above the other
one_chain : {t : Table} {n c d : ℕ} → Above t n c → Above t n d → (c ≡ d) ⊎ (Above t c d ⊎ Above t d c)
one_chain (user e) (user f) = inl (same_user e f)
one_chain {t} {d = d} (user e) (higher f b) = inr (inl (subst (λ z. Above t z d) (same_user f e) b))
one_chain {t} {c = c} (higher e a) (user f) = inr (inr (subst (λ z. Above t z c) (same_user e f) a))
one_chain {t} {d = d} (higher e a) (higher f b) = one_chain a (subst (λ z. Above t z d) (same_user f e) b)

module _ {t : Table} (s : Sound t) where
  pub above_is_higher : {k j : ℕ} → k < t.count → Above t k j → k < j
  above_is_higher {k} h (user {u = u} e) = ((s.at k h).user_above u e).0
  above_is_higher {k} {j} h (higher {u = u} e a) =
      let next = (s.at k h).user_above u e in
      omega (arith, next.0, above_is_higher next.1 a)

  uses : {k c : ℕ} → k < t.count → Contains (children_at t k) c → Uses t c k
  uses {k} {c} h i = (s.at k h).children_used c (test_finds c (children_at t k) i)

  has_children : {k c : ℕ} → k < t.count → Contains (children_at t k) c → form_at t k ≢ Part
  has_children {k} h i p = absurd (omega (arith, i.1, (s.at k h).own.part_is_alone p))

  -- what is within a child is within the node, but is not the node
  pub within_child : {k c n : ℕ} → k < t.count → Contains (children_at t k) c → Within t n c → Above t n k
  within_child {k} h i (inl e) = subst (λ z. Above t z k) (sym e) (user (uses h i))
  within_child h i (inr a) = above_then a (uses h i)

  -- of two children of one node, none is above the other
  not_above_another : {k c d : ℕ} → k < t.count → Contains (children_at t k) c → Contains (children_at t k) d → ¬ Above t c d
  not_above_another h i j (user e) = absurd (omega (arith, same_user (uses h i) e, child_is_below s h j))
  not_above_another {k} {c} {d} h i j (higher {u = u} e a) =
      absurd (omega (arith, child_is_below s h j, above_is_higher h (subst (λ z. Above t z d) (same_user e (uses h i)) a)))

  -- nothing is within two children of one node
  pub within_one_child : {k c d n : ℕ} → k < t.count → Contains (children_at t k) c → Contains (children_at t k) d → Within t n c → Within t n d → c ≡ d
  within_one_child h i j (inl e) (inl f) = sym e ∙ f
  within_one_child {d = d} h i j (inl e) (inr b) = absurd (not_above_another h i j (subst (λ z. Above t z d) e b))
  within_one_child {c = c} h i j (inr a) (inl f) = absurd (not_above_another h j i (subst (λ z. Above t z c) f a))
  within_one_child h i j (inr a) (inr b) = elim (one_chain a b) [
    | inl e ↦ e
    | inr o ↦ elim o [ inl x ↦ absurd (not_above_another h i j x) | inr x ↦ absurd (not_above_another h j i x) ]
  ]

  module _ {drawing : ℕ → Drawing} (drawn : Drawn t drawing) where
    -- a part is drawn by its number
    pub part_drawn : (k : ℕ) → k < t.count → form_at t k ≡ Part → drawing k ≡ part k
    part_drawn k h p = drawn k h ∙ ap (λ form. drawn_form form k (children_at t k) drawing) p

    itself : (k : ℕ) → k < t.count → form_at t k ≡ Part → Beneath k (drawing k)
    itself k h p = subst (λ d. Beneath k d) (sym (part_drawn k h p)) (eq-eqb k k refl)

    only_itself : (k n : ℕ) → k < t.count → form_at t k ≡ Part → Beneath n (drawing k) → n ≡ k
    only_itself k n h p b = eqb-true n k (subst (λ d. Beneath n d) (part_drawn k h p) b)

    -- a node that is no part has the places of its children, one after another
    children_places : (k : ℕ) → k < t.count → form_at t k ≢ Part →
        (c : ℕ) × (cs : List ℕ) × (children_at t k ≡ c ∷ cs) × (all_parts (drawing k) ≡ all_parts_of (followed_by_all (one (drawing c)) drawing cs))
    children_places k h other =
        let own = (s.at k h).own in
        let r = drawn_places drawing (form_at t k) k (children_at t k) other own.joins_two_or_more own.bridges_five in
        (r.0, r.1, r.2, ap all_parts (drawn k h) ∙ r.3)

    -- in its drawing stands what stands in that of a child
    pub beneath_children : (k n : ℕ) → k < t.count → form_at t k ≢ Part → Beneath n (drawing k) ↔ ((c : ℕ) × Contains (children_at t k) c × Beneath n (drawing c))
    beneath_children k n h other =
        let r = children_places k h other in
        let all = beneath_all drawing r.0 r.1 n in (
          (λ b. let d = all.0 (subst (λ ns. has n ns ≡ true) r.3 b) in (d.0, subst (λ xs. Contains xs d.0) (sym r.2) d.1, d.2)),
          (λ d. subst (λ ns. has n ns ≡ true) (sym r.3) (all.1 (d.0, subst (λ xs. Contains xs d.0) r.2 d.1, d.2))),
        )

    beneath_below : {k n : ℕ} → k < t.count → n < t.count → form_at t n ≡ Part → Below (children_at t) k n → Beneath n (drawing k)
    beneath_below {k} {n} h low p (child i) = (beneath_children k n h (has_children h i)).1 (n, i, itself n low p)
    beneath_below {k} {n} h low p (deeper {c = c} i b) =
        (beneath_children k n h (has_children h i)).1 (c, i, beneath_below (omega (arith, child_is_below s h i, h)) low p b)

    -- a part within a node stands in its drawing
    pub within_beneath : (k n : ℕ) → k < t.count → n < t.count → form_at t n ≡ Part → Within t n k → Beneath n (drawing k)
    within_beneath k n h low p (inl e) = subst (λ z. Beneath n (drawing z)) e (itself n low p)
    within_beneath k n h low p (inr a) = beneath_below h low p (beneath_from_above s low a)

    beneath_within_up_to : (bound k n : ℕ) → k < bound → k < t.count → Beneath n (drawing k) → (n < t.count) × (form_at t n ≡ Part) × Within t n k
    beneath_within_up_to zero k n l h b = absurd (omega (arith, l))
    beneath_within_up_to (suc bound) k n l h b = elim (part_or_not (form_at t k)) [
      | inl p ↦
          let e = only_itself k n h p b in
          (omega (arith, e, h), subst (λ z. form_at t z ≡ Part) (sym e) p, inl e)
      | inr other ↦
          let r = (beneath_children k n h other).0 b in
          let low = child_is_below s h r.1 in
          let w = beneath_within_up_to bound r.0 n (omega (arith, low, l)) (omega (arith, low, h)) r.2 in
          (w.0, w.1, inr (within_child h r.1 w.2))
    ]

    -- what stands in the drawing of a node is a part, and within the node
    pub beneath_within : (k n : ℕ) → k < t.count → Beneath n (drawing k) → (n < t.count) × (form_at t n ≡ Part) × Within t n k
    beneath_within k n h b = beneath_within_up_to (suc k) k n (omega arith) h b

    none_twice_up_to : (bound k : ℕ) → k < bound → k < t.count → NoPartTwice (drawing k)
    none_twice_up_to zero k l h = absurd (omega (arith, l))
    none_twice_up_to (suc bound) k l h = elim (part_or_not (form_at t k)) [
      | inl p ↦ subst (λ d. NoPartTwice d) (sym (part_drawn k h p)) tt
      | inr other ↦
          let r = children_places k h other in
          let is_child : (c : ℕ) → Contains (r.0 ∷ r.1) c → Contains (children_at t k) c = λ c i. subst (λ xs. Contains xs c) (sym r.2) i in
          let is_node : (c : ℕ) → Contains (r.0 ∷ r.1) c → c < t.count = λ c i. omega (arith, child_is_below s h (is_child c i), h) in
          subst NoneTwice (sym r.3) (none_twice_all drawing r.0 r.1
          (λ c i. none_twice_up_to bound c (omega (arith, child_is_below s h (is_child c i), l)) (is_node c i))
          (subst (AllPairs ◌≢◌) r.2 (s.at k h).own.children_apart)
          (λ n c d i j b b'. within_one_child h (is_child c i) (is_child d j) (beneath_within c n (is_node c i) b).2 (beneath_within d n (is_node d j) b').2))
    ]

    -- no part stands twice in the drawing of a node
    pub none_twice : (k : ℕ) → k < t.count → NoPartTwice (drawing k)
    none_twice k h = none_twice_up_to (suc k) k (omega arith) h
