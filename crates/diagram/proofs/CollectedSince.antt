-- What one more entry changes in whether a node is collected since.
use Rattle.std.proofs.Common.{◌≡◌, ◌⊎◌, ℕ, zero, suc, List, [], ◌∷◌, ◌++◌, get_or, drop, Contains, Some, sym, ◌∙◌, ap, refl, subst, inl, inr, arith}
use Rattle.terms.specs.declared.term.Term.{Term}
use Rattle.terms.specs.Drawings.{Beneath}
use Rattle.diagram.specs.Histories.{Entry, History, restates, collects, drawing_of, CollectedSince}

pub contains_cons : {X : Type 0} {x y : X} (xs : List X) → Contains (x ∷ xs) y → (x ≡ y) ⊎ Contains xs y
contains_cons xs (zero, h, e) = inl e
contains_cons xs (suc i, h, e) = inr (i, omega (arith, h), e)

-- the entry restates no part beneath k
abbrev pub Spared : {P W : Type 0} → Entry P W → History P W → ℕ → Type 0
Spared {P} {W} e h k = (p : ℕ) (states : List (Term P W)) → restates e ≡ Some (p, states) → ¬ Beneath p (drawing_of h k)

contains_here : {X : Type 0} (xs ys : List X) (x : X) → Contains (xs ++ x ∷ ys) x
contains_here [] ys x = (zero, omega arith, refl)
contains_here (y ∷ xs) ys x = let i = contains_here xs ys x in (suc i.0, omega (arith, i.1), i.2)

-- an entry of the history collects the node
pub collecting_in : {P W : Type 0} (h : History P W) (k : ℕ) → CollectedSince h k → (e : Entry P W) × Contains h e × (collects e ≡ Some k)
collecting_in h k c = (c.collecting, subst (λ z. Contains z c.collecting) (sym c.in_order) (contains_here c.newer c.older c.collecting), c.collected)

module _ {P W : Type 0} (e : Entry P W) (h : History P W) (k : ℕ) where
  pub since_now : collects e ≡ Some k → CollectedSince (e ∷ h) k
  since_now c = record { newer = []; collecting = e; older = h; in_order = refl; collected = c; none_since = λ x p states i r. absurd (omega (arith, i.1)) }

  module _ (drawn_same : drawing_of (e ∷ h) k ≡ drawing_of h k) where
    pub since_kept : Spared e h k → CollectedSince h k → CollectedSince (e ∷ h) k
    since_kept spared c = record {
      newer = e ∷ c.newer;
      collecting = c.collecting;
      older = c.older;
      in_order = ap (λ z. e ∷ z) c.in_order;
      collected = c.collected;
      none_since = λ x p states i r b.
          let was = subst (Beneath p) drawn_same b in
          elim (contains_cons c.newer i) [
            | inl q ↦ spared p states (ap restates q ∙ r) was
            | inr j ↦ c.none_since x p states j r was
          ];
    }

    pub since_split : CollectedSince (e ∷ h) k → (collects e ≡ Some k) ⊎ (CollectedSince h k × Spared e h k)
    since_split c = split c.newer c.in_order c.none_since
      where
        head : {x y : Entry P W} {xs ys : History P W} → x ∷ xs ≡ y ∷ ys → x ≡ y
        head {x} q = ap (λ z. get_or z 0 x) q

        tail : {x y : Entry P W} {xs ys : History P W} → x ∷ xs ≡ y ∷ ys → xs ≡ ys
        tail q = ap (drop 1) q

        split : (newer : History P W) → e ∷ h ≡ newer ++ c.collecting ∷ c.older →
            ((x : Entry P W) (p : ℕ) (states : List (Term P W)) → Contains newer x → restates x ≡ Some (p, states) → ¬ Beneath p (drawing_of (e ∷ h) k)) →
            (collects e ≡ Some k) ⊎ (CollectedSince h k × Spared e h k)
        split [] q none = inl (ap collects (head q) ∙ c.collected)
        split (x ∷ newer) q none = inr (
          record {
            newer = newer;
            collecting = c.collecting;
            older = c.older;
            in_order = tail q;
            collected = c.collected;
            none_since = λ y p states i r b. none y p states (suc i.0, omega (arith, i.1), i.2) r (subst (Beneath p) (sym drawn_same) b);
          },
          λ p states r b. none e p states (zero, omega arith, sym (head q)) r (subst (Beneath p) (sym drawn_same) b),
        )
