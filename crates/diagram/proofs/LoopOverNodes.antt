-- The step of a loop over a list of node numbers.
use Rattle.std.proofs.Common.{◌≡◌, ◌≢◌, ℕ, ◌+◌, ◌<◌, ◌≤◌, List, length, get_or, take, true, false, sym, ◌∙◌, subst, inl, inr, arith, AllPairs, nat_eq}
use Rattle.std.proofs.lemmas.Bool.{cases_eq, eqb-true, eqb-false}
use Rattle.std.proofs.lemmas.List.{get_or_default, get_or-take, length-take-le}

pub each_more : (P : ℕ → Type 0) (xs : List ℕ) (i : ℕ) → i < length xs → ((j d : ℕ) → j < i → P (get_or xs j d)) → P (get_or xs i 0) → (j d : ℕ) → j < i + 1 → P (get_or xs j d)
each_more P xs i h before here j d low = elim (cases_eq j i) [
  | inl e ↦ subst (λ z. P (get_or xs z d)) (sym e) (subst P (get_or_default xs i 0 d h) here)
  | inr n ↦ before j d (omega (arith, n, low))
]

module _ (xs : List ℕ) (i : ℕ) (in_list : i < length xs) where
  -- the item at i stands earlier in the list
  pub stands_twice : (k : ℕ) → k < length (take i xs) → ((d : ℕ) → nat_eq (get_or (take i xs) k d) (get_or xs i 0) ≡ true) → ¬ AllPairs ◌≢◌ xs
  stands_twice k h same apart =
      let low : k < i = omega (arith, h, length-take-le i xs (omega (arith, in_list))) in
      apart k i 0 low in_list (sym (get_or-take i xs k 0 low) ∙ eqb-true _ _ (same 0))

  -- it does not, and those before it are apart
  pub apart_more : ((j k d : ℕ) → j < k → k < i → get_or xs j d ≢ get_or xs k d) → ((k d : ℕ) → 0 ≤ k → k < length (take i xs) → nat_eq (get_or (take i xs) k d) (get_or xs i 0) ≡ false) →
      (j k d : ℕ) → j < k → k < i + 1 → get_or xs j d ≢ get_or xs k d
  apart_more before other j k d low high e = elim (cases_eq k i) [
    | inl q ↦
        let lower : j < i = omega (arith, low, q) in
        eqb-false _ _ (other j d (omega arith) (omega (arith, lower, length-take-le i xs (omega (arith, in_list)))))
        (get_or-take i xs j d lower ∙ e ∙ subst (λ z. get_or xs z d ≡ get_or xs i 0) (sym q) (get_or_default xs i d 0 in_list))
    | inr n ↦ before j k d low (omega (arith, n, high)) e
  ]
