-- The row of a list: it is found by putting in one term after the other, and there is no other.
use Rattle.std.proofs.Common.{◌≡◌, ℕ, ◌≤◌, Bool, true, false, cond, List, [], ◌∷◌, ◌++◌, length, Ordering, Less, Equal, Greater, sym, refl, ap, ◌∙◌, subst, arith}
use Rattle.std.specs.Ordering.{ordering_reverse}
use Rattle.kinds.specs.declared.performance.Performance
use Rattle.kinds.specs.declared.weight.Weight
use Rattle.terms.specs.declared.term.Term.{Term}
use Rattle.terms.specs.Rows.{if_same, sum_over, share, weight_at, SameDistribution, Above, IsRow, RowOf}
use Rattle.terms.specs.Combinations.{term}
use Rattle.kinds.proofs.Lawful.{Kind, Weighing}
use Rattle.terms.proofs.Summing.{Additive, neutral_right, left_comm}

abbrev pub by_order : {X : Type 0} → Ordering → X → X → X → X
by_order Less a b c = a
by_order Equal a b c = b
by_order Greater a b c = c

-- the answers of a comparison and of a test, with the equation
pub by_cases : {X : Type 0} (o : Ordering) → (o ≡ Less → X) → (o ≡ Equal → X) → (o ≡ Greater → X) → X
by_cases Less a b c = a refl
by_cases Equal a b c = b refl
by_cases Greater a b c = c refl

pub by_test : {X : Type 0} (b : Bool) → (b ≡ true → X) → (b ≡ false → X) → X
by_test true t f = t refl
by_test false t f = f refl

pub clash : {b : Bool} → b ≡ true → b ≡ false → ⊥
clash {b} p q = let z : ◌≡◌ {A = ℕ} 0 1 = cc in omega arith

module _ {P W : Type 0} (kind : Performance.Ghosts P) (weights : Weight.Ghosts W) where
  abbrev pub grown_by : Term P W → W → Term P W
  grown_by x v = term x.performance (weights.sum x.weight v)

  -- a term put into a row: added to the one of its performance, or between the lesser and the greater ones
  abbrev pub put_in : Term P W → List (Term P W) → List (Term P W)
  put_in t [] = t ∷ []
  put_in t (x ∷ xs) = by_order (kind.compared x.performance t.performance) (x ∷ put_in t xs) (grown_by x t.weight ∷ xs) (t ∷ x ∷ xs)

  abbrev pub merge_in : Term P W → List (Term P W) → List (Term P W)
  merge_in t r = cond (weights.is_nothing t.weight) r (put_in t r)

  -- the row of a list
  abbrev pub canon : List (Term P W) → List (Term P W)
  canon [] = []
  canon (t ∷ ts) = merge_in t (canon ts)

  -- a row does not shrink

  put_in_longer : (t : Term P W) (r : List (Term P W)) → length r ≤ length (put_in t r)
  put_in_longer t [] = omega arith
  put_in_longer t (x ∷ xs) =
      by_cases (kind.compared x.performance t.performance)
      (λ e. rw e (let h = put_in_longer t xs in omega arith))
      (λ e. rw e (omega arith))
      (λ e. rw e (omega arith))

  merge_in_longer : (t : Term P W) (r : List (Term P W)) → length r ≤ length (merge_in t r)
  merge_in_longer t r = by_test (weights.is_nothing t.weight) (λ e. rw e (omega arith)) (λ e. rw e (put_in_longer t r))

  pub canon_longer : (ts us : List (Term P W)) → length (canon us) ≤ length (canon (ts ++ us))
  canon_longer [] us = omega arith
  canon_longer (t ∷ ts) us =
      let h = canon_longer ts us in
      let k = merge_in_longer t (canon (ts ++ us)) in
      omega arith

module _ {P W : Type 0} {kind : Performance.Ghosts P} {weights : Weight.Ghosts W} (k : Kind kind) (w : Weighing weights) where
  infixr 50 ◌⊕◌
  abbrev ◌⊕◌ : W → W → W
  u ⊕ v = weights.sum u v

  abbrev T : Type 0
  T = Term P W

  abbrev total : (T → W) → List T → W
  total = sum_over weights

  pub greater_less : (a b : P) → kind.compared a b ≡ Greater → kind.compared b a ≡ Less
  greater_less a b e = k.swaps a b ∙ ap ordering_reverse e

  pub less_greater : (a b : P) → kind.compared a b ≡ Less → kind.compared b a ≡ Greater
  less_greater a b e = k.swaps a b ∙ ap ordering_reverse e

  -- a term and another of a like performance
  term_like : (x t : T) → kind.compared x.performance t.performance ≡ Equal → term x.performance t.weight ≡ t
  term_like x t e = ap (λ p. term p t.weight) (k.same_only x.performance t.performance e)

  nothing_term : (t : T) → weights.is_nothing t.weight ≡ true → term t.performance weights.nothing ≡ t
  nothing_term t e = ap (term t.performance) (sym (w.only_nothing t.weight e))

  -- sums over a list and over its row

  sum_put_in : (gives : T → W) → Additive weights gives → (t : T) (r : List T) → total gives (put_in kind weights t r) ≡ gives t ⊕ total gives r
  sum_put_in gives a t [] = refl
  sum_put_in gives a t (x ∷ xs) =
      by_cases (kind.compared x.performance t.performance)
      (λ e. rw e (ap (λ z. gives x ⊕ z) (sum_put_in gives a t xs) ∙ left_comm w (gives x) (gives t) (total gives xs)))
      (λ e. rw e (ap (λ z. z ⊕ total gives xs) (a.more x.performance x.weight t.weight ∙ ap (λ z. gives x ⊕ gives z) (term_like x t e)) ∙ w.sum_assoc (gives x) (gives t) (total gives xs) ∙ left_comm w (gives x) (gives t) (total gives xs)))
      (λ e. rw e refl)

  pub sum_merge_in : (gives : T → W) → Additive weights gives → (t : T) (r : List T) → total gives (merge_in kind weights t r) ≡ gives t ⊕ total gives r
  sum_merge_in gives a t r =
      by_test (weights.is_nothing t.weight)
      (λ e. rw e (sym (ap (λ z. z ⊕ total gives r) (sym (ap gives (nothing_term t e)) ∙ a.none t.performance) ∙ w.neutral (total gives r))))
      (λ e. rw e (sum_put_in gives a t r))

  sum_canon : (gives : T → W) → Additive weights gives → (ts : List T) → total gives (canon kind weights ts) ≡ total gives ts
  sum_canon gives a [] = refl
  sum_canon gives a (t ∷ ts) = sum_merge_in gives a t (canon kind weights ts) ∙ ap (λ z. gives t ⊕ z) (sum_canon gives a ts)

  -- shares are additive

  if_same_sum : (o : Ordering) (u v : W) → if_same o (u ⊕ v) weights.nothing ≡ if_same o u weights.nothing ⊕ if_same o v weights.nothing
  if_same_sum Less u v = sym (w.neutral weights.nothing)
  if_same_sum Equal u v = refl
  if_same_sum Greater u v = sym (w.neutral weights.nothing)

  if_same_none : (o : Ordering) → if_same o weights.nothing weights.nothing ≡ weights.nothing
  if_same_none Less = refl
  if_same_none Equal = refl
  if_same_none Greater = refl

  pub share_additive : (p : P) → Additive weights (share kind weights p)
  share_additive p = record {
    none = λ q. if_same_none (kind.compared q p);
    more = λ q u v. if_same_sum (kind.compared q p) u v;
  }

  -- rows

  above_trans : (p q : P) (r : List T) → kind.compared p q ≡ Less → Above kind weights q r → Above kind weights p r
  above_trans p q [] e h = tt
  above_trans p q (t ∷ ts) e h = (k.transitive p q t.performance e h.0, above_trans p q ts e h.1)

  above_put_in : (p : P) (t : T) (r : List T) → kind.compared p t.performance ≡ Less → Above kind weights p r → Above kind weights p (put_in kind weights t r)
  above_put_in p t [] e h = (e, tt)
  above_put_in p t (x ∷ xs) e h =
      by_cases (kind.compared x.performance t.performance)
      (λ c. rw c (h.0, above_put_in p t xs e h.1))
      (λ c. rw c (h.0, h.1))
      (λ c. rw c (e, h))

  something_sum : (u v : W) → weights.is_nothing u ≡ false → weights.is_nothing (u ⊕ v) ≡ false
  something_sum u v h =
      by_test (weights.is_nothing (u ⊕ v))
      (λ e. absurd (clash (ap weights.is_nothing (w.no_cancelling u v (w.only_nothing (u ⊕ v) e)).0 ∙ w.nothing_is) h))
      (λ e. e)

  row_put_in : (t : T) (r : List T) → weights.is_nothing t.weight ≡ false → IsRow kind weights r → IsRow kind weights (put_in kind weights t r)
  row_put_in t [] n h = (n, tt, tt)
  row_put_in t (x ∷ xs) n h =
      by_cases (kind.compared x.performance t.performance)
      (λ c. rw c (h.0, above_put_in x.performance t xs c h.1, row_put_in t xs n h.2))
      (λ c. rw c (something_sum x.weight t.weight h.0, h.1, h.2))
      (λ c. rw c (n, (greater_less _ _ c, above_trans t.performance x.performance xs (greater_less _ _ c) h.1), h))

  pub row_merge_in : (t : T) (r : List T) → IsRow kind weights r → IsRow kind weights (merge_in kind weights t r)
  row_merge_in t r h = by_test (weights.is_nothing t.weight) (λ e. rw e h) (λ e. rw e (row_put_in t r e h))

  row_canon : (ts : List T) → IsRow kind weights (canon kind weights ts)
  row_canon [] = tt
  row_canon (t ∷ ts) = row_merge_in t (canon kind weights ts) (row_canon ts)

  pub canon_row : (ts : List T) → RowOf kind weights ts (canon kind weights ts)
  canon_row ts = record { row = row_canon ts; same = λ p. sym (sum_canon (share kind weights p) (share_additive p) ts) }

  -- a row is known by its distribution

  pub share_is : (p : P) (t : T) (o : Ordering) → kind.compared t.performance p ≡ o → share kind weights p t ≡ if_same o t.weight weights.nothing
  share_is p t o e = ap (λ z. if_same z t.weight weights.nothing) e

  pub skipped : (p : P) (t : T) (ts : List T) → share kind weights p t ≡ weights.nothing → weight_at kind weights (t ∷ ts) p ≡ weight_at kind weights ts p
  skipped p t ts e = ap (λ z. z ⊕ weight_at kind weights ts p) e ∙ w.neutral (weight_at kind weights ts p)

  none_above : (p : P) (r : List T) → Above kind weights p r → weight_at kind weights r p ≡ weights.nothing
  none_above p [] h = refl
  none_above p (t ∷ ts) h = skipped p t ts (share_is p t Greater (less_greater p t.performance h.0)) ∙ none_above p ts h.1

  -- the first of a row has its own weight
  pub first_weight : (t : T) (ts : List T) → Above kind weights t.performance ts → weight_at kind weights (t ∷ ts) t.performance ≡ t.weight
  first_weight t ts h =
      ap (λ z. z ⊕ weight_at kind weights ts t.performance) (share_is t.performance t Equal (k.same_itself t.performance))
      ∙ ap (λ z. t.weight ⊕ z) (none_above t.performance ts h)
      ∙ neutral_right w t.weight

  -- a row's distribution is not nothing at its first performance
  first_not : (t : T) (ts : List T) → IsRow kind weights (t ∷ ts) → weight_at kind weights (t ∷ ts) t.performance ≡ weights.nothing → ⊥
  first_not t ts h e = clash (ap weights.is_nothing (sym (first_weight t ts h.1) ∙ e) ∙ w.nothing_is) h.0

  tails_same : (x : T) (xs ys : List T) → Above kind weights x.performance xs → Above kind weights x.performance ys → SameDistribution kind weights (x ∷ xs) (x ∷ ys) → SameDistribution kind weights xs ys
  tails_same x xs ys hx hy s p =
      by_cases (kind.compared x.performance p)
      (λ c. apart (share_is p x Less c))
      (λ c. subst (λ q. weight_at kind weights xs q ≡ weight_at kind weights ys q) (k.same_only x.performance p c) (none_above x.performance xs hx ∙ sym (none_above x.performance ys hy)))
      (λ c. apart (share_is p x Greater c))
    where
      apart : share kind weights p x ≡ weights.nothing → weight_at kind weights xs p ≡ weight_at kind weights ys p
      apart e = sym (skipped p x xs e) ∙ s p ∙ skipped p x ys e

  unique : (r s : List T) → IsRow kind weights r → IsRow kind weights s → SameDistribution kind weights r s → r ≡ s
  unique [] [] hr hs e = refl
  unique [] (y ∷ ys) hr hs e = absurd (first_not y ys hs (sym (e y.performance)))
  unique (x ∷ xs) [] hr hs e = absurd (first_not x xs hr (e x.performance))
  unique (x ∷ xs) (y ∷ ys) hr hs e =
      by_cases (kind.compared x.performance y.performance)
      (λ c. absurd (first_not x xs hr (e x.performance ∙ none_above x.performance (y ∷ ys) (c, above_trans x.performance y.performance ys c hs.1))))
      (λ c. let h : y ≡ x = sym (firsts c) in ap (λ zs. x ∷ zs) (unique xs ys hr.2 hs.2 (tails_same x xs ys hr.1 (subst (λ (z : T). Above kind weights z.performance ys) h hs.1) (subst (λ (z : T). SameDistribution kind weights (x ∷ xs) (z ∷ ys)) h e))) ∙ ap (λ z. z ∷ ys) (sym h))
      (λ c. let d = greater_less _ _ c in absurd (first_not y ys hs (sym (e y.performance) ∙ none_above y.performance (x ∷ xs) (d, above_trans y.performance x.performance xs d hr.1))))
    where
      firsts : kind.compared x.performance y.performance ≡ Equal → x ≡ y
      firsts c =
          let q = k.same_only x.performance y.performance c in
          let v : x.weight ≡ y.weight = sym (first_weight x xs hr.1) ∙ subst (λ z. weight_at kind weights (x ∷ xs) x.performance ≡ weight_at kind weights (y ∷ ys) z) q (e x.performance) ∙ first_weight y ys hs.1 in
          ap (term x.performance) v ∙ ap (λ z. term z y.weight) q

  pub row_unique : (ts r s : List T) → RowOf kind weights ts r → RowOf kind weights ts s → r ≡ s
  row_unique ts r s hr hs = unique r s hr.row hs.row (λ p. sym (hr.same p) ∙ hs.same p)

  canon_same : (ts us : List T) → SameDistribution kind weights ts us → canon kind weights ts ≡ canon kind weights us
  canon_same ts us e = unique (canon kind weights ts) (canon kind weights us) (row_canon ts) (row_canon us) (λ p. sym ((canon_row ts).same p) ∙ e p ∙ (canon_row us).same p)

  -- what adds up over the terms depends on the distribution alone
  pub sum_same : (gives : T → W) → Additive weights gives → (ts us : List T) → SameDistribution kind weights ts us → total gives ts ≡ total gives us
  sum_same gives a ts us e = sym (sum_canon gives a ts) ∙ ap (total gives) (canon_same ts us e) ∙ sum_canon gives a us
