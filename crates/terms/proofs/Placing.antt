-- A term added at the place of its performance in a row, or put in where none stands.
use Rattle.std.proofs.Common.{◌≡◌, ℕ, zero, suc, ◌+◌, ◌-◌, ◌<◌, ◌≤◌, true, false, List, [], ◌∷◌, ◌++◌, length, get_or, take, drop, set, Less, Equal, sym, refl, ap, ◌∙◌, subst, append_assoc, length-drop, arith}
use Rattle.std.specs.List.{copy_within, insert}
use Rattle.std.specs.List.Sorted.{IsNonDecreasingBy}
use Rattle.std.specs.Ordering.{ordering_index}
use Rattle.std.proofs.lemmas.List.{get_or-take, set-get_or, length-take-le, take_more_set, take-take, drop-take, set-append_left}
use Rattle.std.proofs.lemmas.List.Edits.{take-paste}
use Rattle.kinds.specs.declared.performance.Performance
use Rattle.kinds.specs.declared.weight.Weight
use Rattle.terms.specs.declared.term.Term.{Term}
use Rattle.terms.specs.Rows.{Above, IsRow, RowOf}
use Rattle.kinds.proofs.Lawful.{Kind, Weighing}
use Rattle.terms.specs.Combinations.{term}
use Rattle.terms.specs.Growing.{Gap}
use Rattle.terms.proofs.Summing.{neutral_right}
use Rattle.terms.proofs.Canonical.{put_in, merge_in, grown_by, by_cases, by_test, greater_less, less_greater, share_additive, row_merge_in, sum_merge_in}

take_set_in : {X : Type 0} (n : ℕ) (xs : List X) (i : ℕ) (y : X) → take n (set xs i y) ≡ set (take n xs) i y
take_set_in zero [] i y = refl
take_set_in zero (x ∷ xs) zero y = refl
take_set_in zero (x ∷ xs) (suc i) y = refl
take_set_in (suc n) [] i y = refl
take_set_in (suc n) (x ∷ xs) zero y = refl
take_set_in (suc n) (x ∷ xs) (suc i) y = ap (λ z. x ∷ z) (take_set_in n xs i y)

-- the elements from place i on move up by one, and y takes the place
pub put_between : {X : Type 0} (xs : List X) (len i : ℕ) (y : X) → i ≤ len → len < length xs → take (len + 1) (set (copy_within xs i len (i + 1)) i y) ≡ insert (take len xs) i y
put_between {X} xs len i y h l =
    let n = len - i in
    let past : i + 1 + n ≡ len + 1 = omega arith in
    let all : i + n ≡ len = omega arith in
    let low : i < length (take (i + 1) xs) = omega (arith, length-take-le (i + 1) xs (omega arith)) in
    take_set_in (len + 1) (copy_within xs i len (i + 1)) i y
    ∙ ap (λ m. set (take m (copy_within xs i len (i + 1))) i y) (sym past)
    ∙ ap (λ (zs : List X). set zs i y) (take-paste xs (i + 1) (drop i xs) n (omega arith) (omega (arith, length-drop i xs)))
    ∙ set-append_left (take (i + 1) xs) (take n (drop i xs)) i y low
    ∙ ap (λ zs. zs ++ take n (drop i xs)) (sym (take_set_in (i + 1) xs i y) ∙ take_more_set xs i y (omega arith))
    ∙ append_assoc (take i xs) (y ∷ []) (take n (drop i xs))
    ∙ ap (λ zs. zs ++ (y ∷ take n (drop i xs))) (sym (take-take i len xs h))
    ∙ ap (λ zs. take i (take len xs) ++ (y ∷ zs)) (sym (drop-take i n xs) ∙ ap (λ m. drop i (take m xs)) all)

module _ {P W : Type 0} (kind : Performance.Ghosts P) (weights : Weight.Ghosts W) where
  put_in_at : (t : Term P W) (r : List (Term P W)) (i : ℕ) → Gap kind weights t r i → put_in kind weights t r ≡ insert r i t
  put_in_at t [] zero h = refl
  put_in_at t [] (suc i) h = refl
  put_in_at t (x ∷ xs) zero h = rw (h.1 0 x (omega arith) (omega arith)) refl
  put_in_at t (x ∷ xs) (suc i) h =
      rw (h.0 0 x (omega arith) (omega arith))
      (ap (λ z. x ∷ z) (put_in_at t xs i (λ j d l m. h.0 (suc j) d (omega arith) (omega arith), λ j d l m. h.1 (suc j) d (omega arith) (omega arith))))

module _ {P W : Type 0} {kind : Performance.Ghosts P} {weights : Weight.Ghosts W} (k : Kind kind) (w : Weighing weights) where
  -- along a row the comparisons with p rise, as a search by halving asks

  rise : (a b p : P) → kind.compared a b ≡ Less → ordering_index (kind.compared a p) ≤ ordering_index (kind.compared b p)
  rise a b p l =
      by_cases (kind.compared a p)
      (λ e. rw e (omega arith))
      (λ e. rw (e, less_greater k w p b (subst (λ z. kind.compared z b ≡ Less) (k.same_only a p e) l)) (omega arith))
      (λ e. rw (e, less_greater k w p b (k.transitive p a b (greater_less k w a p e) l)) (omega arith))

  above_at : (p : P) (r : List (Term P W)) (i : ℕ) (d : Term P W) → Above kind weights p r → i < length r → kind.compared p (get_or r i d).performance ≡ Less
  above_at p [] i d h l = absurd (omega arith)
  above_at p (x ∷ xs) zero d h l = h.0
  above_at p (x ∷ xs) (suc i) d h l = above_at p xs i d h.1 (omega arith)

  pub row_rises : (p : P) (r : List (Term P W)) → IsRow kind weights r → IsNonDecreasingBy (λ x. ordering_index (kind.compared x.performance p)) r
  row_rises p [] h i j d le l = absurd (omega arith)
  row_rises p (x ∷ xs) h zero zero d le l = omega arith
  row_rises p (x ∷ xs) h zero (suc j) d le l = rise x.performance _ p (above_at x.performance xs j d h.1 (omega arith))
  row_rises p (x ∷ xs) h (suc i) zero d le l = absurd (omega arith)
  row_rises p (x ∷ xs) h (suc i) (suc j) d le l = row_rises p xs h.2 i j d (omega arith) (omega arith)

  -- a term put in, if it weighs something

  merged_row : (t : Term P W) (r : List (Term P W)) → IsRow kind weights r → RowOf kind weights (t ∷ r) (merge_in kind weights t r)
  merged_row t r h = record { row = row_merge_in k w t r h; same = λ p. sym (sum_merge_in k w _ (share_additive k w p) t r) }

  pub nothing_row : (t : Term P W) (r : List (Term P W)) → weights.is_nothing t.weight ≡ true → IsRow kind weights r → RowOf kind weights (t ∷ r) r
  nothing_row t r e h = rw e at (merged_row t r h)

  pub something_row : (t : Term P W) (r : List (Term P W)) (i : ℕ) → weights.is_nothing t.weight ≡ false → IsRow kind weights r → Gap kind weights t r i → RowOf kind weights (t ∷ r) (insert r i t)
  something_row t r i e h at = rw (e, put_in_at kind weights t r i at) at (merged_row t r h)

  -- a term of the performance at place i, where x stands

  put_in_on : (t : Term P W) (r : List (Term P W)) (i : ℕ) (x : Term P W) → i < length r → IsRow kind weights r → kind.compared (get_or r i x).performance t.performance ≡ Equal → put_in kind weights t r ≡ set r i (grown_by kind weights (get_or r i x) t.weight)
  put_in_on t [] i x l h e = absurd (omega arith)
  put_in_on t (y ∷ ys) zero x l h e = rw e refl
  put_in_on t (y ∷ ys) (suc i) x l h e =
      let before : kind.compared y.performance t.performance ≡ Less = subst (λ p. kind.compared y.performance p ≡ Less) (k.same_only _ _ e) (above_at y.performance ys i x h.1 (omega arith)) in
      rw before (ap (λ z. y ∷ z) (put_in_on t ys i x (omega arith) h.2 e))

  grown_row : (t : Term P W) (r : List (Term P W)) (i : ℕ) (x : Term P W) → i < length r → IsRow kind weights r → kind.compared (get_or r i x).performance t.performance ≡ Equal → RowOf kind weights (t ∷ r) (set r i (grown_by kind weights (get_or r i x) t.weight))
  grown_row t r i x l h e =
      by_test (weights.is_nothing t.weight)
      (λ n.
      let same : set r i (grown_by kind weights (get_or r i x) t.weight) ≡ r = ap (λ v. set r i (term (get_or r i x).performance v)) (ap (weights.sum (get_or r i x).weight) (w.only_nothing t.weight n) ∙ neutral_right w _) ∙ set-get_or r i x in
      rw same (nothing_row t r n h))
      (λ n. rw (n, put_in_on t r i x l h e) at (merged_row t r h))

  pub add_here : (s : List (Term P W)) (len i : ℕ) (x t : Term P W) → len ≤ length s → i < length (take len s) → x ≡ get_or s i x → IsRow kind weights (take len s) → kind.compared (get_or (take len s) i x).performance t.performance ≡ Equal → RowOf kind weights (t ∷ take len s) (take len (set s i (grown_by kind weights x t.weight)))
  add_here s len i x t l in_row read h e =
      let m = length-take-le len s l in
      let there : get_or (take len s) i x ≡ x = get_or-take len s i x (omega arith) ∙ sym read in
      rw take_set_in (subst (λ (z : Term P W). RowOf kind weights (t ∷ take len s) (set (take len s) i (grown_by kind weights z t.weight))) there (grown_row t (take len s) i x in_row h e))
