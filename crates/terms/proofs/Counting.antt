-- What rows say of true counts, where weights count up to a top.
use Rattle.std.proofs.Common.{◌≡◌, ℕ, ◌<◌, ◌≤◌, Bool, true, false, cond, eqb, List, [], ◌∷◌, ◌++◌, map, Ordering, Less, Equal, Greater, sym, refl, ap, ◌∙◌, subst, mul-add, zero-mul, mul_comm, mul_assoc, arith}
use Rattle.std.proofs.lemmas.Bool.{eq-eqb, eqb-true}
use Rattle.kinds.specs.Capped.{capped, capped_sum, capped_product}
use Rattle.kinds.specs.CapLaws.{CapLaws}
use Rattle.kinds.specs.Caps.{cap_laws}
use Rattle.kinds.specs.Counting.{whole_numbers, CountsTo}
use Rattle.kinds.specs.declared.performance.Performance
use Rattle.kinds.specs.declared.weight.Weight
use Rattle.terms.specs.declared.term.Term.{Term}
use Rattle.terms.specs.declared.term.Way.{Way}
use Rattle.terms.specs.Rows.{if_same, sum_over, share, weight_at, Above, IsRow, RowOf}
use Rattle.terms.specs.Combinations.{each, term, joins}
use Rattle.terms.specs.Sums.{total_of, counted_for, met_of}
use Rattle.terms.specs.Drawings.{Drawing, part, joined, bridge, Children, one, more, PartList, only, and, parts_beneath}
use Rattle.terms.specs.Enumeration.{but, picks, performance_of, joined_performance, weight_of, combination, enumeration}
use Rattle.terms.specs.Counted.{reweighed, true_combinations}
use Rattle.kinds.proofs.Lawful.{Kind, Weighing}
use Rattle.terms.proofs.Canonical.{by_cases, by_test, clash, share_is, skipped, first_weight, canon, canon_row, row_unique}
use Rattle.terms.proofs.Each.{each_cong, each_each, each_through}

-- whole numbers are a lawful weight
pub whole_numbers_laws : Weighing whole_numbers
whole_numbers_laws = record {
  nothing_is = refl;
  only_nothing = λ a e. eqb-true a 0 e;
  sum_assoc = λ a b c. omega arith;
  sum_comm = λ a b. omega arith;
  neutral = λ a. omega arith;
  no_cancelling = λ a b e. (omega (arith, e), omega (arith, e));
  product_assoc = mul_assoc;
  product_comm = mul_comm;
  distributes = mul-add;
  absorbs = zero-mul;
}

-- f of each state that is picked

each_map : {A B C : Type 0} (f : A → B) (xs : List A) (g : B → List C) → each (map f xs) g ≡ each xs (λ x. g (f x))
each_map f [] g = refl
each_map f (x ∷ xs) g = ap (λ z. g (f x) ++ z) (each_map f xs g)

map_each : {A B C : Type 0} (f : B → C) (xs : List A) (g : A → B) → map f (each xs λ x. g x ∷ []) ≡ each xs (λ x. f (g x) ∷ [])
map_each f [] g = refl
map_each f (x ∷ xs) g = ap (λ z. f (g x) ∷ z) (map_each f xs g)

cond_map : {A B : Type 0} (f : A → B) (b : Bool) (x y : A) → cond b (f x) (f y) ≡ f (cond b x y)
cond_map f true x y = refl
cond_map f false x y = refl

module _ {S T : Type 0} (f : S → T) (states : ℕ → List S) where
  abbrev changed : ℕ → List T
  changed n = map f (states n)

  abbrev change : (ℕ → S) → ℕ → T
  change pick n = f (pick n)

  each_pick : {X : Type 0} (ns : PartList) (to : (ℕ → T) → List X) → each (picks changed ns) to ≡ each (picks states ns) (λ pick. to (change pick))
  each_pick (only n) to =
      each_through (changed n) (λ s _. s) to
      ∙ each_map f (states n) (λ s. to (λ _. s))
      ∙ sym (each_through (states n) (λ s _. s) (λ pick. to (change pick)))
  each_pick (and n ns) to =
      each_each (changed n) (λ s. each (picks changed ns) λ pick. but n s pick ∷ []) to
      ∙ each_map f (states n) (λ s. each (each (picks changed ns) λ pick. but n s pick ∷ []) to)
      ∙ each_cong (states n) _ _ (λ s.
      each_through (picks changed ns) (but n (f s)) to
      ∙ each_pick ns (λ pick. to (but n (f s) pick))
      ∙ each_cong (picks states ns) _ _ (λ pick. ap to (λ i m. cond_map f (eqb n m) s (pick m) i))
      ∙ sym (each_through (picks states ns) (but n s) (λ pick. to (change pick))))
      ∙ sym (each_each (states n) (λ s. each (picks states ns) λ pick. but n s pick ∷ []) (λ pick. to (change pick)))

module _ {P V U : Type 0} (kind : Performance.Ghosts P) (f : V → U) where
  -- a performance asks nothing of the weights
  mutual
    performance_reweighed : (d : Drawing) (pick : ℕ → Term P V) → performance_of kind d (λ n. reweighed f (pick n)) ≡ performance_of kind d pick
    performance_reweighed (part n) pick = refl
    performance_reweighed (joined way ds) pick = joined_reweighed way ds pick
    performance_reweighed (bridge a b c d e) pick =
        λ i. kind.bridge (performance_reweighed a pick i) (performance_reweighed b pick i) (performance_reweighed c pick i) (performance_reweighed d pick i) (performance_reweighed e pick i)

    joined_reweighed : (way : Way) (ds : Children) (pick : ℕ → Term P V) → joined_performance kind way ds (λ n. reweighed f (pick n)) ≡ joined_performance kind way ds pick
    joined_reweighed way (one d) pick = performance_reweighed d pick
    joined_reweighed way (more ds d) pick = λ i. joins kind way (joined_reweighed way ds pick i) (performance_reweighed d pick i)

module _ {P V U : Type 0} {kind : Performance.Ghosts P} {weights : Weight.Ghosts V} {weights' : Weight.Ghosts U} (k : Kind kind) (w : Weighing weights) (w' : Weighing weights')
    (f : V → U) (none : f weights.nothing ≡ weights'.nothing) (some : (v : V) → weights.is_nothing v ≡ false → weights'.is_nothing (f v) ≡ false) where
  -- a row whose weights change, and nothing to nothing alone, is a row; and its distribution changes so

  above_reweighed : (p : P) (r : List (Term P V)) → Above kind weights p r → Above kind weights' p (map (reweighed f) r)
  above_reweighed p [] h = tt
  above_reweighed p (t ∷ ts) h = (h.0, above_reweighed p ts h.1)

  row_reweighed : (r : List (Term P V)) → IsRow kind weights r → IsRow kind weights' (map (reweighed f) r)
  row_reweighed [] h = tt
  row_reweighed (t ∷ ts) h = (some t.weight h.0, above_reweighed t.performance ts h.1, row_reweighed ts h.2)

  weight_reweighed : (r : List (Term P V)) → IsRow kind weights r → (p : P) → weight_at kind weights' (map (reweighed f) r) p ≡ f (weight_at kind weights r p)
  weight_reweighed [] h p = sym none
  weight_reweighed (t ∷ ts) h p =
      let rest = weight_reweighed ts h.2 p in
      by_cases (kind.compared t.performance p)
      (λ c. apart rest (share_is k w p t Less c) (share_is k w' p (reweighed f t) Less c))
      (λ c. subst (λ q. weight_at kind weights' (map (reweighed f) (t ∷ ts)) q ≡ f (weight_at kind weights (t ∷ ts) q)) (k.same_only t.performance p c) here)
      (λ c. apart rest (share_is k w p t Greater c) (share_is k w' p (reweighed f t) Greater c))
    where
      apart : weight_at kind weights' (map (reweighed f) ts) p ≡ f (weight_at kind weights ts p) → share kind weights p t ≡ weights.nothing → share kind weights' p (reweighed f t) ≡ weights'.nothing →
          weight_at kind weights' (map (reweighed f) (t ∷ ts)) p ≡ f (weight_at kind weights (t ∷ ts) p)
      apart rest e e' = skipped k w' p (reweighed f t) (map (reweighed f) ts) e' ∙ rest ∙ ap f (sym (skipped k w p t ts e))

      here : weight_at kind weights' (map (reweighed f) (t ∷ ts)) t.performance ≡ f (weight_at kind weights (t ∷ ts) t.performance)
      here = first_weight k w' (reweighed f t) (map (reweighed f) ts) (above_reweighed t.performance ts h.1) ∙ ap f (sym (first_weight k w t ts h.1))

-- the terms count the same, those of the second stopped at the top
abbrev pub CountSame : {P W : Type 0} → ℕ → (W → ℕ) → List (Term P W) → List (Term P ℕ) → Type 0
CountSame top count ts us = map (reweighed count) ts ≡ map (reweighed (capped top)) us

module _ {W : Type 0} {weights : Weight.Ghosts W} {top : ℕ} {count : W → ℕ} (counts : CountsTo top weights count) where
  caps : CapLaws top
  caps = cap_laws top

  nothing_counted : count weights.nothing ≡ capped top 0
  nothing_counted = counts.nothing ∙ sym caps.respects_nothing

  count_some : Weighing weights → (v : W) → weights.is_nothing v ≡ false → eqb (count v) 0 ≡ false
  count_some w v h =
      by_test (eqb (count v) 0)
      (λ e. absurd (clash (ap weights.is_nothing (counts.tells v weights.nothing (eqb-true (count v) 0 e ∙ sym counts.nothing)) ∙ w.nothing_is) h))
      (λ e. e)

  capped_some : (n : ℕ) → eqb n 0 ≡ false → eqb (capped top n) 0 ≡ false
  capped_some n h =
      by_test (eqb (capped top n) 0)
      (λ e. let z = eqb-true (capped top n) 0 e in let s = counts.some in let none : n ≡ 0 = omega arith in absurd (clash (eq-eqb n 0 none) h))
      (λ e. e)

  -- sums of what the terms give, where that counts the same
  module _ {P : Type 0} where
    sum_counted : (gives : Term P W → W) (gives' : Term P ℕ → ℕ) →
        ((t : Term P W) (u : Term P ℕ) → reweighed count t ≡ reweighed (capped top) u → count (gives t) ≡ capped top (gives' u)) →
        (ts : List (Term P W)) (us : List (Term P ℕ)) → CountSame top count ts us → count (sum_over weights gives ts) ≡ capped top (sum_over whole_numbers gives' us)
    sum_counted gives gives' agree [] [] e = nothing_counted
    sum_counted gives gives' agree [] (u ∷ us) e = let none : ⊥ = cc in absurd none
    sum_counted gives gives' agree (t ∷ ts) [] e = let none : ⊥ = cc in absurd none
    sum_counted gives gives' agree (t ∷ ts) (u ∷ us) e =
        let first : reweighed count t ≡ reweighed (capped top) u = cc in
        let rest : CountSame top count ts us = cc in
        counts.sum (gives t) (sum_over weights gives ts)
        ∙ (λ i. capped_sum top (agree t u first i) (sum_counted gives gives' agree ts us rest i))
        ∙ sym (caps.respects_sum (gives' u) (sum_over whole_numbers gives' us))

    pub total_counted : (ts : List (Term P W)) (us : List (Term P ℕ)) → CountSame top count ts us → count (total_of weights ts) ≡ capped top (total_of whole_numbers us)
    total_counted = sum_counted (λ t. t.weight) (λ t. t.weight) (λ t u e. ap (λ (x : Term P ℕ). x.weight) e)

module _ {P W : Type 0} (kind : Performance.Ghosts P) {weights : Weight.Ghosts W} {top : ℕ} {count : W → ℕ} (counts : CountsTo top weights count) where
  abbrev Same : List (Term P W) → List (Term P ℕ) → Type 0
  Same = CountSame top count

  -- combinations

  weight_counted : (ns : PartList) (pick : ℕ → Term P W) → count (weight_of weights ns pick) ≡ capped top (weight_of whole_numbers ns (λ n. reweighed count (pick n)))
  weight_counted (only n) pick = sym ((caps counts).unchanged (count (pick n).weight) (counts.at_most (pick n).weight))
  weight_counted (and n ns) pick =
      let w = (pick n).weight in
      let same : count w ≡ capped top (count w) = sym ((caps counts).unchanged (count w) (counts.at_most w)) in
      counts.product w (weight_of weights ns pick)
      ∙ (λ i. capped_product top (same i) (weight_counted ns pick i))
      ∙ sym ((caps counts).respects_product (count w) (weight_of whole_numbers ns (λ m. reweighed count (pick m))))

  combinations_counted : (states : ℕ → List (Term P W)) (d : Drawing) → Same (enumeration kind weights states d) (true_combinations kind count states d)
  combinations_counted states d =
      map_each (reweighed count) (picks states (parts_beneath d)) (combination kind weights d)
      ∙ each_cong (picks states (parts_beneath d)) _ _ (λ pick. ap (λ t. t ∷ []) (point pick))
      ∙ sym (each_pick (reweighed count) states (parts_beneath d) (λ pick. reweighed (capped top) (combination kind whole_numbers d pick) ∷ []))
      ∙ sym (map_each (reweighed (capped top)) (picks (λ n. map (reweighed count) (states n)) (parts_beneath d)) (combination kind whole_numbers d))
    where
      point : (pick : ℕ → Term P W) → reweighed count (combination kind weights d pick) ≡ reweighed (capped top) (combination kind whole_numbers d (λ n. reweighed count (pick n)))
      point pick = λ i. term (sym (performance_reweighed kind count d pick) i) (weight_counted (parts_beneath d) pick i)

  -- shares, and what meets a demand

  share_counted : (p : P) (t : Term P W) (u : Term P ℕ) → reweighed count t ≡ reweighed (capped top) u → count (share kind weights p t) ≡ capped top (share kind whole_numbers p u)
  share_counted p t u e = at (kind.compared t.performance p) ∙ ap (λ (x : Term P ℕ). capped top (if_same (kind.compared x.performance p) u.weight 0)) e
    where
      at : (o : Ordering) → count (if_same o t.weight weights.nothing) ≡ capped top (if_same o u.weight 0)
      at Less = nothing_counted counts
      at Equal = ap (λ (x : Term P ℕ). x.weight) e
      at Greater = nothing_counted counts

  pub met_counted : (demand : P) (ts : List (Term P W)) (us : List (Term P ℕ)) → Same ts us → count (met_of kind weights demand ts) ≡ capped top (met_of kind whole_numbers demand us)
  met_counted demand = sum_counted counts (counted_for kind weights demand) (counted_for kind whole_numbers demand) one_counted
    where
      one_counted : (t : Term P W) (u : Term P ℕ) → reweighed count t ≡ reweighed (capped top) u → count (counted_for kind weights demand t) ≡ capped top (counted_for kind whole_numbers demand u)
      one_counted t u e = at (kind.meets t.performance demand) ∙ ap (λ (x : Term P ℕ). capped top (cond (kind.meets x.performance demand) u.weight 0)) e
        where
          at : (b : Bool) → count (cond b t.weight weights.nothing) ≡ capped top (cond b u.weight 0)
          at true = ap (λ (x : Term P ℕ). x.weight) e
          at false = nothing_counted counts

  -- The row of all the combinations counts the same as the row of the true ones: it makes no difference whether weights stop on the way.
  pub true_row : Kind kind → Weighing weights → (states : ℕ → List (Term P W)) (d : Drawing) (row : List (Term P W)) → RowOf kind weights (enumeration kind weights states d) row →
      (truth : List (Term P ℕ)) × RowOf kind whole_numbers (true_combinations kind count states d) truth × Same row truth
  true_row k w states d row is = (
    truth,
    true_is,
    row_unique k n left left right (record { row = row_reweighed k w n count counts.nothing (count_some counts w) row is.row; same = λ p. refl })
        (record { row = row_reweighed k n n (capped top) (caps counts).respects_nothing (capped_some counts) truth true_is.row; same = same }),
  )
    where
      n : Weighing whole_numbers
      n = whole_numbers_laws

      truth : List (Term P ℕ)
      truth = canon kind whole_numbers (true_combinations kind count states d)

      true_is : RowOf kind whole_numbers (true_combinations kind count states d) truth
      true_is = canon_row k n (true_combinations kind count states d)

      left : List (Term P ℕ)
      left = map (reweighed count) row

      right : List (Term P ℕ)
      right = map (reweighed (capped top)) truth

      same : (p : P) → weight_at kind whole_numbers left p ≡ weight_at kind whole_numbers right p
      same p =
          weight_reweighed k w n count counts.nothing (count_some counts w) row is.row p
          ∙ ap count (sym (is.same p))
          ∙ sum_counted counts (share kind weights p) (share kind whole_numbers p) (share_counted p) (enumeration kind weights states d) (true_combinations kind count states d) (combinations_counted states d)
          ∙ ap (capped top) (true_is.same p)
          ∙ sym (weight_reweighed k n n (capped top) (caps counts).respects_nothing (capped_some counts) truth true_is.row p)

-- where the total is below the top, nothing is stopped

at_most_top : {P : Type 0} (top : ℕ) (us : List (Term P ℕ)) → total_of whole_numbers us ≤ top → map (reweighed (capped top)) us ≡ us
at_most_top top [] h = refl
at_most_top top (u ∷ us) h =
    let first : capped top u.weight ≡ u.weight = (cap_laws top).unchanged u.weight (omega (arith, h)) in
    let rest : total_of whole_numbers us ≤ top = omega (arith, h) in
    λ i. term u.performance (first i) ∷ at_most_top top us rest i

met_at_most : {P : Type 0} (kind : Performance.Ghosts P) (demand : P) (us : List (Term P ℕ)) → met_of kind whole_numbers demand us ≤ total_of whole_numbers us
met_at_most kind demand [] = omega arith
met_at_most kind demand (u ∷ us) =
    let rest = met_at_most kind demand us in
    let first = at (kind.meets u.performance demand) in
    omega (arith, rest, first)
  where
    at : (b : Bool) → cond b u.weight 0 ≤ u.weight
    at true = omega arith
    at false = omega arith

module _ {P : Type 0} (top : ℕ) (us : List (Term P ℕ)) (below : capped top (total_of whole_numbers us) < top) where
  pub terms_unstopped : map (reweighed (capped top)) us ≡ us
  terms_unstopped = at_most_top top us (omega (arith, below))

  pub total_unstopped : capped top (total_of whole_numbers us) ≡ total_of whole_numbers us
  total_unstopped = (cap_laws top).below_top (total_of whole_numbers us) below

  pub met_unstopped : (kind : Performance.Ghosts P) (demand : P) → capped top (met_of kind whole_numbers demand us) ≡ met_of kind whole_numbers demand us
  met_unstopped kind demand = let most = met_at_most kind demand us in (cap_laws top).unchanged (met_of kind whole_numbers demand us) (omega (arith, below, most))
