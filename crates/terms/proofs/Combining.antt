-- Combinations depend on distributions alone, associate, and commute where the operation does.
use Rattle.std.proofs.Common.{◌≡◌, Bool, true, false, cond, List, [], ◌∷◌, sym, refl, ap, ◌∙◌, append-nil}
use Rattle.kinds.specs.declared.performance.Performance
use Rattle.kinds.specs.declared.weight.Weight
use Rattle.terms.specs.declared.term.Term.{Term}
use Rattle.terms.specs.Rows.{sum_over, share, SameDistribution}
use Rattle.terms.specs.Combinations.{each, term, combined, combinations, bridged, bridges}
use Rattle.terms.specs.Sums.{total_of, met_of, counted_for}
use Rattle.kinds.proofs.Lawful.{Kind, Weighing}
use Rattle.terms.proofs.Summing.{Additive, linear_itself, linear_times, linear_scaled, additive_through, additive_sum, sum_cong, sum_each, sum_one, sum_swap}
use Rattle.terms.proofs.Canonical.{share_additive, sum_same}
use Rattle.terms.proofs.Each.{each_cong, each_each}

module _ {P W : Type 0} {kind : Performance.Ghosts P} {weights : Weight.Ghosts W} (k : Kind kind) (w : Weighing weights) where
  abbrev T : Type 0
  T = Term P W

  abbrev total : (T → W) → List T → W
  total = sum_over weights

  abbrev Same : List T → List T → Type 0
  Same = SameDistribution kind weights

  same_term : {p q : P} {u v : W} → p ≡ q → u ≡ v → ◌≡◌ {A = T} (term p u) (term q v)
  same_term {p} {q} {u} {v} e f = ap (λ z. term z u) e ∙ ap (term q) f

  -- two lists

  sum_combinations : (op : P → P → P) (gives : T → W) (xs ys : List T) → total gives (combinations weights op xs ys) ≡ total (λ x. total (λ y. gives (combined weights op x y)) ys) xs
  sum_combinations op gives xs ys =
      sum_each w gives xs (λ x. each ys λ y. combined weights op x y ∷ [])
      ∙ sum_cong w _ _ xs (λ x. sum_each w gives ys (λ y. combined weights op x y ∷ []) ∙ sum_cong w _ _ ys (λ y. sum_one w gives (combined weights op x y)))

  -- additive in the one, and in the other
  additive_first : (op : P → P → P) (gives : T → W) → Additive weights gives → (y : T) → Additive weights (λ x. gives (combined weights op x y))
  additive_first op gives a y = additive_through w gives a (λ p. op p y.performance) (λ u. weights.product u y.weight) (linear_times w (λ u. u) (linear_itself w) y.weight)

  additive_second : (op : P → P → P) (gives : T → W) → Additive weights gives → (x : T) → Additive weights (λ y. gives (combined weights op x y))
  additive_second op gives a x = additive_through w gives a (op x.performance) (λ u. weights.product x.weight u) (linear_scaled w (λ u. u) (linear_itself w) x.weight)

  pub combinations_keep : (op : P → P → P) (xs xs' ys ys' : List T) → Same xs xs' → Same ys ys' → Same (combinations weights op xs ys) (combinations weights op xs' ys')
  combinations_keep op xs xs' ys ys' e f p =
      let gives = share kind weights p in
      let a = share_additive k w p in
      sum_combinations op gives xs ys
      ∙ sum_same k w (λ x. total (λ y. gives (combined weights op x y)) ys) (additive_sum w (λ x y. gives (combined weights op x y)) ys (additive_first op gives a)) xs xs' e
      ∙ sum_cong w _ _ xs' (λ x. sum_same k w (λ y. gives (combined weights op x y)) (additive_second op gives a x) ys ys' f)
      ∙ sym (sum_combinations op gives xs' ys')

  -- already the lists are equal
  pub combinations_associate : (op : P → P → P) → ((a b c : P) → op (op a b) c ≡ op a (op b c)) → (xs ys zs : List T) → combinations weights op (combinations weights op xs ys) zs ≡ combinations weights op xs (combinations weights op ys zs)
  combinations_associate op assoc xs ys zs =
      each_each xs (λ x. each ys λ y. combined weights op x y ∷ []) (λ t. each zs λ z. combined weights op t z ∷ [])
      ∙ each_cong xs _ _ (λ x.
      each_each ys (λ y. combined weights op x y ∷ []) (λ t. each zs λ z. combined weights op t z ∷ [])
      ∙ each_cong ys _ _ (λ y. each_nil x y ∙ each_cong zs _ _ (λ z. ap (λ t. t ∷ []) (triple x y z)) ∙ sym (each_each zs (λ z. combined weights op y z ∷ []) (λ t. combined weights op x t ∷ []) ∙ refl))
      ∙ sym (each_each ys (λ y. each zs λ z. combined weights op y z ∷ []) (λ t. combined weights op x t ∷ [])))
    where
      triple : (x y z : T) → combined weights op (combined weights op x y) z ≡ combined weights op x (combined weights op y z)
      triple x y z = same_term (assoc x.performance y.performance z.performance) (w.product_assoc x.weight y.weight z.weight)

      each_nil : (x y : T) → each (combined weights op x y ∷ []) (λ t. each zs λ z. combined weights op t z ∷ []) ≡ each zs (λ z. combined weights op (combined weights op x y) z ∷ [])
      each_nil x y = append-nil _

  pub combinations_commute : (op : P → P → P) → ((a b : P) → op a b ≡ op b a) → (xs ys : List T) → Same (combinations weights op xs ys) (combinations weights op ys xs)
  combinations_commute op comm xs ys p =
      let gives = share kind weights p in
      sum_combinations op gives xs ys
      ∙ sum_swap w (λ x y. gives (combined weights op x y)) xs ys
      ∙ sum_cong w _ _ ys (λ y. sum_cong w _ _ xs (λ x. ap gives (same_term (comm x.performance y.performance) (w.product_comm x.weight y.weight))))
      ∙ sym (sum_combinations op gives ys xs)

  -- five lists

  infixl 60 ◌⊗◌
  abbrev ◌⊗◌ : W → W → W
  u ⊗ v = weights.product u v

  abbrev five : T → T → T → T → T → T
  five = bridged kind weights

  module _ (gives : T → W) where
    abbrev over_e : List T → T → T → T → T → W
    over_e es a b c d = total (λ e. gives (five a b c d e)) es

    abbrev over_d : List T → List T → T → T → T → W
    over_d ds es a b c = total (λ d. over_e es a b c d) ds

    abbrev over_c : List T → List T → List T → T → T → W
    over_c cs ds es a b = total (λ c. over_d ds es a b c) cs

    abbrev over_b : List T → List T → List T → List T → T → W
    over_b bs cs ds es a = total (λ b. over_c cs ds es a b) bs

    pub sum_bridges : (qs bs cs ds es : List T) → total gives (bridges kind weights qs bs cs ds es) ≡ total (over_b bs cs ds es) qs
    sum_bridges qs bs cs ds es =
        sum_each w gives qs _ ∙ sum_cong w _ _ qs (λ a.
        sum_each w gives bs _ ∙ sum_cong w _ _ bs (λ b.
        sum_each w gives cs _ ∙ sum_cong w _ _ cs (λ c.
        sum_each w gives ds _ ∙ sum_cong w _ _ ds (λ d.
        sum_each w gives es _ ∙ sum_cong w _ _ es (λ e. sum_one w gives (five a b c d e))))))

    module _ (add : Additive weights gives) where
      at_e : (a b c d : T) → Additive weights (λ e. gives (five a b c d e))
      at_e a b c d =
          additive_through w gives add (λ p. kind.bridge a.performance b.performance c.performance d.performance p) _
          (linear_scaled w (λ u. u) (linear_itself w) (a.weight ⊗ b.weight ⊗ c.weight ⊗ d.weight))

      at_d : (es : List T) (a b c : T) → Additive weights (λ d. over_e es a b c d)
      at_d es a b c = additive_sum w (λ d e. gives (five a b c d e)) es (λ e.
          additive_through w gives add (λ p. kind.bridge a.performance b.performance c.performance p e.performance) _
          (linear_times w _ (linear_scaled w (λ u. u) (linear_itself w) (a.weight ⊗ b.weight ⊗ c.weight)) e.weight))

      at_c : (ds es : List T) (a b : T) → Additive weights (λ c. over_d ds es a b c)
      at_c ds es a b = additive_sum w (λ c d. over_e es a b c d) ds (λ d. additive_sum w (λ c e. gives (five a b c d e)) es (λ e.
          additive_through w gives add (λ p. kind.bridge a.performance b.performance p d.performance e.performance) _
          (linear_times w _ (linear_times w _ (linear_scaled w (λ u. u) (linear_itself w) (a.weight ⊗ b.weight)) d.weight) e.weight)))

      at_b : (cs ds es : List T) (a : T) → Additive weights (λ b. over_c cs ds es a b)
      at_b cs ds es a = additive_sum w (λ b c. over_d ds es a b c) cs (λ c. additive_sum w (λ b d. over_e es a b c d) ds (λ d. additive_sum w (λ b e. gives (five a b c d e)) es (λ e.
          additive_through w gives add (λ p. kind.bridge a.performance p c.performance d.performance e.performance) _
          (linear_times w _ (linear_times w _ (linear_times w _ (linear_scaled w (λ u. u) (linear_itself w) a.weight) c.weight) d.weight) e.weight))))

      at_a : (bs cs ds es : List T) → Additive weights (over_b bs cs ds es)
      at_a bs cs ds es = additive_sum w (λ a b. over_c cs ds es a b) bs (λ b. additive_sum w (λ a c. over_d ds es a b c) cs (λ c. additive_sum w (λ a d. over_e es a b c d) ds (λ d. additive_sum w (λ a e. gives (five a b c d e)) es (λ e.
          additive_through w gives add (λ p. kind.bridge p b.performance c.performance d.performance e.performance) _
          (linear_times w _ (linear_times w _ (linear_times w _ (linear_times w (λ u. u) (linear_itself w) b.weight) c.weight) d.weight) e.weight)))))

  -- one arm after the other is exchanged
  pub bridges_keep : (qs qs' bs bs' cs cs' ds ds' es es' : List T) → Same qs qs' → Same bs bs' → Same cs cs' → Same ds ds' → Same es es' → Same (bridges kind weights qs bs cs ds es) (bridges kind weights qs' bs' cs' ds' es')
  bridges_keep qs qs' bs bs' cs cs' ds ds' es es' same-a same-b same-c same-d same-e p =
      let gives = share kind weights p in
      let add = share_additive k w p in
      sum_bridges gives qs bs cs ds es
      ∙ sum_same k w _ (at_a gives add bs cs ds es) qs qs' same-a
      ∙ sum_cong w _ _ qs' (λ a.
      sum_same k w _ (at_b gives add cs ds es a) bs bs' same-b
      ∙ sum_cong w _ _ bs' (λ b.
      sum_same k w _ (at_c gives add ds es a b) cs cs' same-c
      ∙ sum_cong w _ _ cs' (λ c.
      sum_same k w _ (at_d gives add es a b c) ds ds' same-d
      ∙ sum_cong w _ _ ds' (λ d. sum_same k w _ (at_e gives add a b c d) es es' same-e))))
      ∙ sym (sum_bridges gives qs' bs' cs' ds' es')

  -- sums

  total_additive : Additive {P = P} weights (λ t. t.weight)
  total_additive = record { none = λ p. refl; more = λ p u v. refl }

  cond_none : (b : Bool) → cond b weights.nothing weights.nothing ≡ weights.nothing
  cond_none true = refl
  cond_none false = refl

  cond_more : (b : Bool) (u v : W) → cond b (weights.sum u v) weights.nothing ≡ weights.sum (cond b u weights.nothing) (cond b v weights.nothing)
  cond_more true u v = refl
  cond_more false u v = sym (w.neutral weights.nothing)

  met_additive : (demand : P) → Additive weights (counted_for kind weights demand)
  met_additive demand = record { none = λ p. cond_none (kind.meets p demand); more = λ p u v. cond_more (kind.meets p demand) u v }

  pub total_same : (ts us : List T) → Same ts us → total_of weights ts ≡ total_of weights us
  total_same ts us e = sum_same k w (λ t. t.weight) total_additive ts us e

  pub met_same : (demand : P) (ts us : List T) → Same ts us → met_of kind weights demand ts ≡ met_of kind weights demand us
  met_same demand ts us e = sum_same k w (counted_for kind weights demand) (met_additive demand) ts us e
