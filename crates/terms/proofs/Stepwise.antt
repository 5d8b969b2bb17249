-- The combinations of a drawing are those found child by child, and so are their rows.
use Rattle.std.proofs.Common.{◌≡◌, ℕ, List, [], ◌∷◌, sym, refl, ap, ◌∙◌, subst}
use Rattle.kinds.specs.declared.performance.Performance
use Rattle.kinds.specs.declared.weight.Weight
use Rattle.terms.specs.declared.term.Term.{Term}
use Rattle.terms.specs.declared.term.Way.{Way}
use Rattle.terms.specs.Rows.{SameDistribution, RowOf}
use Rattle.terms.specs.Combinations.{each, term, joins, combined, combinations, bridged, bridges}
use Rattle.terms.specs.Drawings.{Drawing, part, joined, bridge, Children, one, more, PartList, only, and, followed_by, all_parts, all_parts_of, NoneTwice, NoPartTwice}
use Rattle.terms.specs.Enumeration.{picks, performance_of, joined_performance, weight_of, enumeration}
use Rattle.terms.specs.Stepwise.{WorkedOut, JoinedStepwise}
use Rattle.kinds.proofs.Lawful.{Kind, Weighing}
use Rattle.terms.proofs.Canonical.{canon, canon_row, row_unique}
use Rattle.terms.proofs.Combining.{combinations_keep, bridges_keep}
use Rattle.terms.proofs.Each.{each_cong, each_single, each_through}
use Rattle.terms.proofs.Looping.{row_same}
use Rattle.terms.proofs.Picks.{Apart, apart_followed, once_same, AgreeOn, agree_trans, agree_followed, over, over_left, over_right, picks_followed}

module _ {P W : Type 0} (kind : Performance.Ghosts P) (weights : Weight.Ghosts W) where
  abbrev T : Type 0
  T = Term P W

  abbrev Pick : Type 0
  Pick = ℕ → T

  -- the combinations found child by child
  module _ (states : ℕ → List T) where
    abbrev mutual
      pub stepwise : Drawing → List T
      stepwise (part n) = states n
      stepwise (joined way ds) = stepwise_of way ds
      stepwise (bridge a b c d e) = bridges kind weights (stepwise a) (stepwise b) (stepwise c) (stepwise d) (stepwise e)

      pub stepwise_of : Way → Children → List T
      stepwise_of way (one d) = stepwise d
      stepwise_of way (more ds d) = combinations weights (joins kind way) (stepwise_of way ds) (stepwise d)

  -- the combinations of terms that come one for each item
  combinations_through : {X Y : Type 0} (op : P → P → P) (xs : List X) (ys : List Y) (f : X → T) (g : Y → T) → combinations weights op (each xs λ x. f x ∷ []) (each ys λ y. g y ∷ []) ≡ each xs (λ x. each ys λ y. combined weights op (f x) (g y) ∷ [])
  combinations_through op xs ys f g =
      each_through xs f _
      ∙ each_cong xs _ _ (λ x. each_through ys g _)

  bridges_through : {A B C D E : Type 0} (qs : List A) (bs : List B) (cs : List C) (ds : List D) (es : List E) (a : A → T) (b : B → T) (c : C → T) (d : D → T) (e : E → T) → bridges kind weights (each qs λ x. a x ∷ []) (each bs λ x. b x ∷ []) (each cs λ x. c x ∷ []) (each ds λ x. d x ∷ []) (each es λ x. e x ∷ []) ≡ each qs (λ v. each bs λ w. each cs λ x. each ds λ y. each es λ z. bridged kind weights (a v) (b w) (c x) (d y) (e z) ∷ [])
  bridges_through qs bs cs ds es a b c d e =
      each_through qs a _
      ∙ each_cong qs _ _ (λ v. each_through bs b _
      ∙ each_cong bs _ _ (λ w. each_through cs c _
      ∙ each_cong cs _ _ (λ x. each_through ds d _
      ∙ each_cong ds _ _ (λ y. each_through es e _))))

  -- v asks of a pick only these parts
  abbrev Asks : {A : Type 0} → PartList → (Pick → A) → Type 0
  Asks ns v = (f g : Pick) → AgreeOn ns f g → v f ≡ v g

  pub weight_asks : (ns : PartList) → Asks ns (weight_of weights ns)
  weight_asks (only n) f g e = ap (λ (t : T). t.weight) e
  weight_asks (and n ns) f g e = ap (λ (t : T). weights.product t.weight (weight_of weights ns f)) e.0 ∙ ap (weights.product (g n).weight) (weight_asks ns f g e.1)

  mutual
    pub performance_asks : (d : Drawing) → Asks (all_parts d) (performance_of kind d)
    performance_asks (part n) f g e = ap (λ (t : T). t.performance) e
    performance_asks (joined way ds) f g e = joined_asks way ds f g e
    performance_asks (bridge a b c d e) f g h =
        let h₄ = agree_followed (followed_by (followed_by (followed_by (all_parts a) (all_parts b)) (all_parts c)) (all_parts d)) (all_parts e) f g h in
        let h₃ = agree_followed (followed_by (followed_by (all_parts a) (all_parts b)) (all_parts c)) (all_parts d) f g h₄.0 in
        let h₂ = agree_followed (followed_by (all_parts a) (all_parts b)) (all_parts c) f g h₃.0 in
        let h₁ = agree_followed (all_parts a) (all_parts b) f g h₂.0 in
        λ i. kind.bridge (performance_asks a f g h₁.0 i) (performance_asks b f g h₁.1 i) (performance_asks c f g h₂.1 i) (performance_asks d f g h₃.1 i) (performance_asks e f g h₄.1 i)

    joined_asks : (way : Way) (ds : Children) → Asks (all_parts_of ds) (joined_performance kind way ds)
    joined_asks way (one d) f g e = performance_asks d f g e
    joined_asks way (more ds d) f g e =
        let s = agree_followed (all_parts_of ds) (all_parts d) f g e in
        λ i. joins kind way (joined_asks way ds f g s.0 i) (performance_asks d f g s.1 i)

  module _ (states : ℕ → List T) (w : Weighing weights) where
    -- a value of the picks over some parts, with the picked weights
    abbrev listing : PartList → (Pick → P) → List T
    listing ns v = each (picks states ns) λ f. term (v f) (weight_of weights ns f) ∷ []

    weight_followed : (ns ms : PartList) (f : Pick) → weight_of weights (followed_by ns ms) f ≡ weights.product (weight_of weights ns f) (weight_of weights ms f)
    weight_followed (only n) ms f = refl
    weight_followed (and n ns) ms f = ap (weights.product (f n).weight) (weight_followed ns ms f) ∙ sym (w.product_assoc (f n).weight (weight_of weights ns f) (weight_of weights ms f))

    listing_followed : (op : P → P → P) (ns ms : PartList) (v u : Pick → P) → NoneTwice ns → Apart ns ms → Asks ns v → Asks ms u → listing (followed_by ns ms) (λ f. op (v f) (u f)) ≡ combinations weights op (listing ns v) (listing ms u)
    listing_followed op ns ms v u h k av au =
        picks_followed states ns ms h (λ f. term (op (v f) (u f)) (weight_of weights (followed_by ns ms) f) ∷ [])
        ∙ each_cong (picks states ns) _ _ (λ f. each_cong (picks states ms) _ _ (λ g. ap (λ t. t ∷ []) (point f g)))
        ∙ sym (combinations_through op (picks states ns) (picks states ms) (λ f. term (v f) (weight_of weights ns f)) (λ g. term (u g) (weight_of weights ms g)))
      where
        point : (f g : Pick) → ◌≡◌ {A = T} (term (op (v (over ns f g)) (u (over ns f g))) (weight_of weights (followed_by ns ms) (over ns f g))) (term (op (v f) (u g)) (weights.product (weight_of weights ns f) (weight_of weights ms g)))
        point f g =
            let l = over_left ns f g in
            let r = over_right ns ms f g k in
            let e = weight_followed ns ms (over ns f g) ∙ (λ i. weights.product (weight_asks ns (over ns f g) f l i) (weight_asks ms (over ns f g) g r i)) in
            λ i. term (op (av (over ns f g) f l i) (au (over ns f g) g r i)) (e i)

    -- five lists of parts, one behind the other
    module _ (qs bs cs ds es : PartList) where
      abbrev q1 : PartList
      q1 = followed_by qs bs

      abbrev q2 : PartList
      q2 = followed_by q1 cs

      abbrev q3 : PartList
      q3 = followed_by q2 ds

      abbrev q4 : PartList
      q4 = followed_by q3 es

      pub record Once : Type 0 where
        pub once_a : NoneTwice qs
        once_1 : NoneTwice q1
        once_2 : NoneTwice q2
        once_3 : NoneTwice q3
        pub once_b : NoneTwice bs
        pub once_c : NoneTwice cs
        pub once_d : NoneTwice ds
        pub once_e : NoneTwice es
        apart_b : Apart qs bs
        apart_c : Apart q1 cs
        apart_d : Apart q2 ds
        apart_e : Apart q3 es

      pub five_once : NoneTwice q4 → Once
      five_once h =
          let t₃ = apart_followed q3 es h in
          let t₂ = apart_followed q2 ds t₃.0 in
          let t₁ = apart_followed q1 cs t₂.0 in
          let t₀ = apart_followed qs bs t₁.0 in
          record {
            once_a = t₀.0;
            once_1 = t₁.0;
            once_2 = t₂.0;
            once_3 = t₃.0;
            once_b = t₀.1;
            once_c = t₁.1;
            once_d = t₂.1;
            once_e = t₃.1;
            apart_b = t₀.2;
            apart_c = t₁.2;
            apart_d = t₂.2;
            apart_e = t₃.2;
          }

      -- the five picks together
      abbrev all : Pick → Pick → Pick → Pick → Pick → Pick
      all f g h k l = over q3 (over q2 (over q1 (over qs f g) h) k) l

      picks_five : {X : Type 0} → Once → (to : Pick → List X) → each (picks states q4) to ≡ each (picks states qs) (λ f. each (picks states bs) λ g. each (picks states cs) λ h. each (picks states ds) λ k. each (picks states es) λ l. to (all f g h k l))
      picks_five o to =
          picks_followed states q3 es o.once_3 to
          ∙ picks_followed states q2 ds o.once_2 (λ f. each (picks states es) λ l. to (over q3 f l))
          ∙ picks_followed states q1 cs o.once_1 (λ f. each (picks states ds) λ k. each (picks states es) λ l. to (over q3 (over q2 f k) l))
          ∙ picks_followed states qs bs o.once_a (λ f. each (picks states cs) λ h. each (picks states ds) λ k. each (picks states es) λ l. to (over q3 (over q2 (over q1 f h) k) l))

      record Restores (f g h k l : Pick) : Type 0 where
        at_a : AgreeOn qs (all f g h k l) f
        at_b : AgreeOn bs (all f g h k l) g
        at_c : AgreeOn cs (all f g h k l) h
        at_d : AgreeOn ds (all f g h k l) k
        at_e : AgreeOn es (all f g h k l) l

      restores : Once → (f g h k l : Pick) → Restores f g h k l
      restores o f g h k l =
          let o1 = over qs f g in
          let o2 = over q1 o1 h in
          let o3 = over q2 o2 k in
          let o4 = over q3 o3 l in
          let s₃ = agree_followed q2 ds o4 o3 (over_left q3 o3 l) in
          let s₂ = agree_followed q1 cs o4 o2 (agree_trans q2 o4 o3 o2 s₃.0 (over_left q2 o2 k)) in
          let s₁ = agree_followed qs bs o4 o1 (agree_trans q1 o4 o2 o1 s₂.0 (over_left q1 o1 h)) in
          record {
            at_a = agree_trans qs o4 o1 f s₁.0 (over_left qs f g);
            at_b = agree_trans bs o4 o1 g s₁.1 (over_right qs bs f g o.apart_b);
            at_c = agree_trans cs o4 o2 h s₂.1 (over_right q1 cs o1 h o.apart_c);
            at_d = agree_trans ds o4 o3 k s₃.1 (over_right q2 ds o2 k o.apart_d);
            at_e = over_right q3 es o3 l o.apart_e;
          }

      weight_five : (f : Pick) → weight_of weights q4 f ≡ weights.product (weights.product (weights.product (weights.product (weight_of weights qs f) (weight_of weights bs f)) (weight_of weights cs f)) (weight_of weights ds f)) (weight_of weights es f)
      weight_five f =
          weight_followed q3 es f
          ∙ ap (λ z. weights.product z (weight_of weights es f)) (weight_followed q2 ds f
          ∙ ap (λ z. weights.product z (weight_of weights ds f)) (weight_followed q1 cs f
          ∙ ap (λ z. weights.product z (weight_of weights cs f)) (weight_followed qs bs f)))

      listing_bridged : (a b c d e : Pick → P) → Asks qs a → Asks bs b → Asks cs c → Asks ds d → Asks es e → Once → listing q4 (λ f. kind.bridge (a f) (b f) (c f) (d f) (e f)) ≡ bridges kind weights (listing qs a) (listing bs b) (listing cs c) (listing ds d) (listing es e)
      listing_bridged a b c d e aa ab ac ad ae o =
          picks_five o (λ f. term (kind.bridge (a f) (b f) (c f) (d f) (e f)) (weight_of weights q4 f) ∷ [])
          ∙ each_cong (picks states qs) _ _ (λ f. each_cong (picks states bs) _ _ (λ g. each_cong (picks states cs) _ _ (λ h. each_cong (picks states ds) _ _ (λ k. each_cong (picks states es) _ _ (λ l. ap (λ t. t ∷ []) (point f g h k l))))))
          ∙ sym (bridges_through (picks states qs) (picks states bs) (picks states cs) (picks states ds) (picks states es) (λ f. term (a f) (weight_of weights qs f)) (λ f. term (b f) (weight_of weights bs f)) (λ f. term (c f) (weight_of weights cs f)) (λ f. term (d f) (weight_of weights ds f)) (λ f. term (e f) (weight_of weights es f)))
        where
          point : (f g h k l : Pick) → ◌≡◌ {A = T} (term (kind.bridge (a (all f g h k l)) (b (all f g h k l)) (c (all f g h k l)) (d (all f g h k l)) (e (all f g h k l))) (weight_of weights q4 (all f g h k l))) (bridged kind weights (term (a f) (weight_of weights qs f)) (term (b g) (weight_of weights bs g)) (term (c h) (weight_of weights cs h)) (term (d k) (weight_of weights ds k)) (term (e l) (weight_of weights es l)))
          point f g h k l =
              let x = all f g h k l in
              let r = restores o f g h k l in
              let v = weight_five x ∙ (λ i. weights.product (weights.product (weights.product (weights.product (weight_asks qs x f r.at_a i) (weight_asks bs x g r.at_b i)) (weight_asks cs x h r.at_c i)) (weight_asks ds x k r.at_d i)) (weight_asks es x l r.at_e i)) in
              λ i. term (kind.bridge (aa x f r.at_a i) (ab x g r.at_b i) (ac x h r.at_c i) (ad x k r.at_d i) (ae x l r.at_e i)) (v i)

    mutual
      listed : (d : Drawing) → NoneTwice (all_parts d) → listing (all_parts d) (performance_of kind d) ≡ stepwise states d
      listed (part n) h = each_through (states n) (λ s _. s) (λ f. term (f n).performance (f n).weight ∷ []) ∙ each_single (states n)
      listed (joined way ds) h = listed_of way ds h
      listed (bridge a b c d e) h =
          let o = five_once (all_parts a) (all_parts b) (all_parts c) (all_parts d) (all_parts e) h in
          listing_bridged (all_parts a) (all_parts b) (all_parts c) (all_parts d) (all_parts e) (performance_of kind a) (performance_of kind b) (performance_of kind c) (performance_of kind d) (performance_of kind e) (performance_asks a) (performance_asks b) (performance_asks c) (performance_asks d) (performance_asks e) o
          ∙ (λ i. bridges kind weights (listed a o.once_a i) (listed b o.once_b i) (listed c o.once_c i) (listed d o.once_d i) (listed e o.once_e i))

      listed_of : (way : Way) (ds : Children) → NoneTwice (all_parts_of ds) → listing (all_parts_of ds) (joined_performance kind way ds) ≡ stepwise_of states way ds
      listed_of way (one d) h = listed d h
      listed_of way (more ds d) h =
          let s = apart_followed (all_parts_of ds) (all_parts d) h in
          listing_followed (joins kind way) (all_parts_of ds) (all_parts d) (joined_performance kind way ds) (performance_of kind d) s.0 s.2 (joined_asks way ds) (performance_asks d)
          ∙ (λ i. combinations weights (joins kind way) (listed_of way ds s.0 i) (listed d s.1 i))

    pub step_by_step : (d : Drawing) → NoPartTwice d → enumeration kind weights states d ≡ stepwise states d
    step_by_step d h = ap (λ ns. listing ns (performance_of kind d)) (once_same (all_parts d) h) ∙ listed d h

    -- rows

    module _ (k : Kind kind) where
      abbrev Same : List T → List T → Type 0
      Same = SameDistribution kind weights

      abbrev RowAt : Drawing → List T → Type 0
      RowAt d r = RowOf kind weights (stepwise states d) r

      mutual
        worked_row : (d : Drawing) (r : List T) → WorkedOut kind weights states d r → RowAt d r
        worked_row (part n) r h = h
        worked_row (joined way ds) r h = joined_row way ds r h
        worked_row (bridge a b c d e) r h =
            row_same k w _ _ r
            (bridges_keep k w _ h.0 _ h.1 _ h.2 _ h.3 _ h.4
            (worked_row a h.0 h.5).same (worked_row b h.1 h.6).same (worked_row c h.2 h.7).same (worked_row d h.3 h.8).same (worked_row e h.4 h.9).same)
            h.10

        joined_row : (way : Way) (ds : Children) (r : List T) → JoinedStepwise kind weights states way ds r → RowOf kind weights (stepwise_of states way ds) r
        joined_row way (one d) r h = worked_row d r h
        joined_row way (more ds d) r h =
            row_same k w _ _ r
            (combinations_keep k w (joins kind way) _ h.0 _ h.1 (joined_row way ds h.0 h.2).same (worked_row d h.1 h.3).same)
            h.4

      -- every drawing's row can be worked out so
      abbrev row : List T → List T
      row = canon kind weights

      flipped : (ts us : List T) → Same ts us → Same us ts
      flipped ts us e p = sym (e p)

      mutual
        works_out : (d : Drawing) → WorkedOut kind weights states d (row (stepwise states d))
        works_out (part n) = canon_row k w (states n)
        works_out (joined way ds) = joins_out way ds
        works_out (bridge a b c d e) = (
          row (stepwise states a),
          row (stepwise states b),
          row (stepwise states c),
          row (stepwise states d),
          row (stepwise states e),
          works_out a,
          works_out b,
          works_out c,
          works_out d,
          works_out e,
          row_same k w _ _ _ (flipped _ _ (bridges_keep k w _ _ _ _ _ _ _ _ _ _ (canon_row k w (stepwise states a)).same (canon_row k w (stepwise states b)).same (canon_row k w (stepwise states c)).same (canon_row k w (stepwise states d)).same (canon_row k w (stepwise states e)).same)) (canon_row k w _),
        )

        joins_out : (way : Way) (ds : Children) → JoinedStepwise kind weights states way ds (row (stepwise_of states way ds))
        joins_out way (one d) = works_out d
        joins_out way (more ds d) = (
          row (stepwise_of states way ds),
          row (stepwise states d),
          joins_out way ds,
          works_out d,
          row_same k w _ _ _ (flipped _ _ (combinations_keep k w (joins kind way) _ _ _ _ (canon_row k w (stepwise_of states way ds)).same (canon_row k w (stepwise states d)).same)) (canon_row k w _),
        )

      pub worked_is_row : (d : Drawing) → NoPartTwice d → (r : List T) → WorkedOut kind weights states d r → RowOf kind weights (enumeration kind weights states d) r
      worked_is_row d h r x = subst (λ ts. RowOf kind weights ts r) (sym (step_by_step d h)) (worked_row d r x)

      pub row_is_worked : (d : Drawing) → NoPartTwice d → (r : List T) → RowOf kind weights (enumeration kind weights states d) r → WorkedOut kind weights states d r
      row_is_worked d h r x =
          let y = subst (λ ts. RowOf kind weights ts r) (step_by_step d h) x in
          subst (WorkedOut kind weights states d) (row_unique k w (stepwise states d) _ r (canon_row k w (stepwise states d)) y) (works_out d)
