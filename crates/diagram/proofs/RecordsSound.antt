-- What holds of the records at all times is kept by each change.
use Rattle.std.proofs.Common.{◌≡◌, ◌≢◌, ◌⊎◌, ℕ, ◌<◌, ◌≤◌, List, Contains, All, AllPairs, length, Some, None, sym, ◌∙◌, ap, refl, subst, inl, inr, arith, Bool, true, false, ◌==◌, Option, is_some}
use Rattle.std.specs.List.{list_any}
use Rattle.std.proofs.lemmas.Bool.{true≢false, false≢true, cases_eq, cases_Bool}
use Rattle.std.proofs.lemmas.List.Elements.{All-contains}
use Rattle.diagram.specs.declared.limits.TheConstants.{NODES, FEWEST_CHILDREN, CHILDREN, TERMS}
use Rattle.diagram.specs.declared.node.Form.{Form}
use Rattle.diagram.specs.declared.node.Form.TheVariants.{Part, Joined, Bridge}
use Rattle.diagram.specs.declared.node.Status.{Status}
use Rattle.diagram.specs.declared.node.Status.TheVariants.{Stale, UpToDate}
use Rattle.diagram.specs.declared.node.Node.{Node}
use Rattle.diagram.specs.declared.table.Table.{Table}
use Rattle.diagram.specs.Nodes.{Takes}
use Rattle.diagram.specs.Records.{Fitting, Sound, SoundAt, node_at, form_at, status_at, size_at, Uses, Names, children_at, NodeBeneath, child, deeper}
use Rattle.diagram.specs.Changes.{PartAdded, NodeJoined, PartRestated, NodeCollected}
use Rattle.diagram.specs.Calls.{Free}
use Rattle.diagram.proofs.FoundByTest.{test_finds, found_by_test}
use Rattle.diagram.proofs.Climbing.{child_is_below}
use Rattle.diagram.proofs.Facts.{some_same, last_or_before, user_of, is_part}

abbrev is_stale : Status → Bool
is_stale Stale = true
is_stale UpToDate = false

pub not_both : {x : Status} → x ≡ Stale → x ≡ UpToDate → ⊥
not_both p q = true≢false (ap is_stale (sym p ∙ q))

pub up_to_date_unless : (x : Status) → ¬ (x ≡ Stale) → x ≡ UpToDate
up_to_date_unless Stale n = absurd (n refl)
up_to_date_unless UpToDate n = refl

not_none : {u : ℕ} → None ≡ Some u → ⊥
not_none e = false≢true (ap is_some e)

fitting_same : {f f' : Form} {x x' : Status} {n n' : ℕ} {cs cs' : List ℕ} {k : ℕ} → f' ≡ f → x' ≡ x → n' ≡ n → cs' ≡ cs → Fitting f x n cs k → Fitting f' x' n' cs' k
fitting_same {f} {f'} {x} {x'} {n} {n'} {cs} {cs'} {k} ef ex en ec o =
    subst (λ c. Fitting f' x' n' c k) (sym ec) (subst (λ m. Fitting f' x' m cs k) (sym en) (subst (λ y. Fitting f' y n cs k) (sym ex) (subst (λ g. Fitting g x n cs k) (sym ef) o)))

names_same : {cs ds : List ℕ} (k : ℕ) → cs ≡ ds → list_any (λ c. k == c) cs ≡ true → list_any (λ c. k == c) ds ≡ true
names_same k e h = subst (λ z. list_any (λ c. k == c) z ≡ true) e h

module _ {t t' : Table} (s : Sound t) where
  pub added_keeps : {size : ℕ} → t.count < NODES → size ≤ TERMS → PartAdded t t' size → All (λ n. n ≤ CHILDREN) t'.arities → Sound t'
  added_keeps {size} room small c short = record {
    few = omega (arith, c.number, room);
    short = short;
    at = λ k h. elim (last_or_before (subst (λ n. k < n) c.number h)) [ inl l ↦ before k l | inr e ↦ subst (SoundAt t') (sym e) new ];
  }
    where
      before : (k : ℕ) → k < t.count → SoundAt t' k
      before k h =
          let o = s.at k h in
          let uses : (u : ℕ) → Uses t' k u → Uses t k u = λ u e. ap user_of (sym (c.others k h)) ∙ e in
          record {
            own = fitting_same (ap (λ n. n.form) (c.others k h)) (ap (λ n. n.status) (c.others k h)) (ap (λ n. n.size) (c.others k h)) (c.children k h) o.own;
            children_used = λ v e.
                let named = names_same v (c.children k h) e in
                let low = child_is_below s h (found_by_test v (children_at t k) named) in
                ap user_of (c.others v (omega (arith, low, h))) ∙ o.children_used v named;
            user_above = λ u e. ((o.user_above u (uses u e)).0, omega (arith, (o.user_above u (uses u e)).1, c.number));
            user_names = λ u e. names_same k (sym (c.children u (o.user_above u (uses u e)).1)) (o.user_names u (uses u e));
            stale_to_top = λ u e x. ap (λ n. n.status) (c.others u (o.user_above u (uses u e)).1) ∙ o.stale_to_top u (uses u e) (ap (λ n. n.status) (sym (c.others k h)) ∙ x);
          }

      new : SoundAt t' t.count
      new = record {
        own = fitting_same (ap (λ n. n.form) c.record_made) (ap (λ n. n.status) c.record_made) (ap (λ n. n.size) c.record_made) c.childless
            (record { sized = small; part_is_up_to_date = λ _. refl; part_is_alone = λ _. refl; joins_two_or_more = λ way e. absurd (true≢false (ap is_part e)); bridges_five = λ e. absurd (true≢false (ap is_part e)); children_below = λ k d h. absurd (omega (arith, h)); children_apart = λ i j d l h. absurd (omega (arith, h)) });
        children_used = λ v e. absurd (false≢true (names_same v c.childless e));
        user_above = λ u e. absurd (not_none (ap user_of (sym c.record_made) ∙ e));
        user_names = λ u e. absurd (not_none (ap user_of (sym c.record_made) ∙ e));
        stale_to_top = λ u e. absurd (not_none (ap user_of (sym c.record_made) ∙ e));
      }

  -- children get the new node as their user, and had none
  pub joined_keeps : {form : Form} {named : List ℕ} → t.count < NODES → Takes form (length named) × (form ≢ Part) → All (λ c. c < t.count) named → All (Free t) named → AllPairs ◌≢◌ named →
      NodeJoined t t' form named → All (λ n. n ≤ CHILDREN) t'.arities → Sound t'
  joined_keeps {form} {named} room takes nodes free once c short = record {
    few = omega (arith, c.number, room);
    short = short;
    at = λ k h. elim (last_or_before (subst (λ n. k < n) c.number h)) [ inl l ↦ before k l | inr e ↦ subst (SoundAt t') (sym e) new ];
  }
    where
      -- the record of a node made before, child or not
      either : {A : Type 0} (f : Node → A) (k : ℕ) → k < t.count → ((n : Node) (u : Option ℕ) → f (record n { user = u }) ≡ f n) → f (node_at t' k) ≡ f (node_at t k)
      either f k h blind = elim (cases_Bool (list_any (λ c. k == c) named)) [
        | inl e ↦ ap f (c.used k h (found_by_test k named e)) ∙ blind (node_at t k) _
        | inr e ↦ ap f (c.others k h (λ i. true≢false (sym (test_finds k named i) ∙ e)))
      ]

      form_kept : (k : ℕ) → k < t.count → form_at t' k ≡ form_at t k
      form_kept k h = either (λ n. n.form) k h (λ _ _. refl)

      status_kept : (k : ℕ) → k < t.count → status_at t' k ≡ status_at t k
      status_kept k h = either (λ n. n.status) k h (λ _ _. refl)

      size_kept : (k : ℕ) → k < t.count → size_at t' k ≡ size_at t k
      size_kept k h = either (λ n. n.size) k h (λ _ _. refl)

      -- a user is the new node or was one before
      used : (k u : ℕ) → k < t.count → Uses t' k u → ((Contains named k) × (t.count ≡ u)) ⊎ Uses t k u
      used k u h e = elim (cases_Bool (list_any (λ c. k == c) named)) [
        | inl i ↦ let at = found_by_test k named i in inl (at, some_same (ap user_of (sym (c.used k h at)) ∙ e))
        | inr i ↦ inr (ap user_of (sym (c.others k h (λ at. true≢false (sym (test_finds k named at) ∙ i)))) ∙ e)
      ]

      before : (k : ℕ) → k < t.count → SoundAt t' k
      before k h =
          let o = s.at k h in
          record {
            own = fitting_same (form_kept k h) (status_kept k h) (size_kept k h) (c.children k h) o.own;
            children_used = λ v e.
                let named_by = names_same v (c.children k h) e in
                let low = child_is_below s h (found_by_test v (children_at t k) named_by) in
                let has_user = o.children_used v named_by in
                ap user_of (c.others v (omega (arith, low, h)) (λ i. All-contains (Free t) named v free i k has_user)) ∙ has_user;
            user_above = λ u e. elim (used k u h e) [
              | inl i ↦ (omega (arith, h, i.1), omega (arith, c.number, i.1))
              | inr i ↦ ((o.user_above u i).0, omega (arith, (o.user_above u i).1, c.number))
            ];
            user_names = λ u e. elim (used k u h e) [
              | inl i ↦ subst (λ z. Names t' z k) i.1 (names_same k (sym c.names_them) (test_finds k named i.0))
              | inr i ↦ names_same k (sym (c.children u (o.user_above u i).1)) (o.user_names u i)
            ];
            stale_to_top = λ u e x. elim (used k u h e) [
              | inl i ↦ subst (λ z. status_at t' z ≡ Stale) i.1 (ap (λ n. n.status) c.record_made)
              | inr i ↦ status_kept u (o.user_above u i).1 ∙ o.stale_to_top u i (sym (status_kept k h) ∙ x)
            ];
          }

      new : SoundAt t' t.count
      new = record {
        own = fitting_same (ap (λ n. n.form) c.record_made) (ap (λ n. n.status) c.record_made) (ap (λ n. n.size) c.record_made) c.names_them
            (record {
              sized = omega arith;
              part_is_up_to_date = λ e. absurd (takes.1 e);
              part_is_alone = λ e. absurd (takes.1 e);
              joins_two_or_more = λ way e. (subst (λ f. Takes f (length named)) e takes.0).0;
              bridges_five = λ e. subst (λ f. Takes f (length named)) e takes.0;
              children_below = nodes;
              children_apart = once;
            });
        children_used = λ v e.
            let at = found_by_test v named (names_same v c.names_them e) in
            ap user_of (c.used v (All-contains (λ c. c < t.count) named v nodes at) at);
        user_above = λ u e. absurd (not_none (ap user_of (sym c.record_made) ∙ e));
        user_names = λ u e. absurd (not_none (ap user_of (sym c.record_made) ∙ e));
        stale_to_top = λ u e. absurd (not_none (ap user_of (sym c.record_made) ∙ e));
      }

  -- what uses a node above the part is above the part too
  pub restated_keeps : {k size : ℕ} → form_at t k ≡ Part → k < t.count → size ≤ TERMS → PartRestated t t' k size → All (λ n. n ≤ CHILDREN) t'.arities → Sound t'
  restated_keeps {k} {size} part_at low small c short = record {
    few = omega (arith, c.number, s.few);
    short = short;
    at = λ j h. here j (subst (λ n. j < n) c.number h);
  }
    where
      -- a part is beneath nothing that is a part
      no_part_above : (j : ℕ) → j < t.count → form_at t j ≡ Part → ¬ NodeBeneath (children_at t) j k
      no_part_above j h p (child i) = absurd (omega (arith, i.1, (s.at j h).own.part_is_alone p))
      no_part_above j h p (deeper i b) = absurd (omega (arith, i.1, (s.at j h).own.part_is_alone p))

      here : (j : ℕ) → j < t.count → SoundAt t' j
      here j h =
          let o = s.at j h in
          let uses : (u : ℕ) → Uses t' j u → Uses t j u = λ u e. sym (c.users j h) ∙ e in
          record {
            own = record {
              sized = elim (cases_eq j k) [
                | inl e ↦ subst (λ z. size_at t' z ≤ TERMS) (sym e) (omega (arith, c.resized, small))
                | inr n ↦ omega (arith, c.sizes j h n, o.own.sized)
              ];
              part_is_up_to_date = λ p.
                  let was = sym (c.forms j h) ∙ p in
                  up_to_date_unless (status_at t' j) (λ x. elim ((c.stale j h).0 x) [
                    | inl y ↦ not_both y (o.own.part_is_up_to_date was)
                    | inr b ↦ no_part_above j h was b
                  ]);
              part_is_alone = λ p. ap length (c.children j h) ∙ o.own.part_is_alone (sym (c.forms j h) ∙ p);
              joins_two_or_more = λ way p. subst (λ z. FEWEST_CHILDREN ≤ length z) (sym (c.children j h)) (o.own.joins_two_or_more way (sym (c.forms j h) ∙ p));
              bridges_five = λ p. ap length (c.children j h) ∙ o.own.bridges_five (sym (c.forms j h) ∙ p);
              children_below = subst (All (λ c. c < j)) (sym (c.children j h)) o.own.children_below;
              children_apart = subst (AllPairs ◌≢◌) (sym (c.children j h)) o.own.children_apart;
            };
            children_used = λ v e.
                let named = names_same v (c.children j h) e in
                let below = child_is_below s h (found_by_test v (children_at t j) named) in
                c.users v (omega (arith, below, h)) ∙ o.children_used v named;
            user_above = λ u e. ((o.user_above u (uses u e)).0, omega (arith, (o.user_above u (uses u e)).1, c.number));
            user_names = λ u e. names_same j (sym (c.children u (o.user_above u (uses u e)).1)) (o.user_names u (uses u e));
            stale_to_top = λ u e x.
                let high = (o.user_above u (uses u e)).1 in
                (c.stale u high).1 (elim ((c.stale j h).0 x) [
                  | inl y ↦ inl (o.stale_to_top u (uses u e) y)
                  | inr b ↦ inr (deeper (found_by_test j (children_at t u) (o.user_names u (uses u e))) b)
                ]);
          }

  -- no child of the collected node is stale
  pub collected_keeps : {k size : ℕ} → k < t.count → form_at t k ≢ Part → All (λ c. status_at t c ≡ UpToDate) (children_at t k) → size ≤ TERMS →
      NodeCollected t t' k size → All (λ n. n ≤ CHILDREN) t'.arities → Sound t'
  collected_keeps {k} {size} low joined current small c short = record {
    few = omega (arith, c.number, s.few);
    short = short;
    at = λ j h. here j (subst (λ n. j < n) c.number h);
  }
    where
      either : {A : Type 0} (f : Node → A) (j : ℕ) → j < t.count → f (record (node_at t k) { status = UpToDate; size = size }) ≡ f (node_at t k) → f (node_at t' j) ≡ f (node_at t j)
      either f j h blind = elim (cases_eq j k) [
        | inl e ↦ subst (λ z. f (node_at t' z) ≡ f (node_at t z)) (sym e) (ap f c.collected ∙ blind)
        | inr n ↦ ap f (c.others j h n)
      ]

      user_kept : (j : ℕ) → j < t.count → (node_at t' j).user ≡ (node_at t j).user
      user_kept j h = either user_of j h refl

      form_kept : (j : ℕ) → j < t.count → form_at t' j ≡ form_at t j
      form_kept j h = either (λ n. n.form) j h refl

      here : (j : ℕ) → j < t.count → SoundAt t' j
      here j h =
          let o = s.at j h in
          let uses : (u : ℕ) → Uses t' j u → Uses t j u = λ u e. sym (user_kept j h) ∙ e in
          record {
            own = record {
              sized = elim (cases_eq j k) [
                | inl e ↦ subst (λ z. size_at t' z ≤ TERMS) (sym e) (omega (arith, ap (λ n. n.size) c.collected, small))
                | inr n ↦ omega (arith, ap (λ n. n.size) (c.others j h n), o.own.sized)
              ];
              part_is_up_to_date = λ p. elim (cases_eq j k) [
                | inl e ↦ absurd (joined (subst (λ z. form_at t z ≡ Part) e (sym (form_kept j h) ∙ p)))
                | inr n ↦ ap (λ n. n.status) (c.others j h n) ∙ o.own.part_is_up_to_date (sym (form_kept j h) ∙ p)
              ];
              part_is_alone = λ p. ap length (c.children j h) ∙ o.own.part_is_alone (sym (form_kept j h) ∙ p);
              joins_two_or_more = λ way p. subst (λ z. FEWEST_CHILDREN ≤ length z) (sym (c.children j h)) (o.own.joins_two_or_more way (sym (form_kept j h) ∙ p));
              bridges_five = λ p. ap length (c.children j h) ∙ o.own.bridges_five (sym (form_kept j h) ∙ p);
              children_below = subst (All (λ c. c < j)) (sym (c.children j h)) o.own.children_below;
              children_apart = subst (AllPairs ◌≢◌) (sym (c.children j h)) o.own.children_apart;
            };
            children_used = λ v e.
                let named = names_same v (c.children j h) e in
                let below = child_is_below s h (found_by_test v (children_at t j) named) in
                user_kept v (omega (arith, below, h)) ∙ o.children_used v named;
            user_above = λ u e. ((o.user_above u (uses u e)).0, omega (arith, (o.user_above u (uses u e)).1, c.number));
            user_names = λ u e. names_same j (sym (c.children u (o.user_above u (uses u e)).1)) (o.user_names u (uses u e));
            stale_to_top = λ u e x.
                let high = (o.user_above u (uses u e)).1 in
                let was : ¬ (j ≡ k) → status_at t j ≡ Stale = λ n. sym (ap (λ n. n.status) (c.others j h n)) ∙ x in
                elim (cases_eq j k) [
                  | inl q ↦ absurd (not_both (subst (λ z. status_at t' z ≡ Stale) q x) (ap (λ n. n.status) c.collected))
                  | inr n ↦ elim (cases_eq u k) [
                    | inl q ↦
                        let i = subst (λ z. Contains (children_at t z) j) q (found_by_test j (children_at t u) (o.user_names u (uses u e))) in
                        absurd (not_both (was n) (All-contains (λ c. status_at t c ≡ UpToDate) (children_at t k) j current i))
                    | inr m ↦ ap (λ n. n.status) (c.others u high m) ∙ o.stale_to_top u (uses u e) (was n)
                  ]
                ];
          }

-- no form takes more children than a node has places for
pub takes_few : (form : Form) (n : ℕ) → Takes form n → n ≤ CHILDREN
takes_few Part n h = omega (arith, h)
takes_few (Joined way) n h = h.1
takes_few Bridge n h = omega (arith, h)
