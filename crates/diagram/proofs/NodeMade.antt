-- A history that makes one more node fits the records with that node.
use Rattle.std.proofs.Common.{◌≡◌, ◌≢◌, ◌⊎◌, ◌↔◌, ℕ, ◌+◌, ◌<◌, ◌≤◌, List, [], ◌∷◌, length, take, Contains, Option, Some, None, sym, ◌∙◌, ap, refl, subst, inl, inr, arith, ◌==◌}
use Rattle.std.proofs.lemmas.Bool.{cases_Bool, true≢false}
use Rattle.std.specs.List.{list_any}
use Rattle.kinds.specs.declared.performance.Performance
use Rattle.kinds.specs.declared.weight.Weight
use Rattle.kinds.proofs.Lawful.{Kind, Weighing}
use Rattle.terms.specs.declared.term.Term.{Term}
use Rattle.terms.specs.Rows.{RowOf}
use Rattle.terms.specs.Drawings.{Drawing, part}
use Rattle.terms.specs.Enumeration.{but, enumeration}
use Rattle.terms.proofs.Children.{of_part}
use Rattle.terms.proofs.Beneath.{only_parts_beneath}
use Rattle.diagram.specs.declared.node.Form.{Form}
use Rattle.diagram.specs.declared.node.Form.TheVariants.{Part, Joined, Bridge}
use Rattle.diagram.specs.declared.node.Node.{Node}
use Rattle.diagram.specs.declared.node.Status.TheVariants.{UpToDate}
use Rattle.diagram.specs.declared.table.Table.{Table}
use Rattle.diagram.specs.Records.{Sound, node_at, form_at, status_at, size_at, children_at}
use Rattle.diagram.specs.Changes.{PartAdded, NodeJoined}
use Rattle.diagram.specs.Store.{places_of, row_at, RowPut}
use Rattle.diagram.specs.Histories.{Making, added, joined_from, bridged_from, drawn_by}
use Rattle.diagram.proofs.FoundByTest.{test_finds, found_by_test}
use Rattle.diagram.proofs.RecordsSound.{not_both}
use Rattle.diagram.proofs.Climbing.{child_is_below}
use Rattle.diagram.proofs.Drawn.{Drawn, drawn_form}
use Rattle.diagram.proofs.PartsOfChildren.{drawn_same}
use Rattle.diagram.proofs.PartsBelow.{beneath_within}
use Rattle.diagram.proofs.HistoryFits.{Matches, Holds, but_at, but_else}
use Rattle.diagram.proofs.Facts.{last_or_before}

pub matches_same : {P W : Type 0} (m : Making P W) (t t' : Table) (k : ℕ) → form_at t' k ≡ form_at t k → children_at t' k ≡ children_at t k → Matches m t k → Matches m t' k
matches_same (added states) t t' k f c h = (f ∙ h.0, c ∙ h.1)
matches_same (joined_from way named) t t' k f c h = (f ∙ h.0, c ∙ h.1)
matches_same (bridged_from a b c d e) t t' k f ch h = (f ∙ h.0, ch ∙ h.1)

drawn_as_made : {P W : Type 0} (m : Making P W) (t : Table) (k : ℕ) (drawing : ℕ → Drawing) → Matches m t k → drawn_by m k drawing ≡ drawn_form (form_at t k) k (children_at t k) drawing
drawn_as_made (added states) t k drawing h = sym (ap (λ f. drawn_form f k (children_at t k) drawing) h.0)
drawn_as_made (joined_from way []) t k drawing h = sym (ap (λ f. drawn_form f k (children_at t k) drawing) h.0 ∙ ap (λ cs. drawn_form (Joined way) k cs drawing) h.1)
drawn_as_made (joined_from way (c ∷ cs)) t k drawing h = sym (ap (λ f. drawn_form f k (children_at t k) drawing) h.0 ∙ ap (λ cs. drawn_form (Joined way) k cs drawing) h.1)
drawn_as_made (bridged_from a b c d e) t k drawing h = sym (ap (λ f. drawn_form f k (children_at t k) drawing) h.0 ∙ ap (λ cs. drawn_form Bridge k cs drawing) h.1)

-- one more node, so made
pub record Grown {P W : Type 0} (m : Making P W) (t t' : Table) : Type 0 where
  pub number : t'.count ≡ t.count + 1
  pub new : Matches m t' t.count
  pub forms : (j : ℕ) → j < t.count → form_at t' j ≡ form_at t j
  pub children : (j : ℕ) → j < t.count → children_at t' j ≡ children_at t j

module _ {P W : Type 0} (kind : Performance.Ghosts P) (weights : Weight.Ghosts W) (n : ℕ) (making : ℕ → Option (Making P W)) (drawing : ℕ → Drawing) (states : ℕ → List (Term P W)) (since : ℕ → Type 0) (t t' : Table) (s s' : List (Term P W)) (sound : Sound t) (sound' : Sound t') (h : Holds kind weights n making drawing states since t s) where
  module _ (m : Making P W) (g : Grown m t t') where
    abbrev making' : ℕ → Option (Making P W)
    making' = but t.count (Some m) making

    abbrev drawing' : ℕ → Drawing
    drawing' = but t.count (drawn_by m t.count drawing) drawing

    apart : {k : ℕ} → k < t.count → k ≢ t.count
    apart l e = omega (arith, l, e)

    upto : {k : ℕ} → k < t'.count → (k < t.count) ⊎ (k ≡ t.count)
    upto {k} l = last_or_before (subst (λ z. k < z) g.number l)

    made_so' : (k : ℕ) → k < t'.count → (x : Making P W) × (making' k ≡ Some x) × Matches x t' k
    made_so' k l = elim (upto l) [
      | inl b ↦
          let was = h.made_so k b in
          (was.0, but_else t.count (Some m) making k (apart b) ∙ was.1, matches_same was.0 t t' k (g.forms k b) (g.children k b) was.2)
      | inr e ↦ (m, ap making' e ∙ but_at t.count (Some m) making, subst (Matches m t') (sym e) g.new)
    ]

    none_past' : (k : ℕ) → t'.count ≤ k → making' k ≡ None
    none_past' k l = but_else t.count (Some m) making k (λ e. omega (arith, l, e, g.number)) ∙ h.none_past k (omega (arith, l, g.number))

    child_before : {k c : ℕ} → k < t'.count → Contains (children_at t' k) c → c < t.count
    child_before {k} {c} l i = let b = child_is_below sound' l i in omega (arith, b, l, g.number)

    kept_drawing : (k : ℕ) → k < t.count → drawing' k ≡ drawing k
    kept_drawing k b = but_else t.count (drawn_by m t.count drawing) drawing k (apart b)

    drawn' : Drawn t' drawing'
    drawn' k l = elim (upto l) [
      | inl b ↦
          kept_drawing k b
          ∙ h.drawn k b
          ∙ sym (ap (λ f. drawn_form f k (children_at t' k) drawing) (g.forms k b) ∙ ap (λ cs. drawn_form (form_at t k) k cs drawing) (g.children k b))
          ∙ as_now k l
      | inr e ↦
          subst (λ z. drawing' z ≡ drawn_form (form_at t' z) z (children_at t' z) drawing') (sym e)
          (but_at t.count (drawn_by m t.count drawing) drawing ∙ drawn_as_made m t' t.count drawing g.new ∙ as_now t.count (omega (arith, g.number)))
    ]
      where
        as_now : (j : ℕ) → j < t'.count → drawn_form (form_at t' j) j (children_at t' j) drawing ≡ drawn_form (form_at t' j) j (children_at t' j) drawing'
        as_now j l = drawn_same drawing drawing' (form_at t' j) j (children_at t' j) (λ c i. sym (kept_drawing c (child_before l i)))

  module _ (since' : ℕ → Type 0) (as_before : (k : ℕ) → since' k ↔ since k) where
    -- a part more: its row is that of its states
    pub holds_added :
        (laws : Kind kind) (weigh : Weighing weights) (given row : List (Term P W)) → RowOf kind weights given row →
        PartAdded t t' (length row) → RowPut t.count row s s' →
        Holds kind weights (n + 1) (but t.count (Some (added given)) making) (but t.count (part t.count) drawing) (but t.count given states) since' t' s'
    holds_added laws weigh given row is_row a put = record {
      count = a.number ∙ ap (λ z. z + 1) h.count;
      made_so = made_so' (added given) g;
      none_past = none_past' (added given) g;
      drawn = drawn' (added given) g;
      since_made = λ k c. let b = h.since_made k ((as_before k).0 c) in omega (arith, b, a.number);
      up_to_date = λ k l. elim (upto (added given) g l) [
        | inl b ↦ (
          λ c. elim ((h.up_to_date k b).0 (sym (status k b) ∙ c)) [ inl p ↦ inl (form k b ∙ p) | inr x ↦ inr ((as_before k).1 x) ],
          λ c. status k b ∙ (h.up_to_date k b).1 (elim c [ inl p ↦ inl (sym (form k b) ∙ p) | inr x ↦ inr ((as_before k).0 x) ]),
        )
        | inr e ↦ subst (λ z. (status_at t' z ≡ UpToDate) ↔ ((form_at t' z ≡ Part) ⊎ since' z)) (sym e) (λ _. inl (ap (λ (x : Node). x.form) a.record_made), λ _. ap (λ (x : Node). x.status) a.record_made)
      ];
      rows = λ k l c. elim (upto (added given) g l) [
        | inl b ↦
            let same = only_parts_beneath kind weights states' states (drawing k) (λ j x. but_else t.count given states j (apart (added given) g (beneath_within sound h.drawn k j b x).0)) in
            subst (RowOf kind weights (enumeration kind weights states' (drawing'' k))) (sym (row_kept k b))
            (subst (λ z. RowOf kind weights (enumeration kind weights states' z) (row_at t s k)) (sym (kept_drawing (added given) g k b))
            (subst (λ z. RowOf kind weights z (row_at t s k)) (sym same) (h.rows k b (sym (status k b) ∙ c))))
        | inr e ↦ subst (λ z. RowOf kind weights (enumeration kind weights states' (drawing'' z)) (row_at t' s' z)) (sym e) new_row
      ];
      full = λ k l c. elim (upto (added given) g l) [
        | inl b ↦ ap length (row_kept k b) ∙ h.full k b (sym (status k b) ∙ c) ∙ sym (ap (λ (x : Node). x.size) (a.others k b))
        | inr e ↦ subst (λ z. length (row_at t' s' z) ≡ size_at t' z) (sym e) (ap length row_now ∙ sym (ap (λ (x : Node). x.size) a.record_made))
      ];
    }
      where
        g : Grown (added given) t t'
        g = record { number = a.number; new = (ap (λ (x : Node). x.form) a.record_made, a.childless); forms = λ j b. ap (λ (x : Node). x.form) (a.others j b); children = a.children }

        states' : ℕ → List (Term P W)
        states' = but t.count given states

        drawing'' : ℕ → Drawing
        drawing'' = but t.count (part t.count) drawing

        status : (k : ℕ) → k < t.count → status_at t' k ≡ status_at t k
        status k b = ap (λ (x : Node). x.status) (a.others k b)

        form : (k : ℕ) → k < t.count → form_at t' k ≡ form_at t k
        form k b = ap (λ (x : Node). x.form) (a.others k b)

        row_kept : (k : ℕ) → k < t.count → row_at t' s' k ≡ row_at t s k
        row_kept k b =
            ap (λ z. take z (places_of k s')) (ap (λ (x : Node). x.size) (a.others k b))
            ∙ ap (take (size_at t k)) (put.others.places k (omega (arith, b, sound.few)) (apart (added given) g b))

        row_now : row_at t' s' t.count ≡ row
        row_now = ap (λ z. take z (places_of t.count s')) (ap (λ (x : Node). x.size) a.record_made) ∙ put.stands

        new_row : RowOf kind weights (enumeration kind weights states' (drawing'' t.count)) (row_at t' s' t.count)
        new_row =
            subst (RowOf kind weights (enumeration kind weights states' (drawing'' t.count))) (sym row_now)
            (subst (λ z. RowOf kind weights (enumeration kind weights states' z) row) (sym (but_at t.count (part t.count) drawing))
            (subst (λ z. RowOf kind weights z row) (sym (of_part kind weights weigh states' t.count ∙ but_at t.count given states)) is_row))

    -- a joined node more: it has no row yet, and nothing else has changed but the users of its children
    pub holds_joined :
        (m : Making P W) (form : Form) (named : List ℕ) → form ≢ Part → (Matches m t' t.count) → NodeJoined t t' form named →
        Holds kind weights (n + 1) (but t.count (Some m) making) (but t.count (drawn_by m t.count drawing) drawing) states since' t' s
    holds_joined m form named joined is_made a = record {
      count = a.number ∙ ap (λ z. z + 1) h.count;
      made_so = made_so' m g;
      none_past = none_past' m g;
      drawn = drawn' m g;
      since_made = λ k c. let b = h.since_made k ((as_before k).0 c) in omega (arith, b, a.number);
      up_to_date = λ k l. elim (upto m g l) [
        | inl b ↦ (
          λ c. elim ((h.up_to_date k b).0 (sym (seen (λ (x : Node). x.status) (λ _ _. refl) k b) ∙ c)) [ inl p ↦ inl (seen (λ (x : Node). x.form) (λ _ _. refl) k b ∙ p) | inr x ↦ inr ((as_before k).1 x) ],
          λ c. seen (λ (x : Node). x.status) (λ _ _. refl) k b ∙ (h.up_to_date k b).1 (elim c [ inl p ↦ inl (sym (seen (λ (x : Node). x.form) (λ _ _. refl) k b) ∙ p) | inr x ↦ inr ((as_before k).0 x) ]),
        )
        | inr e ↦ subst (λ z. (status_at t' z ≡ UpToDate) ↔ ((form_at t' z ≡ Part) ⊎ since' z)) (sym e) (
          (λ c. absurd (not_both (ap (λ (x : Node). x.status) a.record_made) c)),
          (λ c. elim c [
            | inl p ↦ absurd (joined (sym (ap (λ (x : Node). x.form) a.record_made) ∙ p))
            | inr x ↦ let b = h.since_made t.count ((as_before t.count).0 x) in absurd (omega (arith, b))
          ]),
        )
      ];
      rows = λ k l c. elim (upto m g l) [
        | inl b ↦
            subst (RowOf kind weights (enumeration kind weights states (but t.count (drawn_by m t.count drawing) drawing k))) (sym (row_kept k b))
            (subst (λ z. RowOf kind weights (enumeration kind weights states z) (row_at t s k)) (sym (kept_drawing m g k b)) (h.rows k b (sym (seen (λ (x : Node). x.status) (λ _ _. refl) k b) ∙ c)))
        | inr e ↦ absurd (not_both (ap (λ (x : Node). x.status) a.record_made) (subst (λ z. status_at t' z ≡ UpToDate) e c))
      ];
      full = λ k l c. elim (upto m g l) [
        | inl b ↦ ap length (row_kept k b) ∙ h.full k b (sym (seen (λ (x : Node). x.status) (λ _ _. refl) k b) ∙ c) ∙ sym (seen (λ (x : Node). x.size) (λ _ _. refl) k b)
        | inr e ↦ absurd (not_both (ap (λ (x : Node). x.status) a.record_made) (subst (λ z. status_at t' z ≡ UpToDate) e c))
      ];
    }
      where
        seen : {A : Type 0} (f : Node → A) → ((x : Node) (u : Option ℕ) → f (record x { user = u }) ≡ f x) → (k : ℕ) → k < t.count → f (node_at t' k) ≡ f (node_at t k)
        seen f blind k b = elim (cases_Bool (list_any (λ c. k == c) named)) [
          | inl e ↦ ap f (a.used k b (found_by_test k named e)) ∙ blind (node_at t k) _
          | inr e ↦ ap f (a.others k b (λ i. true≢false (sym (test_finds k named i) ∙ e)))
        ]

        g : Grown m t t'
        g = record { number = a.number; new = is_made; forms = λ j b. seen (λ (x : Node). x.form) (λ _ _. refl) j b; children = a.children }

        row_kept : (k : ℕ) → k < t.count → row_at t' s k ≡ row_at t s k
        row_kept k b = ap (λ z. take z (places_of k s)) (seen (λ (x : Node). x.size) (λ _ _. refl) k b)
