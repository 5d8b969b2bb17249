-- A history that restates a part or collects a node fits the records after it.
use Rattle.std.proofs.Common.{◌≡◌, ◌≢◌, ◌⊎◌, ◌↔◌, ℕ, ◌<◌, List, length, take, Option, Some, sym, ◌∙◌, ap, refl, subst, inl, inr, arith}
use Rattle.std.proofs.lemmas.Bool.{cases_eq}
use Rattle.kinds.specs.declared.performance.Performance
use Rattle.kinds.specs.declared.weight.Weight
use Rattle.kinds.proofs.Lawful.{Weighing}
use Rattle.terms.specs.declared.term.Term.{Term}
use Rattle.terms.specs.Rows.{RowOf}
use Rattle.terms.specs.Drawings.{Drawing, Beneath as StandsIn}
use Rattle.terms.specs.Enumeration.{but, enumeration}
use Rattle.terms.proofs.Children.{of_part}
use Rattle.terms.proofs.Beneath.{only_parts_beneath}
use Rattle.diagram.specs.declared.node.Form.TheVariants.{Part}
use Rattle.diagram.specs.declared.node.Status.TheVariants.{UpToDate}
use Rattle.diagram.specs.declared.node.Node.{Node}
use Rattle.diagram.specs.declared.table.Table.{Table}
use Rattle.diagram.specs.Records.{Sound, form_at, status_at, size_at, children_at}
use Rattle.diagram.specs.Changes.{PartRestated, NodeCollected}
use Rattle.diagram.specs.Store.{places_of, row_at, RowPut}
use Rattle.diagram.specs.Histories.{Making}
use Rattle.diagram.proofs.RecordsSound.{not_both, up_to_date_unless}
use Rattle.diagram.proofs.Climbing.{beneath_from_above, above_from_beneath}
use Rattle.diagram.proofs.Drawn.{Drawn, drawn_form}
use Rattle.diagram.proofs.PartsBelow.{part_or_not, beneath_within, within_beneath, part_drawn}
use Rattle.diagram.proofs.HistoryFits.{Matches, Holds, but_at, but_else}
use Rattle.diagram.proofs.NodeMade.{matches_same}

module _ {P W : Type 0} (kind : Performance.Ghosts P) (weights : Weight.Ghosts W) (n : ℕ) (making : ℕ → Option (Making P W)) (drawing : ℕ → Drawing) (states : ℕ → List (Term P W)) (since : ℕ → Type 0) (t t' : Table) (s s' : List (Term P W)) (sound : Sound t) (sound' : Sound t') (h : Holds kind weights n making drawing states since t s) where
  module _ (number : t'.count ≡ t.count) (forms : (j : ℕ) → j < t.count → form_at t' j ≡ form_at t j) (children : (j : ℕ) → j < t.count → children_at t' j ≡ children_at t j) where
    lower : {k : ℕ} → k < t'.count → k < t.count
    lower {k} l = subst (λ z. k < z) number l

    made_so' : (k : ℕ) → k < t'.count → (m : Making P W) × (making k ≡ Some m) × Matches m t' k
    made_so' k l =
        let was = h.made_so k (lower l) in
        (was.0, was.1, matches_same was.0 t t' k (forms k (lower l)) (children k (lower l)) was.2)

    drawn' : Drawn t' drawing
    drawn' k l =
        h.drawn k (lower l)
        ∙ sym (ap (λ f. drawn_form f k (children_at t' k) drawing) (forms k (lower l)) ∙ ap (λ cs. drawn_form (form_at t k) k cs drawing) (children k (lower l)))

  module _ (p : ℕ) (low : p < t.count) where
    -- new states of part p: what p stands in is no longer collected since
    pub holds_restated :
        (weigh : Weighing weights) (given row : List (Term P W)) → RowOf kind weights given row → form_at t p ≡ Part →
        PartRestated t t' p (length row) → RowPut p row s s' → (since' : ℕ → Type 0) → ((k : ℕ) → k < t.count → since' k ↔ (since k × ¬ StandsIn p (drawing k))) → ((k : ℕ) → since' k → since k) →
        Holds kind weights n making drawing (but p given states) since' t' s'
    holds_restated weigh given row is_row is_a_part c put since' spared still = record {
      count = c.number ∙ h.count;
      made_so = made_so' c.number c.forms c.children;
      none_past = λ k l. h.none_past k (omega (arith, l, c.number));
      drawn = drawn' c.number c.forms c.children;
      since_made = λ k x. let b = h.since_made k (still k x) in omega (arith, b, c.number);
      up_to_date = λ k l. now k (at l);
      rows = λ k l x. elim (cases_eq k p) [
        | inl e ↦ subst (λ z. RowOf kind weights (enumeration kind weights states' (drawing z)) (row_at t' s' z)) (sym e) new_row
        | inr apart ↦
            let b = at l in
            let free = stands_not k b apart x in
            let same = only_parts_beneath kind weights states' states (drawing k) (λ j i. but_else p given states j (λ e. free (subst (λ z. StandsIn z (drawing k)) e i))) in
            subst (RowOf kind weights (enumeration kind weights states' (drawing k))) (sym (row_kept k b apart))
            (subst (λ z. RowOf kind weights z (row_at t s k)) (sym same) (h.rows k b (was_up_to_date k b x)))
      ];
      full = λ k l x. elim (cases_eq k p) [
        | inl e ↦ subst (λ z. length (row_at t' s' z) ≡ size_at t' z) (sym e) (ap length row_now ∙ sym c.resized)
        | inr apart ↦ ap length (row_kept k (at l) apart) ∙ h.full k (at l) (was_up_to_date k (at l) x) ∙ sym (c.sizes k (at l) apart)
      ];
    }
      where
        at : {k : ℕ} → k < t'.count → k < t.count
        at {k} l = subst (λ z. k < z) c.number l

        states' : ℕ → List (Term P W)
        states' = but p given states

        was_up_to_date : (k : ℕ) → k < t.count → status_at t' k ≡ UpToDate → status_at t k ≡ UpToDate
        was_up_to_date k b x = up_to_date_unless (status_at t k) (λ y. not_both ((c.stale k b).1 (inl y)) x)

        -- a node that is up to date does not have p in it, but p itself
        stands_not : (k : ℕ) → k < t.count → k ≢ p → status_at t' k ≡ UpToDate → ¬ StandsIn p (drawing k)
        stands_not k b apart x i = elim (beneath_within sound h.drawn k p b i).2 [
          | inl e ↦ apart (sym e)
          | inr a ↦ not_both ((c.stale k b).1 (inr (beneath_from_above sound low a))) x
        ]

        now : (k : ℕ) → k < t.count → (status_at t' k ≡ UpToDate) ↔ ((form_at t' k ≡ Part) ⊎ since' k)
        now k b = elim (part_or_not (form_at t k)) [
          | inl y ↦ (λ x. inl (c.forms k b ∙ y), λ x. (sound'.at k (omega (arith, b, c.number))).own.part_is_up_to_date (c.forms k b ∙ y))
          | inr other ↦ (
            (λ x. elim ((h.up_to_date k b).0 (was_up_to_date k b x)) [
              | inl y ↦ inl (c.forms k b ∙ y)
              | inr z ↦ inr ((spared k b).1 (z, stands_not k b (λ e. other (subst (λ z. form_at t z ≡ Part) (sym e) is_a_part)) x))
            ]),
            (λ x. elim x [
              | inl y ↦ absurd (other (sym (c.forms k b) ∙ y))
              | inr z ↦
                  let was = (spared k b).0 z in
                  up_to_date_unless (status_at t' k) (λ y. elim ((c.stale k b).0 y) [
                    | inl w ↦ not_both w ((h.up_to_date k b).1 (inr was.0))
                    | inr w ↦ was.1 (within_beneath sound h.drawn k p b low is_a_part (inr (above_from_beneath sound b w)))
                  ])
            ]),
          )
        ]

        row_kept : (k : ℕ) → k < t.count → k ≢ p → row_at t' s' k ≡ row_at t s k
        row_kept k b apart =
            ap (λ z. take z (places_of k s')) (c.sizes k b apart)
            ∙ ap (take (size_at t k)) (put.others.places k (omega (arith, b, sound.few)) apart)

        row_now : row_at t' s' p ≡ row
        row_now = ap (λ z. take z (places_of p s')) c.resized ∙ put.stands

        new_row : RowOf kind weights (enumeration kind weights states' (drawing p)) (row_at t' s' p)
        new_row =
            subst (RowOf kind weights (enumeration kind weights states' (drawing p))) (sym row_now)
            (subst (λ z. RowOf kind weights (enumeration kind weights states' z) row) (sym (part_drawn sound h.drawn p low is_a_part))
            (subst (λ z. RowOf kind weights z row) (sym (of_part kind weights weigh states' p ∙ but_at p given states)) is_row))

    -- node p is collected
    pub holds_collected :
        (row : List (Term P W)) → RowOf kind weights (enumeration kind weights states (drawing p)) row → form_at t p ≢ Part →
        NodeCollected t t' p (length row) → RowPut p row s s' → (since' : ℕ → Type 0) → ((k : ℕ) → k < t.count → since' k ↔ ((k ≡ p) ⊎ since k)) → ((k : ℕ) → since' k → (k ≡ p) ⊎ since k) →
        Holds kind weights n making drawing states since' t' s'
    holds_collected row is_row joined c put since' now still = record {
      count = c.number ∙ h.count;
      made_so = made_so' c.number form c.children;
      none_past = λ k l. h.none_past k (omega (arith, l, c.number));
      drawn = drawn' c.number form c.children;
      since_made = λ k x. elim (still k x) [ inl e ↦ omega (arith, e, low, c.number) | inr y ↦ let b = h.since_made k y in omega (arith, b, c.number) ];
      up_to_date = λ k l. elim (cases_eq k p) [
        | inl e ↦ subst (λ z. (status_at t' z ≡ UpToDate) ↔ ((form_at t' z ≡ Part) ⊎ since' z)) (sym e) ((λ _. inr ((now p low).1 (inl refl))), (λ _. ap (λ (x : Node). x.status) c.collected))
        | inr apart ↦
            let b = at l in (
              (λ x. elim ((h.up_to_date k b).0 (sym (status k b apart) ∙ x)) [ inl y ↦ inl (form k b ∙ y) | inr z ↦ inr ((now k b).1 (inr z)) ]),
              (λ x. status k b apart ∙ (h.up_to_date k b).1 (elim x [
                | inl y ↦ inl (sym (form k b) ∙ y)
                | inr z ↦ elim ((now k b).0 z) [ inl e ↦ absurd (apart e) | inr w ↦ inr w ]
              ])),
            )
      ];
      rows = λ k l x. elim (cases_eq k p) [
        | inl e ↦ subst (λ z. RowOf kind weights (enumeration kind weights states (drawing z)) (row_at t' s' z)) (sym e) (subst (RowOf kind weights (enumeration kind weights states (drawing p))) (sym row_now) is_row)
        | inr apart ↦ subst (RowOf kind weights (enumeration kind weights states (drawing k))) (sym (row_kept k (at l) apart)) (h.rows k (at l) (sym (status k (at l) apart) ∙ x))
      ];
      full = λ k l x. elim (cases_eq k p) [
        | inl e ↦ subst (λ z. length (row_at t' s' z) ≡ size_at t' z) (sym e) (ap length row_now ∙ sym (ap (λ (x : Node). x.size) c.collected))
        | inr apart ↦ ap length (row_kept k (at l) apart) ∙ h.full k (at l) (sym (status k (at l) apart) ∙ x) ∙ sym (ap (λ (x : Node). x.size) (c.others k (at l) apart))
      ];
    }
      where
        at : {k : ℕ} → k < t'.count → k < t.count
        at {k} l = subst (λ z. k < z) c.number l

        status : (k : ℕ) → k < t.count → k ≢ p → status_at t' k ≡ status_at t k
        status k b apart = ap (λ (x : Node). x.status) (c.others k b apart)

        form : (k : ℕ) → k < t.count → form_at t' k ≡ form_at t k
        form k b = elim (cases_eq k p) [
          | inl e ↦ subst (λ z. form_at t' z ≡ form_at t z) (sym e) (ap (λ (x : Node). x.form) c.collected)
          | inr apart ↦ ap (λ (x : Node). x.form) (c.others k b apart)
        ]

        row_kept : (k : ℕ) → k < t.count → k ≢ p → row_at t' s' k ≡ row_at t s k
        row_kept k b apart =
            ap (λ z. take z (places_of k s')) (ap (λ (x : Node). x.size) (c.others k b apart))
            ∙ ap (take (size_at t k)) (put.others.places k (omega (arith, b, sound.few)) apart)

        row_now : row_at t' s' p ≡ row
        row_now = ap (λ z. take z (places_of p s')) (ap (λ (x : Node). x.size) c.collected) ∙ put.stands
