-- What a history says of the nodes, and what the records and the store have: one fits the other.
use Rattle.std.proofs.Common.{◌≡◌, ◌≢◌, ◌⊎◌, ◌↔◌, ℕ, ◌+◌, ◌*◌, ◌<◌, ◌≤◌, List, [], ◌∷◌, length, take, drop, Option, Some, None, cond, sym, ◌∙◌, ap, refl, subst, arith}
use Rattle.std.proofs.lemmas.Bool.{eq-eqb, ne_eqb}
use Rattle.std.proofs.lemmas.List.{take-take}
use Rattle.std.proofs.lemmas.Slice.{between_is}
use Rattle.kinds.specs.declared.performance.Performance
use Rattle.kinds.specs.declared.weight.Weight
use Rattle.terms.specs.declared.term.Term.{Term}
use Rattle.terms.specs.Rows.{RowOf}
use Rattle.terms.specs.Drawings.{Drawing, part}
use Rattle.terms.specs.Enumeration.{but, enumeration}
use Rattle.diagram.specs.declared.limits.TheConstants.{NODES, TERMS, ROWS}
use Rattle.diagram.specs.declared.node.Form.TheVariants.{Part, Joined, Bridge}
use Rattle.diagram.specs.declared.node.Status.TheVariants.{UpToDate}
use Rattle.diagram.specs.declared.table.Table.{Table}
use Rattle.diagram.specs.Records.{Sound, form_at, status_at, size_at, children_at}
use Rattle.diagram.specs.Store.{places_of, row_at}
use Rattle.diagram.specs.Histories.{Making, added, joined_from, bridged_from}
use Rattle.diagram.proofs.Drawn.{Drawn}

-- node k has the form and the children of its making
abbrev pub Matches : {P W : Type 0} → Making P W → Table → ℕ → Type 0
Matches (added states) t k = (form_at t k ≡ Part) × (children_at t k ≡ [])
Matches (joined_from way named) t k = (form_at t k ≡ Joined way) × (children_at t k ≡ named)
Matches (bridged_from a b c d e) t k = (form_at t k ≡ Bridge) × (children_at t k ≡ a ∷ b ∷ c ∷ d ∷ e ∷ [])

module _ {P W : Type 0} (kind : Performance.Ghosts P) (weights : Weight.Ghosts W) where
  abbrev Terms : Type 0
  Terms = List (Term P W)

  -- The records t and the store s of a diagram with n nodes, so made, so drawn, in these states; `since` says which are collected since.
  pub record Holds (n : ℕ) (making : ℕ → Option (Making P W)) (drawing : ℕ → Drawing) (states : ℕ → Terms) (since : ℕ → Type 0) (t : Table) (s : Terms) : Type 0 where
    pub count : t.count ≡ n
    pub made_so : (k : ℕ) → k < t.count → (m : Making P W) × (making k ≡ Some m) × Matches m t k
    pub none_past : (k : ℕ) → t.count ≤ k → making k ≡ None
    pub drawn : Drawn t drawing
    pub since_made : (k : ℕ) → since k → k < t.count
    pub up_to_date : (k : ℕ) → k < t.count → (status_at t k ≡ UpToDate) ↔ ((form_at t k ≡ Part) ⊎ since k)
    pub rows : (k : ℕ) → k < t.count → status_at t k ≡ UpToDate → RowOf kind weights (enumeration kind weights states (drawing k)) (row_at t s k)
    pub full : (k : ℕ) → k < t.count → status_at t k ≡ UpToDate → length (row_at t s k) ≡ size_at t k

-- f but at n
pub but_at : {S : Type 0} (n : ℕ) (x : S) (f : ℕ → S) → but n x f n ≡ x
but_at n x f = ap (λ b. cond b x (f n)) (eq-eqb n n refl)

pub but_else : {S : Type 0} (n : ℕ) (x : S) (f : ℕ → S) (m : ℕ) → m ≢ n → but n x f m ≡ f m
but_else n x f m apart = ap (λ b. cond b x (f m)) (ne_eqb n m (λ e. apart (sym e)))

-- the first `ROWS` terms are the places of the nodes
pub same_places : {T : Type 0} (s u : List T) → take ROWS u ≡ take ROWS s → (j : ℕ) → j < NODES → places_of j u ≡ places_of j s
same_places s u e j h = cut u ∙ ap (λ z. drop (TERMS * j) (take (TERMS * j + TERMS) z)) e ∙ sym (cut s)
  where
    cut : {T : Type 0} (x : List T) → places_of j x ≡ drop (TERMS * j) (take (TERMS * j + TERMS) (take ROWS x))
    cut x = between_is x (TERMS * j) (TERMS * j + TERMS) ∙ ap (drop (TERMS * j)) (sym (take-take (TERMS * j + TERMS) ROWS x (omega (arith, h))))

module _ {P W : Type 0} {kind : Performance.Ghosts P} {weights : Weight.Ghosts W} {n : ℕ} {making : ℕ → Option (Making P W)} {drawing : ℕ → Drawing} {states : ℕ → List (Term P W)} {since : ℕ → Type 0} {t : Table} (sound : Sound t) where
  -- nothing but places of no node is written
  pub holds_there : (s s' : List (Term P W)) → ((j : ℕ) → j < NODES → places_of j s' ≡ places_of j s) → Holds kind weights n making drawing states since t s → Holds kind weights n making drawing states since t s'
  holds_there s s' same h = record {
    count = h.count;
    made_so = h.made_so;
    none_past = h.none_past;
    drawn = h.drawn;
    since_made = h.since_made;
    up_to_date = h.up_to_date;
    rows = λ k l c. subst (RowOf kind weights (enumeration kind weights states (drawing k))) (sym (row k l)) (h.rows k l c);
    full = λ k l c. ap length (row k l) ∙ h.full k l c;
  }
    where
      row : (k : ℕ) → k < t.count → row_at t s' k ≡ row_at t s k
      row k l = ap (take (size_at t k)) (same k (omega (arith, l, sound.few)))

-- a diagram without nodes
pub blank_holds : {P W : Type 0} (kind : Performance.Ghosts P) (weights : Weight.Ghosts W) (since : ℕ → Type 0) → ((k : ℕ) → ¬ since k) → (t : Table) (s : List (Term P W)) → t.count ≡ 0 → Holds kind weights 0 (λ k. None) part (λ k. []) since t s
blank_holds kind weights since never t s none = record {
  count = none;
  made_so = λ k l. absurd (omega (arith, l, none));
  none_past = λ k l. refl;
  drawn = λ k l. absurd (omega (arith, l, none));
  since_made = λ k c. absurd (never k c);
  up_to_date = λ k l. absurd (omega (arith, l, none));
  rows = λ k l. absurd (omega (arith, l, none));
  full = λ k l. absurd (omega (arith, l, none));
}
