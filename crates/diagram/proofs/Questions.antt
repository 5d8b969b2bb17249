-- The questions before a call, put to the records, are those put to the history.
use Rattle.std.proofs.Common.{◌≡◌, ◌↔◌, ℕ, ◌<◌, ◌≤◌, List, [], length, Contains, All, Some, unwrap_or, sym, ◌∙◌, ap, subst, inl, inr, arith, Bool, true, false, get_or}
use Rattle.std.proofs.lemmas.Bool.{cases_lt, true≢false}
use Rattle.std.proofs.lemmas.List.Elements.{Contains-get_or}
use Rattle.kinds.specs.declared.performance.Performance
use Rattle.kinds.specs.declared.weight.Weight
use Rattle.kinds.proofs.Lawful.{Kind, Weighing}
use Rattle.terms.specs.declared.term.Term.{Term}
use Rattle.terms.specs.declared.term.Way.{Way}
use Rattle.terms.proofs.Canonical.{row_unique}
use Rattle.diagram.specs.declared.limits.TheConstants.{NODES, ARM_TERMS}
use Rattle.diagram.specs.declared.node.Form.{Form}
use Rattle.diagram.specs.declared.node.Form.TheVariants.{Part, Joined, Bridge}
use Rattle.diagram.specs.declared.node.Status.TheVariants.{UpToDate}
use Rattle.diagram.specs.declared.table.Table.{Table}
use Rattle.diagram.specs.Records.{Sound, form_at, status_at, size_at, children_at}
use Rattle.diagram.specs.Store.{row_at}
use Rattle.diagram.specs.Calls.{Free, ArmsFit}
use Rattle.diagram.specs.Histories.{Making, added, joined_from, bridged_from, named_by, History, made, making_of, drawing_of, states_of, children_of, IsPart, Unused, CollectedSince, Answers}
use Rattle.diagram.specs.RightAnswers.{RowOfNode, ArmsShort}
use Rattle.diagram.proofs.FoundByTest.{test_finds, found_by_test}
use Rattle.diagram.proofs.Climbing.{child_is_below}
use Rattle.diagram.proofs.Facts.{is_part}
use Rattle.diagram.proofs.HistoryFits.{Matches, Holds}

part_not_joined : {f : Form} → f ≡ Part → is_part f ≡ true
part_not_joined e = ap is_part e

abbrev is_bridge : Form → Bool
is_bridge Part = false
is_bridge (Joined way) = false
is_bridge Bridge = true

bridge_not_part : Part ≡ Bridge → ⊥
bridge_not_part e = true≢false (sym (ap is_bridge e))

bridge_not_joined : {way : Way} → Joined way ≡ Bridge → ⊥
bridge_not_joined e = true≢false (sym (ap is_bridge e))

-- the records t and the store s are as the history has them
abbrev pub HoldsAfter : {P W : Type 0} → Performance.Ghosts P → Weight.Ghosts W → History P W → Table → List (Term P W) → Type 0
HoldsAfter kind weights h t s = Holds kind weights (made h) (making_of h) (drawing_of h) (states_of h) (CollectedSince h) t s

module _ {P W : Type 0} (kind : Performance.Ghosts P) (weights : Weight.Ghosts W) (h : History P W) (t : Table) (s : List (Term P W)) (sound : Sound t) (holds : HoldsAfter kind weights h t s) where
  named_matches : (m : Making P W) (k : ℕ) → Matches m t k → named_by (Some m) ≡ children_at t k
  named_matches (added states) k x = sym x.1
  named_matches (joined_from way named) k x = sym x.1
  named_matches (bridged_from a b c d e) k x = sym x.1

  pub children_same : (k : ℕ) → k < t.count → children_of h k ≡ children_at t k
  children_same k b = let m = holds.made_so k b in ap named_by m.1 ∙ named_matches m.0 k m.2

  pub node_question : (k : ℕ) → (k < t.count) ↔ (k < made h)
  node_question k = (λ l. omega (arith, l, holds.count), λ l. omega (arith, l, holds.count))

  pub room_question : (t.count < NODES) ↔ (made h < NODES)
  room_question = (λ l. omega (arith, l, holds.count), λ l. omega (arith, l, holds.count))

  pub nodes_question : (cs : List ℕ) → All (λ c. c < t.count) cs ↔ All (λ c. c < made h) cs
  nodes_question cs = (λ a i d l. (node_question _).0 (a i d l), λ a i d l. (node_question _).1 (a i d l))

  -- who names c is a node
  names_known : (k c : ℕ) → Contains (children_of h k) c → k < t.count
  names_known k c i = elim (cases_lt k t.count) [
    | inl b ↦ b
    | inr past ↦
        let none : Contains [] c = subst (λ z. Contains (named_by z) c) (holds.none_past k past) i in
        absurd (omega (arith, none.1))
  ]

  pub free_question : (cs : List ℕ) → All (λ c. c < t.count) cs → All (Free t) cs ↔ All (Unused h) cs
  free_question cs nodes = (
    (λ a i d l k x.
        let c = get_or cs i d in
        let b = names_known k c x in
        a i d l k ((sound.at k b).children_used c (test_finds c (children_at t k) (subst (λ z. Contains z c) (children_same k b) x)))),
    (λ a i d l u x.
        let c = get_or cs i d in
        let o = sound.at c (nodes i d l) in
        let b = (o.user_above u x).1 in
        a i d l u (subst (λ z. Contains z c) (sym (children_same u b)) (found_by_test c (children_at t u) (o.user_names u x)))),
  )

  making_is : (k : ℕ) (m : Making P W) (b : k < t.count) → making_of h k ≡ Some m → Matches m t k
  making_is k m b e =
      let was = holds.made_so k b in
      subst (λ z. Matches z t k) (ap (λ o. unwrap_or o was.0) (sym was.1 ∙ e)) was.2

  pub part_question : (k : ℕ) → k < t.count → (form_at t k ≡ Part) ↔ IsPart h k
  part_question k b = (λ e. by (holds.made_so k b).0 (holds.made_so k b).1 (holds.made_so k b).2 e, λ p. (making_is k (added p.0) b p.1).0)
    where
      by : (m : Making P W) → making_of h k ≡ Some m → Matches m t k → form_at t k ≡ Part → IsPart h k
      by (added states) e x p = (states, e)
      by (joined_from way named) e x p = absurd (true≢false (sym (part_not_joined p) ∙ ap is_part x.0))
      by (bridged_from a b c d g) e x p = absurd (true≢false (sym (part_not_joined p) ∙ ap is_part x.0))

  pub current_question : (k : ℕ) → k < t.count → (status_at t k ≡ UpToDate) ↔ Answers h k
  current_question k b = (
    (λ x. elim ((holds.up_to_date k b).0 x) [ inl p ↦ inl ((part_question k b).0 p) | inr c ↦ inr c ]),
    (λ x. (holds.up_to_date k b).1 (elim x [ inl p ↦ inl ((part_question k b).1 p) | inr c ↦ inr c ])),
  )

  -- a child of a node is a node
  pub child_known : (k : ℕ) → k < t.count → (c : ℕ) → Contains (children_at t k) c → c < t.count
  child_known k b c i = let l = child_is_below sound b i in omega (arith, l, b)

  pub children_question : (k : ℕ) → k < t.count → All (λ c. status_at t c ≡ UpToDate) (children_at t k) ↔ All (Answers h) (children_of h k)
  children_question k b = subst (λ z. All (λ c. status_at t c ≡ UpToDate) (children_at t k) ↔ All (Answers h) z) (sym (children_same k b)) (
    (λ a i d l. (current_question _ (known i d l)).0 (a i d l)),
    (λ a i d l. (current_question _ (known i d l)).1 (a i d l)),
  )
    where
      known : (i d : ℕ) → i < length (children_at t k) → get_or (children_at t k) i d < t.count
      known i d l = child_known k b _ (Contains-get_or (children_at t k) i d l)

  module _ (laws : Kind kind) (weigh : Weighing weights) where
    -- the row of an answering node is the one that stands in the store
    pub row_is : (k : ℕ) → k < t.count → status_at t k ≡ UpToDate → (row : List (Term P W)) → RowOfNode kind weights h k row → row ≡ row_at t s k
    row_is k b up_to_date row is_row = row_unique laws weigh _ row (row_at t s k) is_row (holds.rows k b up_to_date)

    pub arms_question : (k : ℕ) → k < t.count → All (λ c. status_at t c ≡ UpToDate) (children_at t k) → ArmsFit t k ↔ ArmsShort kind weights h k
    arms_question k b up_to_date = (
      (λ fit a₁ a₂ a₃ a₄ a₅ e. subst (All Short) (sym (children_same k b)) (λ i d l row is_row.
          let c = known i d l in
          let up = up_to_date i d l in
          omega (arith, ap length (row_is _ c up row is_row), holds.full _ c up, fit (making_is k (bridged_from a₁ a₂ a₃ a₄ a₅) b e).0 i d l))),
      (λ short form. by (holds.made_so k b).0 (holds.made_so k b).1 (holds.made_so k b).2 form short),
    )
      where
        Short : ℕ → Type 0
        Short arm = (row : List (Term P W)) → RowOfNode kind weights h arm row → length row ≤ ARM_TERMS

        known : (i d : ℕ) → i < length (children_at t k) → get_or (children_at t k) i d < t.count
        known i d l = child_known k b _ (Contains-get_or (children_at t k) i d l)

        fits : All Short (children_at t k) → All (λ c. size_at t c ≤ ARM_TERMS) (children_at t k)
        fits a i d l =
            let c = known i d l in
            let up = up_to_date i d l in
            omega (arith, holds.full _ c up, a i d l (row_at t s _) (holds.rows _ c up))

        by : (m : Making P W) → making_of h k ≡ Some m → Matches m t k → form_at t k ≡ Bridge → ArmsShort kind weights h k → All (λ c. size_at t c ≤ ARM_TERMS) (children_at t k)
        by (added states) e x p short = absurd (bridge_not_part (sym x.0 ∙ p))
        by (joined_from way named) e x p short = absurd (bridge_not_joined (sym x.0 ∙ p))
        by (bridged_from a₁ a₂ a₃ a₄ a₅) e x p short = fits (subst (All Short) (children_same k b) (short a₁ a₂ a₃ a₄ a₅ e))
