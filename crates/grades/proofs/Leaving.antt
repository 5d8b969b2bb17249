-- The parts of the plant as they are added, and the rows that it leaves in the store that it is lent.
use Rattle.std.proofs.Common.{◌≡◌, ℕ, ◌<◌, ◌≤◌, List, [], ◌∷◌, length, Result, Ok, Err, sym, ◌∙◌, refl, subst, inl, inr, arith}
use borrow.Author.Count.{below_none, below_more}
use Rattle.terms.specs.declared.term.Term.{Term}
use Rattle.terms.specs.Enumeration.{enumeration}
use Rattle.terms.proofs.Children.{of_part, of_more}
use Rattle.diagram.specs.declared.limits.TheConstants.{NODES, STORE}
use Rattle.diagram.specs.declared.refusal.Refusal.{Refusal}
use Rattle.diagram.specs.declared.refusal.Refusal.TheVariants.{WrongStates}
use Rattle.diagram.specs.declared.table.Table.{Table}
use Rattle.diagram.specs.declared.diagram.Diagram.{Diagram}
use Rattle.diagram.specs.Refusals.{Asked}
use Rattle.diagram.specs.Nodes.{EnoughStates}
use Rattle.diagram.specs.Shown.{records}
use Rattle.diagram.specs.Store.{Kept}
use Rattle.diagram.specs.Calls.{Made, Added, Collected}
use Rattle.diagram.specs.Histories.{adding, number, added, History, made, drawing_of, states_of, Answers}
use Rattle.diagram.specs.Runs.{Run, start, AnswersRight}
use Rattle.diagram.proofs.RunGoesOn.{yes, given, denied, ok_not_err, ok_same, entry, after_adding}
use Rattle.diagram.proofs.CollectedSince.{since_now, since_kept}
use Rattle.diagram.proofs.Standing.{rows_stand, kept_on, kept_more, added_kept, added_refused, collected_kept}
use Rattle.diagram.specs.Makings.{history_of}
use Rattle.grades.specs.contracts.grade_kind.GradePerformance.TheImpl.{ghosts as grade_kind}
use Rattle.grades.specs.contracts.batches_weight.BatchesWeight.TheImpl.{ghosts as batches_weight}
use Rattle.grades.specs.declared.batches.Batches.{Batches}
use Rattle.grades.specs.declared.grade.Grade.{Grade}
use Rattle.grades.specs.Shares.{terms_of_node, RowsOfShare, LeftByParts}
use Rattle.grades.specs.Building.{parts_made, worked_out, PartsAdded}
use Rattle.grades.proofs.Laws.{grade_laws, batch_laws}
use Rattle.grades.proofs.Building.{all_lines, all_products}

abbrev Terms : Type 0
Terms = List (Term Grade Batches)

-- after three times yes, what is so may be put otherwise
pub after_three : {a b c d e p q r : Type 0} → (p → q → r → d → e) → Asked p a (Asked q b (Asked r c d)) → Asked p a (Asked q b (Asked r c e))
after_three on (inr x) = inr x
after_three on (inl (p, inr x)) = inl (p, inr x)
after_three on (inl (p, inl (q, inr x))) = inl (p, inl (q, inr x))
after_three on (inl (p, inl (q, inl (r, x)))) = inl (p, inl (q, inl (r, on p q r x)))

module _ (first second finishing : Terms) where
  -- node k answers, and has the row of its terms
  abbrev Has : History Grade Batches → ℕ → Type 0
  Has h k = (k < made h) × Answers h k × (enumeration grade_kind batches_weight (states_of h) (drawing_of h k) ≡ terms_of_node first second finishing k)

  rows : (n : ℕ) {h : History Grade Batches} {d : Diagram Grade Batches} {s₀ s : Terms} → Run grade_kind batches_weight h d s → ((k : ℕ) → k < n → Has h k) → Kept (λ k. k < n) s₀ s → RowsOfShare first second finishing n s₀ s
  rows n run each kept = rows_stand grade_kind batches_weight grade_laws batch_laws _ _ _ _ run each kept

  -- the rows before, and then those after
  pub rows_on : {m n : ℕ} {a b c : Terms} → m ≤ n → RowsOfShare first second finishing m a b → RowsOfShare first second finishing n b c → RowsOfShare first second finishing n a c
  rows_on few before after = record { stand = after.stand; others = kept_on (kept_more (λ j l. omega (arith, few, l)) before.others) after.others }

  module _ (lent : ℕ) where
    abbrev with_first : History Grade Batches
    with_first = history_of lent (added first ∷ [])

    abbrev with_second : History Grade Batches
    with_second = history_of lent (added second ∷ added first ∷ [])

    abbrev with_parts : History Grade Batches
    with_parts = history_of lent (parts_made first second finishing)

    first_has : (k : ℕ) → k < 1 → Has with_first k
    first_has = let h = with_first in below_more (Has h) 0 (below_none (Has h)) (omega arith, inl (first, refl), of_part grade_kind batches_weight batch_laws (states_of h) 0)

    second_has : (k : ℕ) → k < 2 → Has with_second k
    second_has =
        let h = with_second in
        let part = of_part grade_kind batches_weight batch_laws (states_of h) in
        below_more (Has h) 1 (below_more (Has h) 0 (below_none (Has h)) (omega arith, inl (first, refl), part 0)) (omega arith, inl (second, refl), part 1)

    parts_have : (k : ℕ) → k < 3 → Has with_parts k
    parts_have =
        let h = with_parts in
        let part = of_part grade_kind batches_weight batch_laws (states_of h) in
        below_more (Has h) 2
        (below_more (Has h) 1 (below_more (Has h) 0 (below_none (Has h)) (omega arith, inl (first, refl), part 0)) (omega arith, inl (second, refl), part 1))
        (omega arith, inl (finishing, refl), part 2)

    all_have : (m n k : ℕ) → k < 5 → Has (worked_out first second finishing lent m n) k
    all_have m n =
        let h = worked_out first second finishing lent m n in
        let part = of_part grade_kind batches_weight batch_laws (states_of h) in
        let more = of_more grade_kind batches_weight batch_laws in
        let third : Has h 3 = (omega arith, inr (since_kept _ _ 3 refl (λ p states is. absurd (cc)) (since_now _ _ 3 refl)), all_lines (of_part grade_kind batches_weight batch_laws) more (states_of h)) in
        below_more (Has h) 4 (below_more (Has h) 3 (below_more (Has h) 2
        (below_more (Has h) 1 (below_more (Has h) 0 (below_none (Has h)) (omega arith, inl (first, refl), part 0)) (omega arith, inl (second, refl), part 1))
        (omega arith, inl (finishing, refl), part 2)) third)
        (omega arith, inr (since_now _ _ 4 refl), all_products (of_part grade_kind batches_weight batch_laws) more (states_of h))

  module _ (promise : AnswersRight grade_kind batches_weight) (d₀ : Diagram Grade Batches) (s₀ : Terms) (new : Made records s₀ (Ok d₀)) where
    abbrev Left : Terms → Type 0
    Left = LeftByParts first second finishing 3 s₀

    roomy : STORE ≤ length s₀
    roomy = (given new).0

    -- a part more
    adds : {h : History Grade Batches} {d : Diagram Grade Batches} {s s' : Terms} {r : Result ℕ Refusal} → Run grade_kind batches_weight h d s → length s ≡ length s₀ → (states : Terms) (d' : Diagram Grade Batches) → Added grade_kind batches_weight (records d) s states r (records d') s' → made h < NODES →
        Asked (EnoughStates (length states)) (r ≡ Err WrongStates) ((r ≡ Ok (made h)) × Run grade_kind batches_weight (entry (adding states) (length s₀) (Ok (number (made h))) ∷ h) d' s')
    adds {s' = s'} run long states d' x left = after_adding grade_kind batches_weight promise (length s₀) roomy run long states d' s' x left

    module _ (a : ℕ) (d₁ : Diagram Grade Batches) (s₁ : Terms) (x₁ : Added grade_kind batches_weight (records d₀) s₀ first (Ok a) (records d₁) s₁) (long₁ : length s₁ ≡ length s₀) where
      one : EnoughStates (length first) × (a ≡ 0) × Run grade_kind batches_weight (with_first (length s₀)) d₁ s₁
      one = let z = given (adds (start new) refl first d₁ x₁ (omega arith)) in (z.0, ok_same z.1.0, z.1.1)

      kept_one : {n : ℕ} → 0 < n → Kept (λ k. k < n) s₀ s₁
      kept_one some = added_kept grade_kind batches_weight a (omega (arith, some, one.1)) x₁

      pub second_refused : (d₂ : Diagram Grade Batches) (s₂ : Terms) (why : Refusal) → Added grade_kind batches_weight (records d₁) s₁ second (Err why) (records d₂) s₂ → Left s₂
      second_refused d₂ s₂ why x =
          let few = (denied (λ z. ok_not_err (sym z.0)) (adds one.2 long₁ second d₂ x (omega arith))).0 in
          yes one.0 (inr (few, subst (RowsOfShare first second finishing 1 s₀) (sym (added_refused grade_kind batches_weight x)) (rows 1 one.2 (first_has (length s₀)) (kept_one (omega arith)))))

      module _ (b : ℕ) (d₂ : Diagram Grade Batches) (s₂ : Terms) (x₂ : Added grade_kind batches_weight (records d₁) s₁ second (Ok b) (records d₂) s₂) (long₂ : length s₂ ≡ length s₁) where
        two : EnoughStates (length second) × (b ≡ 1) × Run grade_kind batches_weight (with_second (length s₀)) d₂ s₂
        two = let z = given (adds one.2 long₁ second d₂ x₂ (omega arith)) in (z.0, ok_same z.1.0, z.1.1)

        kept_two : {n : ℕ} → 1 < n → Kept (λ k. k < n) s₀ s₂
        kept_two some = kept_on (kept_one (omega (arith, some))) (added_kept grade_kind batches_weight b (omega (arith, some, two.1)) x₂)

        pub third_refused : (d₃ : Diagram Grade Batches) (s₃ : Terms) (why : Refusal) → Added grade_kind batches_weight (records d₂) s₂ finishing (Err why) (records d₃) s₃ → Left s₃
        third_refused d₃ s₃ why x =
            let few = (denied (λ z. ok_not_err (sym z.0)) (adds two.2 (long₂ ∙ long₁) finishing d₃ x (omega arith))).0 in
            yes one.0 (yes two.0 (inr (few, subst (RowsOfShare first second finishing 2 s₀) (sym (added_refused grade_kind batches_weight x)) (rows 2 two.2 (second_has (length s₀)) (kept_two (omega arith))))))

        module _ (c : ℕ) (d₃ : Diagram Grade Batches) (s₃ : Terms) (x₃ : Added grade_kind batches_weight (records d₂) s₂ finishing (Ok c) (records d₃) s₃) where
          three : EnoughStates (length finishing) × (c ≡ 2) × Run grade_kind batches_weight (with_parts (length s₀)) d₃ s₃
          three = let z = given (adds two.2 (long₂ ∙ long₁) finishing d₃ x₃ (omega arith)) in (z.0, ok_same z.1.0, z.1.1)

          -- the parts are nodes 0, 1 and 2
          pub parts_added : PartsAdded first second finishing (length s₀) d₃ s₃ (Ok (record { first = a; second = b; finishing = c }))
          parts_added = yes one.0 (yes two.0 (yes three.0 ((λ i. Ok (record { first = one.1 i; second = two.1 i; finishing = three.1 i })), three.2)))

          pub all_added : Left s₃
          all_added = yes one.0 (yes two.0 (yes three.0 (rows 3 three.2 (parts_have (length s₀)) (kept_on (kept_two (omega arith)) (added_kept grade_kind batches_weight c (omega (arith, three.1)) x₃)))))

  -- both joined nodes are collected
  pub all_left : {lent m n k l : ℕ} {t₀ t₁ : Table} {d : Diagram Grade Batches} {s₀ s₁ s₂ : Terms} → Run grade_kind batches_weight (worked_out first second finishing lent m n) d s₂ →
      k ≡ 3 → (r : Result ℕ Refusal) → Collected grade_kind batches_weight t₀ s₀ k r t₁ s₁ → l ≡ 4 → (r' : Result ℕ Refusal) → Collected grade_kind batches_weight t₁ s₁ l r' (records d) s₂ →
      RowsOfShare first second finishing 5 s₀ s₂
  all_left {lent} {m} {n} run third r x fourth r' y = rows 5 run (all_have lent m n) (kept_on (collected_kept grade_kind batches_weight r (omega (arith, third)) x) (collected_kept grade_kind batches_weight r' (omega (arith, fourth)) y))
