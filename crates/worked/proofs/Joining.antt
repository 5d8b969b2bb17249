-- What a diagram of two joined parts answers, and the rows that it leaves: read off from the promise over all runs.
use Rattle.std.proofs.Common.{◌≡◌, ℕ, ◌<◌, ◌≤◌, List, [], ◌∷◌, length, Result, Ok, Err, sym, ◌∙◌, ap, refl, subst, inl, inr, arith}
use borrow.Author.Count.{below_none, below_more}
use Rattle.kinds.specs.declared.performance.Performance
use Rattle.kinds.specs.declared.weight.Weight
use Rattle.kinds.proofs.Lawful.{Kind, Weighing}
use Rattle.terms.specs.declared.term.Term.{Term}
use Rattle.terms.specs.declared.term.Way.{Way}
use Rattle.terms.specs.Rows.{RowOf}
use Rattle.terms.specs.Combinations.{joins, combinations}
use Rattle.terms.specs.Drawings.{part, one}
use Rattle.terms.specs.Enumeration.{but, enumeration}
use Rattle.terms.proofs.Children.{of_part, of_more}
use Rattle.terms.proofs.Combining.{total_same, met_same}
use Rattle.diagram.specs.declared.limits.TheConstants.{STORE}
use Rattle.diagram.specs.declared.refusal.Refusal.{Refusal}
use Rattle.diagram.specs.declared.refusal.Refusal.TheVariants.{WrongStates, LongResult}
use Rattle.diagram.specs.declared.node.Form.TheVariants.{Joined}
use Rattle.diagram.specs.declared.diagram.Diagram.{Diagram}
use Rattle.diagram.specs.Refusals.{Asked}
use Rattle.diagram.specs.Shown.{records}
use Rattle.diagram.specs.Store.{Kept}
use Rattle.diagram.specs.Calls.{Made, Added, Joins, Collected, TellsAvailability}
use Rattle.diagram.specs.Histories.{collecting, number, History, made, added, joined_from, drawing_of, states_of, Unused, Answers}
use Rattle.diagram.specs.Makings.{history_of}
use Rattle.diagram.specs.Nodes.{EnoughStates}
use Rattle.diagram.specs.RightAnswers.{RowOfNode, ResultsShort}
use Rattle.diagram.specs.Runs.{Run, start, AnswersRight}
use Rattle.diagram.proofs.RunGoesOn.{yes, ok_not_err, ok_same, err_same, given, denied, both_of, apart, the_only, no_one, entry, unused_on, answered, after_adding, after_joining, after_collecting_joined, sums_told}
use Rattle.diagram.proofs.CollectedSince.{since_now}
use Rattle.diagram.proofs.Standing.{rows_stand, kept_on, added_kept, added_refused, collected_kept, collecting_refused}
use Rattle.worked.specs.TwoParts.{ShortRow, OfTwo, RowsOfTwo, LeftOfTwo}

-- a refusal is no answer
none : {A rest : Type 0} {why : Refusal} {a : A} → ¬ (◌≡◌ {A = Result A Refusal} (Err why) (Ok a) × rest)
none x = ok_not_err (sym x.0)

module _
    {P W : Type 0} (kind : Performance.Ghosts P) (weights : Weight.Ghosts W) (laws : Kind kind) (weigh : Weighing weights) (promise : AnswersRight kind weights)
    (way : Way) (xs ys : List (Term P W)) (demand : P) (d₀ : Diagram P W) (s₀ : List (Term P W)) (new : Made records s₀ (Ok d₀)) where
  abbrev Terms : Type 0
  Terms = List (Term P W)

  abbrev all : Terms
  all = combinations weights (joins kind way) xs ys

  abbrev Owed : Result (W × W) Refusal → Type 0
  Owed = OfTwo kind weights way xs ys demand (length s₀)

  abbrev Leaves : Terms → Type 0
  Leaves = LeftOfTwo kind weights way xs ys s₀

  -- the run that goes well, call by call

  abbrev lent : ℕ
  lent = length s₀

  abbrev with_first : History P W
  with_first = history_of lent (added xs ∷ [])

  abbrev with_both : History P W
  with_both = history_of lent (added ys ∷ added xs ∷ [])

  abbrev now : History P W
  now = history_of lent (joined_from way (0 ∷ 1 ∷ []) ∷ added ys ∷ added xs ∷ [])

  abbrev at_last : ℕ → History P W
  at_last size = entry (collecting 2) lent (Ok (number size)) ∷ now

  roomy : STORE ≤ lent
  roomy = (given new).0

  -- of the joined node all the combinations are those of the two lists
  of_both : enumeration kind weights (states_of now) (drawing_of now 2) ≡ all
  of_both =
      let states = states_of now in
      of_more kind weights weigh states way (one (part 0)) (part 1) (refl, tt)
      ∙ (λ i. combinations weights (joins kind way) (of_part kind weights weigh states 0 i) (of_part kind weights weigh states 1 i))

  -- node k answers, and has the row of its terms
  abbrev Has : History P W → ℕ → Type 0
  Has g k = (k < made g) × Answers g k × (enumeration kind weights (states_of g) (drawing_of g k) ≡ but 0 xs (but 1 ys (λ _. all)) k)

  has_two : (h : History P W) → Has h 0 → Has h 1 → (k : ℕ) → k < 2 → Has h k
  has_two h a b = below_more (Has h) 1 (below_more (Has h) 0 (below_none (Has h)) a) b

  rows : (n : ℕ) {h : History P W} {d : Diagram P W} {s : Terms} → Run kind weights h d s → ((k : ℕ) → k < n → Has h k) → Kept (λ k. k < n) s₀ s → RowsOfTwo kind weights way xs ys n s₀ s
  rows n run each kept = rows_stand kind weights laws weigh _ _ s₀ _ run each kept

  first : (d₁ : Diagram P W) (s₁ : Terms) {r : Result ℕ Refusal} → Added kind weights (records d₀) s₀ xs r (records d₁) s₁ → Asked (EnoughStates (length xs)) (r ≡ Err WrongStates) ((r ≡ Ok 0) × Run kind weights with_first d₁ s₁)
  first d₁ s₁ x = after_adding kind weights promise lent roomy (start new) refl xs d₁ s₁ x (omega arith)

  pub stops_at_one : (d₁ : Diagram P W) (s₁ : Terms) (why : Refusal) → Added kind weights (records d₀) s₀ xs (Err why) (records d₁) s₁ → (r : Result (W × W) Refusal) → r ≡ Err why → Owed r × Leaves s₁
  stops_at_one d₁ s₁ why x r is =
      let (few, told) = denied none (first d₁ s₁ x) in
      (yes roomy (inr (few, is ∙ ap Err (err_same told))), yes roomy (inr (few, added_refused kind weights x)))

  module _ (a : ℕ) (d₁ : Diagram P W) (s₁ : Terms) (x₁ : Added kind weights (records d₀) s₀ xs (Ok a) (records d₁) s₁) where
    first_made : EnoughStates (length xs) × (a ≡ 0) × Run kind weights with_first d₁ s₁
    first_made = let z = given (first d₁ s₁ x₁) in (z.0, ok_same z.1.0, z.1.1)

    kept_one : {n : ℕ} → 0 < n → Kept (λ k. k < n) s₀ s₁
    kept_one some = added_kept kind weights a (omega (arith, some, first_made.1)) x₁

    has_first : (k : ℕ) → k < 1 → Has with_first k
    has_first = below_more (Has with_first) 0 (below_none (Has with_first)) (omega arith, inl (xs, refl), of_part kind weights weigh (states_of with_first) 0)

    second : (d₂ : Diagram P W) (s₂ : Terms) {r : Result ℕ Refusal} → Added kind weights (records d₁) s₁ ys r (records d₂) s₂ → Asked (EnoughStates (length ys)) (r ≡ Err WrongStates) ((r ≡ Ok 1) × Run kind weights with_both d₂ s₂)
    second d₂ s₂ x = after_adding kind weights promise lent roomy first_made.2 (kept_one {n = 1} (omega arith)).as_long ys d₂ s₂ x (omega arith)

    pub stops_at_two : (d₂ : Diagram P W) (s₂ : Terms) (why : Refusal) → Added kind weights (records d₁) s₁ ys (Err why) (records d₂) s₂ → (r : Result (W × W) Refusal) → r ≡ Err why → Owed r × Leaves s₂
    stops_at_two d₂ s₂ why x r is =
        let (few, told) = denied none (second d₂ s₂ x) in
        let left = subst (RowsOfTwo kind weights way xs ys 1 s₀) (sym (added_refused kind weights x)) (rows 1 first_made.2 has_first (kept_one (omega arith))) in
        (yes roomy (yes first_made.0 (inr (few, is ∙ ap Err (err_same told)))), yes roomy (yes first_made.0 (inr (few, left))))

    module _ (b : ℕ) (d₂ : Diagram P W) (s₂ : Terms) (x₂ : Added kind weights (records d₁) s₁ ys (Ok b) (records d₂) s₂) where
      second_made : EnoughStates (length ys) × (b ≡ 1) × Run kind weights with_both d₂ s₂
      second_made = let z = given (second d₂ s₂ x₂) in (z.0, ok_same z.1.0, z.1.1)

      kept_two : {n : ℕ} → 1 < n → Kept (λ k. k < n) s₀ s₂
      kept_two more = kept_on (kept_one (omega (arith, more))) (added_kept kind weights b (omega (arith, more, second_made.1)) x₂)

      long : length s₂ ≡ lent
      long = (kept_two {n = 2} (omega arith)).as_long

      unused : (c : ℕ) → Unused with_both c
      unused c = unused_on with_first c 1 (added ys) (unused_on [] c 0 (added xs) (λ k. no_one c) (no_one c)) (no_one c)

      -- the joining is that of nodes 0 and 1
      both_joined : (d₃ : Diagram P W) {r : Result ℕ Refusal} → Joins kind weights (records d₂) s₂ (Joined way) (a ∷ b ∷ []) r (records d₃) → (r ≡ Ok 2) × Run kind weights now d₃ s₂
      both_joined d₃ {r} x =
          after_joining kind weights promise lent roomy second_made.2 long (omega arith) (0 ∷ 1 ∷ []) (both_of (λ c. c < 2) (omega arith) (omega arith)) (both_of (Unused with_both) (unused 0) (unused 1)) (apart (λ e. omega (arith, e)))
          way d₃ (subst (λ z. Joins kind weights (records d₂) s₂ (Joined way) z r (records d₃)) (λ i. first_made.1 i ∷ second_made.1 i ∷ []) x) (omega arith, omega arith)

      pub stops_at_joining : (d₃ : Diagram P W) (why : Refusal) → Joins kind weights (records d₂) s₂ (Joined way) (a ∷ b ∷ []) (Err why) (records d₃) → (r : Result (W × W) Refusal) → Owed r × Leaves s₂
      stops_at_joining d₃ why x r = absurd (none (both_joined d₃ x))

      module _ (k : ℕ) (d₃ : Diagram P W) (x₃ : Joins kind weights (records d₂) s₂ (Joined way) (a ∷ b ∷ []) (Ok k) (records d₃)) where
        third_made : (k ≡ 2) × Run kind weights now d₃ s₂
        third_made = let z = both_joined d₃ x₃ in (ok_same z.0, z.1)

        third : (d₄ : Diagram P W) (s₄ : Terms) {r : Result ℕ Refusal} → Collected kind weights (records d₃) s₂ k r (records d₄) s₄ → Collected kind weights (records d₃) s₂ 2 r (records d₄) s₄
        third d₄ s₄ {r} = subst (λ z. Collected kind weights (records d₃) s₂ z r (records d₄) s₄) third_made.0

        collects : (d₄ : Diagram P W) (s₄ : Terms) {r : Result ℕ Refusal} → Collected kind weights (records d₃) s₂ k r (records d₄) s₄ →
            Asked (ShortRow kind weights way xs ys) (r ≡ Err LongResult) ((size : ℕ) × (r ≡ Ok size) × Run kind weights (at_last size) d₄ s₄)
        collects d₄ s₄ {r} x = last (after_collecting_joined kind weights promise lent roomy third_made.1 long 2 (omega arith) way (0 ∷ 1 ∷ []) refl (both_of (Answers now) (inl (xs, refl)) (inl (ys, refl))) d₄ s₄ (third d₄ s₄ x))
          where
            last : Asked (ResultsShort kind weights now 2) (r ≡ Err LongResult) ((row : Terms) × RowOfNode kind weights now 2 row × ((r ≡ Ok (length row)) × Run kind weights (at_last (length row)) d₄ s₄)) →
                Asked (ShortRow kind weights way xs ys) (r ≡ Err LongResult) ((size : ℕ) × (r ≡ Ok size) × Run kind weights (at_last size) d₄ s₄)
            last (inl (short, x)) = inl ((λ row is. short row (_, (0, omega arith, refl), subst (λ z. RowOf kind weights z row) (sym of_both) is)), (length x.0, x.2.0, x.2.1))
            last (inr (over, is)) = inr ((λ short. over (λ row x. short row (subst (λ z. RowOf kind weights z row) of_both (subst (λ z. RowOf kind weights (enumeration kind weights (states_of now) z) row) (sym (the_only x.1)) x.2)))), is)

        pub stops_at_collecting : (d₄ : Diagram P W) (s₄ : Terms) (why : Refusal) → Collected kind weights (records d₃) s₂ k (Err why) (records d₄) s₄ → (r : Result (W × W) Refusal) → r ≡ Err why → Owed r × Leaves s₄
        stops_at_collecting d₄ s₄ why x r is =
            let (over, told) = denied (λ z. ok_not_err (sym z.1)) (collects d₄ s₄ x) in
            let run = (answered kind weights promise lent roomy third_made.1 long (collecting 2) d₄ s₄ (Err why) (Err why, third d₄ s₄ x, refl)).1 in
            let part = of_part kind weights weigh (states_of now) in
            let left = rows 2 run (has_two _ (omega arith, inl (xs, refl), part 0) (omega arith, inl (ys, refl), part 1)) (kept_on (kept_two (omega arith)) (collecting_refused kind weights x)) in
            (yes roomy (yes first_made.0 (yes second_made.0 (inr (over, is ∙ ap Err (err_same told))))), yes roomy (yes first_made.0 (yes second_made.0 (inr (over, left)))))

        module _ (size : ℕ) (d₄ : Diagram P W) (s₄ : Terms) (x₄ : Collected kind weights (records d₃) s₂ k (Ok size) (records d₄) s₄) where
          pub told_at_last : (r : Result (W × W) Refusal) → TellsAvailability kind weights (records d₄) s₄ k demand r → Owed r × Leaves s₄
          told_at_last r x =
              let (short, (n, is, run)) = given (collects d₄ s₄ x₄) in
              let kept = kept_on (kept_two {n = 3} (omega arith)) (collected_kept kind weights (Ok size) (omega (arith, third_made.0)) x₄) in
              let part = of_part kind weights weigh (states_of now) in
              let last : Answers (at_last n) 2 = inr (since_now _ now 2 refl) in
              let answer = sums_told kind weights promise lent roomy run kept.as_long 2 (omega arith) last (λ ts us e. (total_same laws weigh ts us e, λ demand. met_same laws weigh demand ts us e)) all of_both demand r
              (subst (λ z. TellsAvailability kind weights (records d₄) s₄ z demand r) third_made.0 x) in
              let each = below_more (Has (at_last n)) 2 (has_two _ (omega arith, inl (xs, refl), part 0) (omega arith, inl (ys, refl), part 1)) (omega arith, last, of_both) in
              (yes roomy (yes first_made.0 (yes second_made.0 (yes short answer))), yes roomy (yes first_made.0 (yes second_made.0 (yes short (rows 3 run each kept)))))
