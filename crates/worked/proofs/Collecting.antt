-- The right answer to the collecting of a node that is joined from parts.
use Rattle.std.proofs.Common.{◌≡◌, ◌↔◌, ℕ, ◌<◌, ◌≤◌, List, [], ◌∷◌, length, All, Some, Ok, Err, sym, ◌∙◌, ap, subst, inl, inr, arith}
use Rattle.std.proofs.lemmas.List.Elements.{All-contains, All-nil, All-cons}
use Rattle.kinds.specs.declared.performance.Performance
use Rattle.kinds.specs.declared.weight.Weight
use Rattle.kinds.proofs.Lawful.{Kind, Weighing}
use Rattle.terms.specs.declared.term.Term.{Term}
use Rattle.terms.specs.declared.term.Way.{Way}
use Rattle.terms.specs.Drawings.{Drawing}
use Rattle.terms.specs.Enumeration.{enumeration}
use Rattle.terms.specs.Stepwise.{running_drawings, RunningResult}
use Rattle.terms.proofs.Canonical.{row_unique}
use Rattle.diagram.proofs.Lengths.{row_no_longer}
use Rattle.diagram.specs.declared.limits.TheConstants.{TERMS}
use Rattle.diagram.specs.declared.refusal.Refusal.TheVariants.{LongResult}
use Rattle.diagram.specs.Refusals.{Asked}
use Rattle.diagram.specs.Histories.{collecting, number, Reply, History, joined_from, named_by, made, making_of, drawing_of, states_of, children_of, IsPart, Answers}
use Rattle.diagram.specs.RightAnswers.{RightAnswer, RowOfNode, ArmsShort, ResultsShort}
use Rattle.diagram.proofs.RunGoesOn.{yes, granted}

module _ {P W : Type 0} {kind : Performance.Ghosts P} {weights : Weight.Ghosts W} (laws : Kind kind) (weigh : Weighing weights) where
  abbrev Terms : Type 0
  Terms = List (Term P W)

  abbrev Few : (ℕ → Terms) → Drawing → Type 0
  Few states x = length (enumeration kind weights states x) ≤ TERMS

  -- each of the drawings has at most as many combinations as a row may have terms
  abbrev pub FewEach : (ℕ → Terms) → List Drawing → Type 0
  FewEach states [] = Unit {0}
  FewEach states (x ∷ xs) = Few states x × FewEach states xs

  among_few : (states : ℕ → Terms) (xs : List Drawing) → FewEach states xs → All (Few states) xs
  among_few states [] few = All-nil (Few states)
  among_few states (x ∷ xs) few = All-cons (Few states) x xs few.0 (among_few states xs few.1)

  -- a running result is no longer than the list of its combinations
  pub few_combinations : (states : ℕ → Terms) (d : Drawing) → FewEach states (running_drawings d) → (row : Terms) → RunningResult kind weights states d row → length row ≤ TERMS
  few_combinations states d few row (x, among, of) =
      let short = All-contains (Few states) (running_drawings d) x (among_few states (running_drawings d) few) among in
      omega (arith, short, row_no_longer laws weigh _ row of)

  module _ (h : History P W) (k : ℕ) (way : Way) (children : List ℕ) (node : k < made h) (making : making_of h k ≡ Some (joined_from way children)) (parts : All (IsPart h) children) where
    abbrev Right : Reply P W → Type 0
    Right r = RightAnswer kind weights h r (collecting k)

    not_part : ¬ IsPart h k
    not_part p = let z = sym making ∙ p.1 in absurd (cc)

    all_answer : All (Answers h) (children_of h k)
    all_answer = subst (λ m. All (Answers h) (named_by m)) (sym making) (λ i d l. inl (parts i d l))

    no_arms : ArmsShort kind weights h k
    no_arms a b c d e is = let z = sym making ∙ is in absurd (cc)

    abbrev LastAsked : Reply P W → Type 0
    LastAsked r = Asked (ResultsShort kind weights h k) (r ≡ Err LongResult) ((row : Terms) × RowOfNode kind weights h k row × (r ≡ Ok (number (length row))))

    last_asked : (r : Reply P W) → Right r ↔ LastAsked r
    last_asked r = (λ x. granted no_arms (granted all_answer (granted not_part (granted node x))), λ x. yes node (yes not_part (yes all_answer (yes no_arms x))))

    -- it is accepted, with this row
    pub accepted_with : (row : Terms) (n : ℕ) → RowOfNode kind weights h k row → length row ≡ n → ResultsShort kind weights h k → (r : Reply P W) → Right r ↔ (r ≡ Ok (number n))
    accepted_with row n is long short r = (
      λ x.
          let told = granted short ((last_asked r).0 x) in
          let same : told.0 ≡ row = row_unique laws weigh _ told.0 row told.1 is in
          told.2 ∙ ap (λ z. Ok (number z)) (ap length same ∙ long),
      λ e. (last_asked r).1 (yes short (row, is, e ∙ ap (λ z. Ok (number z)) (sym long))),
    )

    -- it is refused: this row is a running result, and too long
    pub refused_with : (row : Terms) → RunningResult kind weights (states_of h) (drawing_of h k) row → TERMS < length row → (r : Reply P W) → Right r ↔ (r ≡ Err LongResult)
    refused_with row is long r =
        let past : ¬ ResultsShort kind weights h k = λ short. let few = short row is in omega (arith, long, few) in
        (λ x. told past ((last_asked r).0 x), λ e. (last_asked r).1 (inr (past, e)))
      where
        told : ¬ ResultsShort kind weights h k → LastAsked r → r ≡ Err LongResult
        told past (inl x) = absurd (past x.0)
        told past (inr x) = x.1
