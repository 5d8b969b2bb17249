-- Nodes that were made one after the other: what a history of those calls says of them. How much the calls were lent makes no difference.
use Rattle.std.proofs.Common.{◌≡◌, ℕ, List, [], ◌∷◌, length, Some, Ok, ◌∙◌, ap, refl, subst, inl, inr, arith}
use Rattle.kinds.specs.declared.performance.Performance
use Rattle.kinds.specs.declared.weight.Weight
use Rattle.terms.specs.declared.term.Term.{Term}
use Rattle.terms.specs.Enumeration.{but}
use Rattle.diagram.specs.declared.diagram.Diagram.{Diagram}
use Rattle.diagram.specs.declared.refusal.Refusal.{Refusal}
use Rattle.diagram.specs.Histories.{Making, added, joined_from, bridged_from, number, Reply, making_by, restating_by, with_one, noted_making, noted_drawing, noted_states, changed_states, made, making_of, drawing_of, states_of}
use Rattle.diagram.specs.RightAnswers.{RightAnswer}
use Rattle.diagram.specs.InTurn.{AllCollected, Leaves}
use Rattle.diagram.specs.Makings.{call_of, history_of, drawn}

module _ {P W : Type 0} (lent : ℕ) (ms : List (Making P W)) where
  -- so many nodes are made
  pub many_made : made (history_of lent ms) ≡ length ms
  many_made = at ms
    where
      at : (ms : List (Making P W)) → made (history_of lent ms) ≡ length ms
      at [] = refl
      at (added states ∷ ms) = omega (arith, at ms)
      at (joined_from way children ∷ ms) = omega (arith, at ms)
      at (bridged_from a b c d e ∷ ms) = omega (arith, at ms)

  pub last_making : (m : Making P W) → making_of (history_of lent (m ∷ ms)) ≡ but (length ms) (Some m) (making_of (history_of lent ms))
  last_making (added states) = refl
  last_making (joined_from way children) = refl
  last_making (bridged_from a b c d e) = refl

module _ {P W : Type 0} (lent : ℕ) where
  pub same_made : (ms : List (Making P W)) → made (history_of lent ms) ≡ made (drawn ms)
  same_made [] = refl
  same_made (m ∷ ms) = ap (with_one (making_by (call_of m) (Ok (number (length ms))))) (same_made ms)

  pub same_makings : (ms : List (Making P W)) → making_of (history_of lent ms) ≡ making_of (drawn ms)
  same_makings [] = refl
  same_makings (m ∷ ms) = ap (noted_making (making_by (call_of m) (Ok (number (length ms))))) (same_makings ms)

  pub same_drawings : (ms : List (Making P W)) → drawing_of (history_of lent ms) ≡ drawing_of (drawn ms)
  same_drawings [] = refl
  same_drawings (m ∷ ms) = ap (noted_drawing (making_by (call_of m) (Ok (number (length ms))))) (same_drawings ms)

  pub same_states : (ms : List (Making P W)) → states_of (history_of lent ms) ≡ states_of (drawn ms)
  same_states [] = refl
  same_states (m ∷ ms) =
      ap (λ f. changed_states (restating_by (call_of m) (Ok (number (length ms)))) (noted_states (making_by (call_of m) (Ok (number (length ms)))) f)) (same_states ms)

  module _ (kind : Performance.Ghosts P) (weights : Weight.Ghosts W) where
    -- the answer to a call that makes a node is as right
    pub right_drawn : (ms : List (Making P W)) (m : Making P W) (r : Reply P W) → RightAnswer kind weights (history_of lent ms) r (call_of m) → RightAnswer kind weights (drawn ms) r (call_of m)
    right_drawn ms (added states) r x = rw (same_made ms) at x
    right_drawn ms (joined_from way children) r x = rw (same_made ms, same_makings ms) at x
    right_drawn ms (bridged_from a b c d e) r x = rw (same_made ms, same_makings ms) at x

    -- what is left once the nodes are collected
    module _ {d' : Diagram P W} {s s' : List (Term P W)} (ms : List (Making P W)) where
      leaves_drawn : (n : ℕ) → Leaves kind weights (history_of lent ms) n s d' s' → Leaves kind weights (drawn ms) n s d' s'
      leaves_drawn n (rows, (h, run, f)) = (
        rw (same_made ms, same_makings ms, same_drawings ms, same_states ms) at rows,
        (
          h,
          run,
          record { nodes = f.nodes ∙ same_made ms; makings = f.makings ∙ same_makings ms; drawings = f.drawings ∙ same_drawings ms; states = f.states ∙ same_states ms; answer = f.answer },
        ),
      )

      pub collected_drawn : {R : ℕ → Refusal → Type 0} {rest : Type 0} →
          AllCollected kind weights (history_of lent ms) (λ k why. R k why × Leaves kind weights (history_of lent ms) k s d' s') (rest × Leaves kind weights (history_of lent ms) (made (history_of lent ms)) s d' s') →
          AllCollected kind weights (drawn ms) (λ k why. R k why × Leaves kind weights (drawn ms) k s d' s') (rest × Leaves kind weights (drawn ms) (made (drawn ms)) s d' s')
      collected_drawn (inl (k, why, l, shorts, long, (is, left))) = inl (
        k,
        why,
        rw (same_made ms) at l,
        rw (same_makings ms, same_drawings ms, same_states ms) at shorts,
        rw (same_makings ms, same_drawings ms, same_states ms) at long,
        (is, leaves_drawn k left),
      )
      collected_drawn (inr (shorts, (is, left))) = inr (
        rw (same_made ms, same_makings ms, same_drawings ms, same_states ms) at shorts,
        (is, subst (λ n. Leaves kind weights (drawn ms) n s d' s') (same_made ms) (leaves_drawn _ left)),
      )
