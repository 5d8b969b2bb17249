-- The right answer to a call, after a history: question by question, in the words of the plant.
use Rattle.std.specs.Prelude.{◌≡◌, ◌≢◌, ℕ, ◌<◌, ◌≤◌, List, [], ◌∷◌, length, slice_index_or, Some, Ok, Err, All, AllPairs}
use Rattle.kinds.specs.declared.performance.Performance
use Rattle.kinds.specs.declared.weight.Weight
use Rattle.terms.specs.declared.term.Term.{Term}
use Rattle.terms.specs.Rows.{RowOf}
use Rattle.terms.specs.Sums.{total_of, met_of}
use Rattle.diagram.specs.declared.limits.TheConstants.{NODES, ARM_TERMS, STORE}
use Rattle.diagram.specs.declared.refusal.Refusal.TheVariants.{ShortStore, NoNumberLeft, WrongStates, WrongChildren, NoNode, InUse, Repeated, NotPart, NotJoined, StaleChild, LongArm, LongResult, Stale, NoTerm}
use Rattle.diagram.specs.Refusals.{Asked}
use Rattle.diagram.specs.Nodes.{EnoughChildren, EnoughStates}
use Rattle.diagram.specs.Results.{RowOfDrawing, ResultsFit}
use Rattle.diagram.specs.Histories.{Question, size, term, total, availability, Call, adding, joining, bridging, restating, collecting, asking, number, one_term, one_weight, two_weights, Reply, Entry, History, bridged_from, made, making_of, drawing_of, states_of, children_of, IsPart, Unused, Answers}

module _ {P W : Type 0} (kind : Performance.Ghosts P) (weights : Weight.Ghosts W) where
  abbrev Terms : Type 0
  Terms = List (Term P W)

  -- what a node tells whose row this is
  abbrev pub Tells : Terms → Question P → Reply P W → Type 0
  Tells row size r = r ≡ Ok (number (length row))
  Tells row (term i) r =
      Asked (i < length row) (r ≡ Err NoTerm) ((t : Term P W) × (slice_index_or row i t ≡ t) × (r ≡ Ok (one_term t)))
  Tells row total r = r ≡ Ok (one_weight (total_of weights row))
  Tells row (availability demand) r = r ≡ Ok (two_weights (met_of kind weights demand row) (total_of weights row))

  module _ (h : History P W) where
    -- row is that of all the combinations of the states last accepted for the parts beneath node k
    abbrev pub RowOfNode : ℕ → Terms → Type 0
    RowOfNode k = RowOfDrawing kind weights (states_of h) (drawing_of h k)

    -- if k is a bridge, the row of each arm is short enough
    abbrev pub ArmsShort : ℕ → Type 0
    ArmsShort k =
        (a b c d e : ℕ) → making_of h k ≡ Some (bridged_from a b c d e) →
        All (λ arm. (row : Terms) → RowOfNode arm row → length row ≤ ARM_TERMS) (children_of h k)

    -- each running result of k is short enough
    abbrev pub ResultsShort : ℕ → Type 0
    ResultsShort k = ResultsFit kind weights (states_of h) (drawing_of h k)

    module _ (r : Reply P W) where
      -- the questions about the children that a joining names, and its answer
      abbrev naming : List ℕ → Type 0
      naming children =
          Asked (All (λ c. c < made h) children) (r ≡ Err NoNode)
          (Asked (All (Unused h) children) (r ≡ Err InUse)
          (Asked (AllPairs ◌≢◌ children) (r ≡ Err Repeated)
          (r ≡ Ok (number (made h)))))

      -- the answer r is right, after h
      abbrev pub RightAnswer : Call P W → Type 0
      RightAnswer (adding states) =
          Asked (made h < NODES) (r ≡ Err NoNumberLeft)
          (Asked (EnoughStates (length states)) (r ≡ Err WrongStates)
          (r ≡ Ok (number (made h))))
      RightAnswer (joining way children) =
          Asked (made h < NODES) (r ≡ Err NoNumberLeft)
          (Asked (EnoughChildren (length children)) (r ≡ Err WrongChildren)
          (naming children))
      RightAnswer (bridging a b c d e) =
          Asked (made h < NODES) (r ≡ Err NoNumberLeft) (naming (a ∷ b ∷ c ∷ d ∷ e ∷ []))
      RightAnswer (restating k states) =
          Asked (k < made h) (r ≡ Err NoNode)
          (Asked (IsPart h k) (r ≡ Err NotPart)
          (Asked (EnoughStates (length states)) (r ≡ Err WrongStates)
          ((row : Terms) × RowOf kind weights states row × (r ≡ Ok (number (length row))))))
      RightAnswer (collecting k) =
          Asked (k < made h) (r ≡ Err NoNode)
          (Asked (¬ IsPart h k) (r ≡ Err NotJoined)
          (Asked (All (Answers h) (children_of h k)) (r ≡ Err StaleChild)
          (Asked (ArmsShort k) (r ≡ Err LongArm)
          (Asked (ResultsShort k) (r ≡ Err LongResult)
          ((row : Terms) × RowOfNode k row × (r ≡ Ok (number (length row))))))))
      RightAnswer (asking k question) =
          Asked (k < made h) (r ≡ Err NoNode)
          (Asked (Answers h k) (r ≡ Err Stale)
          ((row : Terms) × RowOfNode k row × Tells row question r))

    -- the entry is right, after h: first of all, is it lent enough terms?
    abbrev pub Right : Entry P W → Type 0
    Right e = Asked (STORE ≤ e.lent) (e.reply ≡ Err ShortStore) (RightAnswer e.reply e.call)

  -- every entry is, after those before it
  abbrev pub RightThroughout : History P W → Type 0
  RightThroughout [] = Unit {0}
  RightThroughout (e ∷ h) = Right h e × RightThroughout h
