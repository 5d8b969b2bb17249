-- What the answers of a diagram say of true counts, where weights count up to a top.
use Rattle.std.specs.Prelude.{◌≡◌, ℕ, ◌<◌, List, ◌∷◌, Ok}
use Rattle.kinds.specs.Capped.{capped}
use Rattle.kinds.specs.Counting.{whole_numbers, CountsTo}
use Rattle.kinds.specs.declared.performance.Performance
use Rattle.kinds.specs.declared.weight.Weight
use Rattle.terms.specs.declared.term.Term.{Term}
use Rattle.terms.specs.Rows.{RowOf}
use Rattle.terms.specs.Sums.{total_of}
use Rattle.terms.specs.Counted.{reweighed, true_combinations}
use Rattle.diagram.specs.declared.diagram.Diagram.{Diagram}
use Rattle.diagram.specs.Histories.{Question, asking, Answer, number, one_term, one_weight, two_weights, Entry, History, drawing_of, states_of}
use Rattle.diagram.specs.RightAnswers.{Tells}
use Rattle.diagram.specs.Runs.{Run}

-- an answer with each weight in it changed
abbrev pub with_weights : {P V W : Type 0} → (V → W) → Answer P V → Answer P W
with_weights f (number n) = number n
with_weights f (one_term t) = one_term (reweighed f t)
with_weights f (one_weight w) = one_weight (f w)
with_weights f (two_weights met all) = two_weights (f met) (f all)

module _ {P W : Type 0} (kind : Performance.Ghosts P) (count : W → ℕ) where
  -- the true row of node k: that of all the combinations of the states last accepted for the parts beneath it, weighed
  -- with whole numbers, which never stop
  abbrev pub TrueRow : History P W → ℕ → List (Term P ℕ) → Type 0
  TrueRow h k = RowOf kind whole_numbers (true_combinations kind count (states_of h) (drawing_of h k))

  -- The answer is that of the true row, each weight stopped at the top once; and where the total, so stopped, is below
  -- the top, nothing was stopped. (A single weight is the true one if it is below the top, `CapLaws.below_top`, else the
  -- true one is the top or more, `CapLaws.at_top`.)
  abbrev pub StoppedOnce : ℕ → History P W → ℕ → Question P → Answer P W → Type 0
  StoppedOnce top h k question answer =
      (row : List (Term P ℕ)) × (truth : Answer P ℕ) × TrueRow h k row
      × Tells kind whole_numbers row question (Ok truth)
      × (with_weights count answer ≡ with_weights (capped top) truth)
      × (capped top (total_of whole_numbers row) < top → with_weights count answer ≡ truth)

module _ {P W : Type 0} (kind : Performance.Ghosts P) (weights : Weight.Ghosts W) where
  abbrev answered : ℕ → Question P → ℕ → Answer P W → Entry P W
  answered k question lent answer = record { call = asking k question; lent = lent; reply = Ok answer }

  -- where weights count up to a top, whatever a diagram answers is the truth, stopped at the top once
  abbrev pub WeightsStopOnce : Type 0
  WeightsStopOnce =
      (top : ℕ) (count : W → ℕ) → CountsTo top weights count →
      (h : History P W) (d : Diagram P W) (s : List (Term P W)) (k lent : ℕ) (question : Question P) (answer : Answer P W) →
      Run kind weights (answered k question lent answer ∷ h) d s → StoppedOnce kind count top h k question answer
