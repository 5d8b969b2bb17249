-- Nodes as they are made: one, by a call; and some, one after the other.
use Rattle.std.specs.Prelude.{ℕ, ◌⊎◌, List, [], ◌∷◌, length, slice_index, Result, Ok, Err}
use Rattle.kinds.specs.declared.performance.Performance
use Rattle.kinds.specs.declared.weight.Weight
use Rattle.terms.specs.declared.term.Term.{Term}
use Rattle.diagram.specs.declared.diagram.Diagram.{Diagram}
use Rattle.diagram.specs.declared.limits.TheConstants.{STORE}
use Rattle.diagram.specs.declared.making.Making.{Making as Given}
use Rattle.diagram.specs.declared.making.Making.TheVariants.{Added, Joined, Bridged}
use Rattle.diagram.specs.declared.refusal.Refusal.{Refusal}
use Rattle.diagram.specs.Histories.{Making, added, joined_from, bridged_from, Call, adding, joining, bridging, number, History}
use Rattle.diagram.specs.RightAnswers.{RightAnswer}
use Rattle.diagram.specs.Runs.{as_reply, Performs}
use Rattle.diagram.specs.Shown.{records}

module _ {P W : Type 0} where
  -- what a making says that is handed over
  abbrev pub meaning : Given P W → Making P W
  meaning (Added states) = added states.now
  meaning (Joined way children) = joined_from way children.now
  meaning (Bridged arms) =
      bridged_from (slice_index arms 0) (slice_index arms 1) (slice_index arms 2) (slice_index arms 3) (slice_index arms 4)

  -- the call that makes the node
  abbrev pub call_of : Making P W → Call P W
  call_of (added states) = adding states
  call_of (joined_from way children) = joining way children
  call_of (bridged_from a b c d e) = bridging a b c d e

  -- the calls that made these nodes, each lent so many terms; the newest first
  abbrev pub history_of : ℕ → List (Making P W) → History P W
  history_of lent [] = []
  history_of lent (m ∷ ms) =
      record { call = call_of m; lent = lent; reply = Ok (number (length ms)) } ∷ history_of lent ms

  -- each lent as many as a call asks for, which says the same of the nodes as if there were more
  abbrev pub drawn : List (Making P W) → History P W
  drawn = history_of STORE

module _ {P W : Type 0} (kind : Performance.Ghosts P) (weights : Weight.Ghosts W) where
  -- the node is made as by its call
  abbrev pub MadeAs : Given P W → Diagram P W → List (Term P W) → Result ℕ Refusal → Diagram P W → List (Term P W) → Type 0
  MadeAs given d s r d' s' = Performs kind weights (call_of (meaning given)) (records d) s (as_reply number r) (records d') s'

  -- the diagram takes node m after these
  abbrev pub TakesNext : List (Making P W) → Making P W → Type 0
  TakesNext ms m = RightAnswer kind weights (drawn ms) (Ok (number (length ms))) (call_of m)

  -- the diagram takes these nodes, one after the other
  abbrev pub TakesAll : List (Making P W) → Type 0
  TakesAll [] = Unit {0}
  TakesAll (m ∷ ms) = TakesAll ms × TakesNext ms m

  -- the diagram's own questions about node m after these: it is taken, or refused
  abbrev pub TakenOr : List (Making P W) → Making P W → (Refusal → Type 0) → Type 0 → Type 0
  TakenOr ms m refused rest =
      (TakesNext ms m × rest) ⊎ ((why : Refusal) × RightAnswer kind weights (drawn ms) (Err why) (call_of m) × refused why)
