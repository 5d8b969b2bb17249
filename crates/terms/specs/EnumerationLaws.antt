-- What holds of the combinations of every drawing, for every kind and weight.
use Rattle.std.specs.Prelude.{◌≡◌, ℕ, ◌*◌, ◌↔◌, List, [], ◌∷◌, length, All, Contains}
use Rattle.kinds.specs.declared.performance.Performance
use Rattle.kinds.specs.declared.weight.Weight
use Rattle.terms.specs.declared.term.Term.{Term}
use Rattle.terms.specs.declared.term.Way.{Way}
use Rattle.terms.specs.Rows.{RowOf}
use Rattle.terms.specs.Combinations.{each, term, joins, combinations, bridges}
use Rattle.terms.specs.Drawings.{Drawing, part, joined, bridge, Children, one, more, PartList, only, and, has, NoneTwice, all_parts, Beneath, parts_beneath, NoPartTwice}
use Rattle.terms.specs.Enumeration.{performance_of, combination, enumeration}
use Rattle.terms.specs.Stepwise.{running_drawings, RunningResult, WorkedOut}

-- the parts beneath a drawing are those that stand in it, each once
abbrev pub BeneathOnce : Type 0
BeneathOnce =
    (d : Drawing) → NoneTwice (parts_beneath d) × ((n : ℕ) → has n (parts_beneath d) ≡ has n (all_parts d))

-- three children have two running results: the first two, and all
abbrev pub RunningOfThree : Type 0
RunningOfThree =
    (way : Way) (a b c : Drawing) →
    running_drawings (joined way (more (more (one a) b) c)) ≡ joined way (more (one a) b) ∷ joined way (more (more (one a) b) c) ∷ []

-- the number of ways to pick one state for each of the parts
abbrev pub ways_to_pick : {S : Type 0} → (ℕ → List S) → PartList → ℕ
ways_to_pick states (only n) = length (states n)
ways_to_pick states (and n ns) = length (states n) * ways_to_pick states ns

module _ {P W : Type 0} (kind : Performance.Ghosts P) (weights : Weight.Ghosts W) where
  abbrev States : Type 0
  States = ℕ → List (Term P W)

  abbrev enumerated : States → Drawing → List (Term P W)
  enumerated = enumeration kind weights

  -- each part beneath the drawing is in one of its states
  abbrev PicksFrom : States → Drawing → (ℕ → Term P W) → Type 0
  PicksFrom states d pick = (n : ℕ) → Beneath n d → Contains (states n) (pick n)

  -- every combination is listed, nothing else is, and there are as many as ways to pick
  abbrev pub EveryCombination : Type 0
  EveryCombination =
      (states : States) (d : Drawing) (pick : ℕ → Term P W) → PicksFrom states d pick →
      Contains (enumerated states d) (combination kind weights d pick)

  abbrev pub NothingElse : Type 0
  NothingElse =
      (states : States) (d : Drawing) →
      All (λ t. (pick : ℕ → Term P W) × PicksFrom states d pick × (t ≡ combination kind weights d pick))
      (enumerated states d)

  abbrev pub AsManyAsPicks : Type 0
  AsManyAsPicks =
      (states : States) (d : Drawing) → length (enumerated states d) ≡ ways_to_pick states (parts_beneath d)

  -- a drawing of one part, at however many places, has for each of its states a combination of that weight
  abbrev pub OnePartOnly : Type 0
  OnePartOnly =
      (states : States) (d : Drawing) (n : ℕ) → parts_beneath d ≡ only n →
      enumerated states d ≡ each (states n) λ s. term (performance_of kind d (λ _. s)) s.weight ∷ []

  -- so a part that stands at two places is picked once, and its weight counts once
  abbrev pub PickedOnce : Type 0
  PickedOnce =
      (states : States) (way : Way) (n : ℕ) →
      enumerated states (joined way (more (one (part n)) (part n))) ≡
      each (states n) λ s. term (joins kind way s.performance s.performance) s.weight ∷ []

  -- states of other parts do not matter
  abbrev pub OnlyPartsBeneath : Type 0
  OnlyPartsBeneath =
      (states states' : States) (d : Drawing) → ((n : ℕ) → Beneath n d → states n ≡ states' n) →
      enumerated states d ≡ enumerated states' d

  -- child by child: the combinations of a part are its states, those of one child the child's
  abbrev pub OfPart : Type 0
  OfPart = (states : States) (n : ℕ) → enumerated states (part n) ≡ states n

  abbrev pub OfOne : Type 0
  OfOne =
      (states : States) (way : Way) (d : Drawing) → enumerated states (joined way (one d)) ≡ enumerated states d

  -- with one child more, those of the children before it combined with those of the child
  abbrev pub OfMore : Type 0
  OfMore =
      (states : States) (way : Way) (ds : Children) (d : Drawing) →
      NoPartTwice (joined way (more ds d)) →
      enumerated states (joined way (more ds d)) ≡
      combinations weights (joins kind way) (enumerated states (joined way ds)) (enumerated states d)

  -- and of a bridge, those of its five arms combined
  abbrev pub OfBridge : Type 0
  OfBridge =
      (states : States) (a b c d e : Drawing) → NoPartTwice (bridge a b c d e) →
      enumerated states (bridge a b c d e) ≡
      bridges kind weights (enumerated states a) (enumerated states b) (enumerated states c)
      (enumerated states d) (enumerated states e)

  -- what is worked out step by step is the row of all the combinations, and nothing else
  abbrev pub StepsFindTheRow : Type 0
  StepsFindTheRow =
      (states : States) (d : Drawing) → NoPartTwice d → (r : List (Term P W)) →
      WorkedOut kind weights states d r ↔ RowOf kind weights (enumerated states d) r

  -- and the running results are what is so worked out on the way
  abbrev pub StepsFindRunningResults : Type 0
  StepsFindRunningResults =
      (states : States) (d : Drawing) → NoPartTwice d → (r : List (Term P W)) →
      RunningResult kind weights states d r ↔ ((x : Drawing) × Contains (running_drawings d) x × WorkedOut kind weights states x r)
