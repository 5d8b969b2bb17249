-- The combinations of a drawing: one state picked for each part beneath it.
use Rattle.std.specs.Prelude.{ℕ, cond, List, [], ◌∷◌, ◌==◌}
use Rattle.kinds.specs.declared.performance.Performance
use Rattle.kinds.specs.declared.weight.Weight
use Rattle.terms.specs.declared.term.Term.{Term}
use Rattle.terms.specs.declared.term.Way.{Way}
use Rattle.terms.specs.Combinations.{each, term, joins}
use Rattle.terms.specs.Drawings.{Drawing, part, joined, bridge, Children, one, more, PartList, only, and, parts_beneath}

-- f, but s at n
abbrev pub but : {S : Type 0} → ℕ → S → (ℕ → S) → ℕ → S
but n s f m = cond (n == m) s (f m)

-- All the ways to pick one state for each of some parts. A pick is a function of the part's number, so a part that stands
-- at two places is in one state; what a pick says of other parts is never asked.
abbrev pub picks : {S : Type 0} → (ℕ → List S) → PartList → List (ℕ → S)
picks states (only n) = each (states n) λ s. (λ _. s) ∷ []
picks states (and n ns) = each (states n) λ s. each (picks states ns) λ pick. but n s pick ∷ []

module _ {P W : Type 0} (kind : Performance.Ghosts P) where
  -- the performance of a drawing whose parts are in the picked states: children are taken from the left, arms from a to e
  abbrev mutual
    pub performance_of : Drawing → (ℕ → Term P W) → P
    performance_of (part n) pick = (pick n).performance
    performance_of (joined way ds) pick = joined_performance way ds pick
    performance_of (bridge a b c d e) pick =
        kind.bridge (performance_of a pick) (performance_of b pick) (performance_of c pick) (performance_of d pick) (performance_of e pick)

    pub joined_performance : Way → Children → (ℕ → Term P W) → P
    joined_performance way (one d) pick = performance_of d pick
    joined_performance way (more ds d) pick = joins kind way (joined_performance way ds pick) (performance_of d pick)

module _ {P W : Type 0} (weights : Weight.Ghosts W) where
  -- the product of the picked weights, one factor for each of the parts
  abbrev pub weight_of : PartList → (ℕ → Term P W) → W
  weight_of (only n) pick = (pick n).weight
  weight_of (and n ns) pick = weights.product (pick n).weight (weight_of ns pick)

module _ {P W : Type 0} (kind : Performance.Ghosts P) (weights : Weight.Ghosts W) where
  -- a combination, as a term
  abbrev pub combination : Drawing → (ℕ → Term P W) → Term P W
  combination d pick = term (performance_of kind d pick) (weight_of weights (parts_beneath d) pick)

  -- all the combinations of a drawing, each once
  abbrev pub enumeration : (ℕ → List (Term P W)) → Drawing → List (Term P W)
  enumeration states d = each (picks states (parts_beneath d)) λ pick. combination d pick ∷ []
