-- Rows worked out step by step, and the running results on the way.
use Rattle.std.specs.Prelude.{ℕ, List, [], ◌∷◌, ◌++◌, Contains}
use Rattle.kinds.specs.declared.performance.Performance
use Rattle.kinds.specs.declared.weight.Weight
use Rattle.terms.specs.declared.term.Term.{Term}
use Rattle.terms.specs.declared.term.Way.{Way}
use Rattle.terms.specs.Rows.{RowOf}
use Rattle.terms.specs.Combinations.{joins, combinations, bridges}
use Rattle.terms.specs.Drawings.{Drawing, part, joined, bridge, Children, one, more}
use Rattle.terms.specs.Enumeration.{enumeration}

-- the first two children so joined, the first three, and so on to all
abbrev pub first_ones : Way → Children → List Drawing
first_ones way (one d) = []
first_ones way (more ds d) = first_ones way ds ++ joined way (more ds d) ∷ []

-- the drawings whose rows are the running results of a drawing; a bridge has one, its own, and a part none
abbrev pub running_drawings : Drawing → List Drawing
running_drawings (part n) = []
running_drawings (joined way ds) = first_ones way ds
running_drawings (bridge a b c d e) = bridge a b c d e ∷ []

module _ {P W : Type 0} (kind : Performance.Ghosts P) (weights : Weight.Ghosts W) (states : ℕ → List (Term P W)) where
  abbrev Terms : Type 0
  Terms = List (Term P W)

  -- a running result: the row of the first j children so joined, for j from 2 to all; of a bridge its own
  abbrev pub RunningResult : Drawing → Terms → Type 0
  RunningResult d r = (x : Drawing) × Contains (running_drawings d) x × RowOf kind weights (enumeration kind weights states x) r

  -- r is found from rows alone: a part's from its states, children joined one after the other from the left, a row at every
  -- step, and a bridge's from the rows of its five arms
  abbrev mutual
    pub WorkedOut : Drawing → Terms → Type 0
    WorkedOut (part n) r = RowOf kind weights (states n) r
    WorkedOut (joined way ds) r = JoinedStepwise way ds r
    WorkedOut (bridge a b c d e) r =
        (ra rb rc rd re : Terms) × WorkedOut a ra × WorkedOut b rb × WorkedOut c rc × WorkedOut d rd × WorkedOut e re ×
        RowOf kind weights (bridges kind weights ra rb rc rd re) r

    pub JoinedStepwise : Way → Children → Terms → Type 0
    JoinedStepwise way (one d) r = WorkedOut d r
    JoinedStepwise way (more ds d) r =
        (before next : Terms) × JoinedStepwise way ds before × WorkedOut d next ×
        RowOf kind weights (combinations weights (joins kind way) before next) r
