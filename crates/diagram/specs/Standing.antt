-- Which rows stand in a store that was lent, after some calls.
use Rattle.std.specs.Prelude.{ℕ, List}
use Rattle.kinds.specs.declared.performance.Performance
use Rattle.kinds.specs.declared.weight.Weight
use Rattle.terms.specs.declared.term.Term.{Term}
use Rattle.terms.specs.Rows.{RowOf}
use Rattle.diagram.specs.Store.{StandsAt, Kept}

module _ {P W : Type 0} (kind : Performance.Ghosts P) (weights : Weight.Ghosts W) where
  -- each of these nodes has the row of its terms, and nothing has changed but their places and the working rows
  pub record RowsStand (nodes : ℕ → Type 0) (terms_of : ℕ → List (Term P W)) (before after : List (Term P W)) : Type 0 where
    pub stand : (k : ℕ) → nodes k → (row : List (Term P W)) × RowOf kind weights (terms_of k) row × StandsAt k row after
    pub others : Kept nodes before after
