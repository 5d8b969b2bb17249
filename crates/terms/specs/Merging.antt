-- What merging terms into lent memory answers, and what it leaves there.
use Rattle.std.specs.Prelude.{◌≡◌, ℕ, ◌<◌, ◌≤◌, List, ◌∷◌, length, take, Some, None, Option, IfSome}
use Rattle.kinds.specs.declared.performance.Performance
use Rattle.kinds.specs.declared.weight.Weight
use Rattle.terms.specs.declared.term.Term.{Term}
use Rattle.terms.specs.Rows.{IsRow, RowOf}

module _ {P W : Type 0} (kind : Performance.Ghosts P) (weights : Weight.Ghosts W) where
  -- An answer n says that the row of ts stands in the first n places of the room, and None that it
  -- is longer than the room. The rest of the room, and after None all of it, is free.
  abbrev pub Merges : List (Term P W) → List (Term P W) → Option ℕ → Type 0
  Merges ts room (Some n) = (n ≤ length room) × RowOf kind weights ts (take n room)
  Merges ts room None = (r : List (Term P W)) × RowOf kind weights ts r × (length room < length r)

  -- Adding t to the row in the first n places of a room. A room shorter than n is refused and stays
  -- as it was. Whatever stands there, an answer is no longer than the room.
  pub record Adds (t : Term P W) (n : ℕ) (before after : List (Term P W)) (answer : Option ℕ) : Type 0 where
    pub within : IfSome answer (λ m. m ≤ length after)
    pub too_short : length before < n → (answer ≡ None) × (after ≡ before)
    pub added :
        n ≤ length before → IsRow kind weights (take n before) →
        Merges (t ∷ take n before) after answer
