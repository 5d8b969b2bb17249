-- Drawings of a plant from numbered parts, and the parts beneath them.
use Rattle.std.specs.Prelude.{◌≡◌, ℕ, Bool, true, false, cond, ◌||◌, List, [], ◌∷◌, ◌++◌, ◌==◌}
use Rattle.terms.specs.declared.term.Way.{Way}

mutual
  -- a part, by its number; drawings joined in series or in parallel; five drawings as the arms a to e of a bridge
  pub data Drawing : Type 0 where
    part : ℕ → Drawing
    joined : Way → Children → Drawing
    bridge : Drawing → Drawing → Drawing → Drawing → Drawing → Drawing

  -- the drawings that are joined, from the left: one, or some and one more
  pub data Children : Type 0 where
    one : Drawing → Children
    more : Children → Drawing → Children

-- the same, as a list
abbrev pub as_list : Children → List Drawing
as_list (one d) = d ∷ []
as_list (more ds d) = as_list ds ++ d ∷ []

-- one or more parts, by their numbers
pub data PartList : Type 0 where
  only : ℕ → PartList
  and : ℕ → PartList → PartList

abbrev pub followed_by : PartList → PartList → PartList
followed_by (only n) ms = and n ms
followed_by (and n ns) ms = and n (followed_by ns ms)

abbrev pub has : ℕ → PartList → Bool
has n (only m) = n == m
has n (and m ms) = n == m || has n ms

-- no part is listed twice
abbrev pub NoneTwice : PartList → Type 0
NoneTwice (only n) = Unit {0}
NoneTwice (and n ns) = (has n ns ≡ false) × NoneTwice ns

-- each part once, however often it is listed
abbrev pub once : PartList → PartList
once (only n) = only n
once (and n ns) = cond (has n ns) (once ns) (and n (once ns))

-- the part at each place of a drawing, from the left
abbrev mutual
  pub all_parts : Drawing → PartList
  all_parts (part n) = only n
  all_parts (joined way ds) = all_parts_of ds
  all_parts (bridge a b c d e) =
      followed_by (followed_by (followed_by (followed_by (all_parts a) (all_parts b)) (all_parts c)) (all_parts d)) (all_parts e)

  pub all_parts_of : Children → PartList
  all_parts_of (one d) = all_parts d
  all_parts_of (more ds d) = followed_by (all_parts_of ds) (all_parts d)

-- part n stands somewhere in the drawing
abbrev pub Beneath : ℕ → Drawing → Type 0
Beneath n d = has n (all_parts d) ≡ true

-- the parts beneath a drawing, each once
abbrev pub parts_beneath : Drawing → PartList
parts_beneath d = once (all_parts d)

-- no part stands at two places of the drawing
abbrev pub NoPartTwice : Drawing → Type 0
NoPartTwice d = NoneTwice (all_parts d)
