-- The calls of a diagram with what they were answered, and what these alone say of its nodes.
use Rattle.std.specs.Prelude.{◌≡◌, ℕ, ◌+◌, List, [], ◌∷◌, ◌++◌, ◌⊎◌, Contains, Option, Some, None, Result, Ok}
use Rattle.terms.specs.declared.term.Term.{Term}
use Rattle.terms.specs.declared.term.Way.{Way}
use Rattle.terms.specs.Drawings.{Drawing, part, joined, bridge, Children, one, more, Beneath}
use Rattle.terms.specs.Enumeration.{but}
use Rattle.diagram.specs.declared.refusal.Refusal.{Refusal}

-- what a node may be asked
pub data Question (P : Type 0) : Type 0 where
  size : Question P
  term : ℕ → Question P
  total : Question P
  availability : P → Question P

pub data Call (P W : Type 0) : Type 0 where
  adding : List (Term P W) → Call P W
  joining : Way → List ℕ → Call P W
  bridging : ℕ → ℕ → ℕ → ℕ → ℕ → Call P W
  restating : ℕ → List (Term P W) → Call P W
  collecting : ℕ → Call P W
  asking : ℕ → Question P → Call P W

pub data Answer (P W : Type 0) : Type 0 where
  number : ℕ → Answer P W
  one_term : Term P W → Answer P W
  one_weight : W → Answer P W
  two_weights : W → W → Answer P W

abbrev pub Reply : Type 0 → Type 0 → Type 0
Reply P W = Result (Answer P W) Refusal

-- a call, how many terms it was lent, and what it was answered
pub record Entry (P W : Type 0) : Type 0 where
  pub call : Call P W
  pub lent : ℕ
  pub reply : Reply P W

-- the newest entry comes first
abbrev pub History : Type 0 → Type 0 → Type 0
History P W = List (Entry P W)

-- how a node is made: added with states, joined from children, or joined as a bridge of five arms
pub data Making (P W : Type 0) : Type 0 where
  added : List (Term P W) → Making P W
  joined_from : Way → List ℕ → Making P W
  bridged_from : ℕ → ℕ → ℕ → ℕ → ℕ → Making P W

-- the drawings of these children, after others
abbrev pub followed_by_all : Children → (ℕ → Drawing) → List ℕ → Children
followed_by_all ds drawing [] = ds
followed_by_all ds drawing (c ∷ cs) = followed_by_all (more ds (drawing c)) drawing cs

module _ {P W : Type 0} where
  -- Whatever an entry says of nodes, it says by these three: the node that it makes, the part that it restates with the
  -- states, and the node that it collects. A refused call does none of it.
  abbrev pub making_by : Call P W → Reply P W → Option (ℕ × Making P W)
  making_by (adding states) (Ok (number k)) = Some (k, added states)
  making_by (joining way children) (Ok (number k)) = Some (k, joined_from way children)
  making_by (bridging a b c d e) (Ok (number k)) = Some (k, bridged_from a b c d e)
  making_by _ _ = None

  abbrev pub restating_by : Call P W → Reply P W → Option (ℕ × List (Term P W))
  restating_by (restating p states) (Ok a) = Some (p, states)
  restating_by _ _ = None

  abbrev pub collecting_by : Call P W → Reply P W → Option ℕ
  collecting_by (collecting k) (Ok a) = Some k
  collecting_by _ _ = None

  abbrev pub makes : Entry P W → Option (ℕ × Making P W)
  makes e = making_by e.call e.reply

  abbrev pub restates : Entry P W → Option (ℕ × List (Term P W))
  restates e = restating_by e.call e.reply

  abbrev pub collects : Entry P W → Option ℕ
  collects e = collecting_by e.call e.reply

  -- how many nodes are made
  abbrev pub with_one : Option (ℕ × Making P W) → ℕ → ℕ
  with_one None n = n
  with_one (Some m) n = n + 1

  abbrev pub made : History P W → ℕ
  made [] = 0
  made (e ∷ h) = with_one (makes e) (made h)

  -- how a node was made, if there is one
  abbrev pub noted_making : Option (ℕ × Making P W) → (ℕ → Option (Making P W)) → ℕ → Option (Making P W)
  noted_making None before = before
  noted_making (Some (k, m)) before = but k (Some m) before

  abbrev pub making_of : History P W → ℕ → Option (Making P W)
  making_of [] = λ k. None
  making_of (e ∷ h) = noted_making (makes e) (making_of h)

  -- the drawing of a node so made, from the drawings of the nodes before it; a part is drawn by its number
  abbrev pub drawn_by : Making P W → ℕ → (ℕ → Drawing) → Drawing
  drawn_by (added states) k drawing = part k
  drawn_by (joined_from way []) k drawing = part k
  drawn_by (joined_from way (c ∷ cs)) k drawing = joined way (followed_by_all (one (drawing c)) drawing cs)
  drawn_by (bridged_from a b c d e) k drawing = bridge (drawing a) (drawing b) (drawing c) (drawing d) (drawing e)

  abbrev pub noted_drawing : Option (ℕ × Making P W) → (ℕ → Drawing) → ℕ → Drawing
  noted_drawing None before = before
  noted_drawing (Some (k, m)) before = but k (drawn_by m k before) before

  abbrev pub drawing_of : History P W → ℕ → Drawing
  drawing_of [] = part
  drawing_of (e ∷ h) = noted_drawing (makes e) (drawing_of h)

  -- the states last accepted of each part
  abbrev pub noted_states : Option (ℕ × Making P W) → (ℕ → List (Term P W)) → ℕ → List (Term P W)
  noted_states (Some (k, added states)) before = but k states before
  noted_states _ before = before

  abbrev pub changed_states : Option (ℕ × List (Term P W)) → (ℕ → List (Term P W)) → ℕ → List (Term P W)
  changed_states None before = before
  changed_states (Some (p, states)) before = but p states before

  abbrev pub states_of : History P W → ℕ → List (Term P W)
  states_of [] = λ n. []
  states_of (e ∷ h) = changed_states (restates e) (noted_states (makes e) (states_of h))

  -- the children that a node was joined from
  abbrev pub named_by : Option (Making P W) → List ℕ
  named_by (Some (joined_from way children)) = children
  named_by (Some (bridged_from a b c d e)) = a ∷ b ∷ c ∷ d ∷ e ∷ []
  named_by _ = []

  abbrev pub children_of : History P W → ℕ → List ℕ
  children_of h k = named_by (making_of h k)

  module _ (h : History P W) where
    abbrev pub IsPart : ℕ → Type 0
    IsPart k = (states : List (Term P W)) × (making_of h k ≡ Some (added states))

    -- no node was joined from c
    abbrev pub Unused : ℕ → Type 0
    Unused c = (k : ℕ) → ¬ Contains (children_of h k) c

    -- an accepted collecting of k is later than every accepted restating of a part beneath it
    pub record CollectedSince (k : ℕ) : Type 0 where
      pub newer : History P W
      pub collecting : Entry P W
      pub older : History P W
      pub in_order : h ≡ newer ++ collecting ∷ older
      pub collected : collects collecting ≡ Some k
      pub none_since :
          (e : Entry P W) (p : ℕ) (states : List (Term P W)) →
          Contains newer e → restates e ≡ Some (p, states) → ¬ Beneath p (drawing_of h k)

    -- a part always answers; a joined node does when it is collected since
    abbrev pub Answers : ℕ → Type 0
    Answers k = IsPart k ⊎ CollectedSince k
