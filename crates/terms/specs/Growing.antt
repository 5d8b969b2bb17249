-- Cited by private functions only: what merging terms into a lent row does, and what closures do for it.
use Rattle.std.specs.Prelude.{◌≡◌, ℕ, Bool, true, List, [], ◌∷◌, ◌++◌, take, Some, None, Option}
use Rattle.std.specs.Borrow.{MutBor}
use Rattle.std.specs.List.Sorted.{IsPartitionPoint}
use Rattle.std.specs.declared.cmp.Ordering.TheVariants.{Less, Greater}
use Rattle.kinds.specs.declared.performance.Performance
use Rattle.kinds.specs.declared.weight.Weight
use Rattle.terms.specs.declared.term.Term.{Term}
use Rattle.terms.specs.declared.row.Row.{Row}
use Rattle.terms.specs.declared.row.Group.{Group}
use Rattle.terms.specs.Rows.{SameDistribution, IsRow}
use Rattle.terms.specs.Merging.{Merges}
use Rattle.terms.specs.Combinations.{each, term}

-- the length, where something is answered
abbrev pub length_if : Option (Unit {0}) → ℕ → Option ℕ
length_if (Some _) n = Some n
length_if None n = None

-- the terms of the row that stands in a room
abbrev pub terms_of : {P W : Type 0} → Row P W → List (Term P W)
terms_of row = take row.len row.room.now

-- t with its weight times w
abbrev pub scaled : {P W : Type 0} → Weight.Ghosts W → W → Term P W → Term P W
scaled weights w t = term t.performance (weights.product w t.weight)

-- a term with its performance changed by g, and its weight times w
abbrev pub mapped : {P W : Type 0} → Weight.Ghosts W → (P → P) → W → Term P W → Term P W
mapped weights g w t = term (g t.performance) (weights.product w t.weight)

-- the claim holds of whatever g x the calls of the closure are known to make of each x
abbrev pub OfMap : {A B : Type 0} → (A → B → Type 0) → ((A → B) → Type 0) → Type 0
OfMap {A} {B} post claim = (g : A → B) → ((x : A) (y : B) → post x y → y ≡ g x) → claim g

module _ {P W : Type 0} (kind : Performance.Ghosts P) (weights : Weight.Ghosts W) where
  abbrev Terms : Type 0
  Terms = List (Term P W)

  abbrev StepAnswer : Type 0
  StepAnswer = Option (Unit {0})

  -- what is known of a step's calls: the row, what the step is taken for, the answer, the row after
  abbrev Calls : Type 0 → Type 1
  Calls X = MutBor (Row P W) → X → StepAnswer → MutBor (Row P W) → Type 0

  -- the terms of r before place i are less than t, and those from there on greater
  abbrev pub Gap : Term P W → Terms → ℕ → Type 0
  Gap t r i =
      let compared = λ (x : Term P W). kind.compared x.performance t.performance in
      IsPartitionPoint (λ x. compared x ≡ Less) (λ x. compared x ≡ Greater) r i

  -- more terms are merged onto the row, in the same room
  pub record Grows (more : Terms) (before after : Row P W) (answer : StepAnswer) : Type 0 where
    pub same_room : after.room.ghost_name ≡ before.room.ghost_name
    pub merged :
        IsRow kind weights (terms_of before) →
        Merges kind weights (more ++ terms_of before) after.room.now (length_if answer after.len)

  -- the same of one term of no performance in the row, which belongs at the place i
  pub record GrowsAt (t : Term P W) (i : ℕ) (before after : Row P W) (answer : StepAnswer) : Type 0 where
    pub same_room : after.room.ghost_name ≡ before.room.ghost_name
    pub merged :
        IsRow kind weights (terms_of before) → Gap t (terms_of before) i →
        Merges kind weights (t ∷ terms_of before) after.room.now (length_if answer after.len)

  -- the claim holds of whatever the step's calls are known to merge onto the row: for x, `gives x`
  abbrev pub OfStep : Calls (Term P W) → ((Term P W → Terms) → Type 0) → Type 0
  OfStep post claim =
      (gives : Term P W → Terms) →
      ((row after : MutBor (Row P W)) (x : Term P W) (answer : StepAnswer) →
      post row x answer after → Grows (gives x) row.now after.now answer) → claim gives

  -- what the step gives for each of xs is merged onto the row
  abbrev pub GrowsEach : Calls (Term P W) → Terms → Row P W → Row P W → StepAnswer → Type 0
  GrowsEach post xs before after answer = OfStep post λ gives. Grows (each xs gives) before after answer

  -- what a term whose weight is nothing gives, has no weight either
  abbrev pub GivesNothing : (Term P W → Terms) → Type 0
  GivesNothing gives =
      (x : Term P W) → x.weight ≡ weights.nothing → SameDistribution kind weights (gives x) []

  -- what the step gives for x, its weight times v, is merged onto the row
  abbrev pub GrowsTimes : Calls (Term P W) → W → Term P W → Row P W → Row P W → StepAnswer → Type 0
  GrowsTimes post v x before after answer =
      OfStep post λ gives. Grows (gives (scaled weights v x)) before after answer

  -- the same for each of xs, where no weight gives nothing
  abbrev pub GrowsEachTimes : Calls (Term P W) → W → Terms → Row P W → Row P W → StepAnswer → Type 0
  GrowsEachTimes post v xs before after answer =
      OfStep post λ gives. GivesNothing gives →
      Grows (each xs λ x. gives (scaled weights v x)) before after answer

  -- the terms that are wanted of each of xs, its weight times v
  abbrev pub each_wanted : (P → W → Terms) → W → Terms → Terms
  each_wanted wanted v xs = each xs λ x. wanted x.performance (weights.product v x.weight)

  module _ {K : Type 0} (key_post : P → K → Type 0) (same_post : K → K → Bool → Type 0) (step_post : Calls (Group K W)) where
    -- What three closures do for `wanted`, the terms that are wanted of a performance with some
    -- weight: its key gives the same, and a step merges what its key gives. Two keys of which `same`
    -- says yes are equal. A sum of weights gives what both give, and of no weight nothing is wanted.
    pub record Groups (wanted : P → W → Terms) (gives : K → W → Terms) : Type 0 where
      pub keys :
          (p : P) (key : K) (v : W) → key_post p key → SameDistribution kind weights (gives key v) (wanted p v)
      pub same : (key other : K) → same_post key other true → key ≡ other
      pub steps :
          (row after : MutBor (Row P W)) (group : Group K W) (answer : StepAnswer) →
          step_post row group answer after → Grows (gives group.key group.weight) row.now after.now answer
      pub sums :
          (key : K) (u v : W) → SameDistribution kind weights (gives key (weights.sum u v)) (gives key u ++ gives key v)
      pub nothing : (p : P) → SameDistribution kind weights (wanted p weights.nothing) []

    -- the claim holds of whatever the calls of the three closures are known to do
    abbrev pub OfGroups : ((P → W → Terms) → (K → W → Terms) → Type 0) → Type 0
    OfGroups claim =
        (wanted : P → W → Terms) (gives : K → W → Terms) → Groups wanted gives → claim wanted gives

    -- what is wanted of each of xs, its weight times v, is merged onto the row
    abbrev pub GrowsByGroup : W → Terms → Row P W → Row P W → StepAnswer → Type 0
    GrowsByGroup v xs before after answer =
        OfGroups λ wanted gives. Grows (each_wanted wanted v xs) before after answer

    -- the same, and before it what a group gives
    abbrev pub GrowsOnGroup : W → Group K W → Terms → Row P W → Row P W → StepAnswer → Type 0
    GrowsOnGroup v group xs before after answer =
        OfGroups λ wanted gives.
        Grows (gives group.key (weights.product v group.weight) ++ each_wanted wanted v xs) before after answer
