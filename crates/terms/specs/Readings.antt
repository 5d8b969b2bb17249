-- What a drawing reads as, and when two drawings read the same.
use Rattle.std.specs.Prelude.{◌≡◌, ℕ, Bool, true, false, List}
use Rattle.kinds.specs.declared.performance.Performance
use Rattle.kinds.specs.declared.weight.Weight
use Rattle.terms.specs.declared.term.Term.{Term}
use Rattle.terms.specs.declared.term.Way.{Way}
use Rattle.terms.specs.declared.term.Way.TheVariants.{Series, Parallel}
use Rattle.terms.specs.Rows.{weight_at}
use Rattle.terms.specs.Combinations.{ordered}
use Rattle.terms.specs.Drawings.{Drawing, part, joined, bridge, Children, one, more}

mutual
  -- what a part reads as; a list in series or in parallel; the five arms of a bridge
  pub data Reading (D : Type 0) : Type 0 where
    as_part : D → Reading D
    as_joined : Way → Readings D → Reading D
    as_bridge : Reading D → Reading D → Reading D → Reading D → Reading D → Reading D

  pub data Readings (D : Type 0) : Type 0 where
    none : Readings D
    item : Reading D → Readings D → Readings D

module _ {D : Type 0} where
  abbrev pub and_then : Readings D → Readings D → Readings D
  and_then none ys = ys
  and_then (item x xs) ys = item x (and_then xs ys)

  -- the items that a child gives to a list: itself, but one that is joined in the same way puts its own list in its place
  abbrev pub in_place : Way → Reading D → Readings D
  in_place way (as_part s) = item (as_part s) none
  in_place Series (as_joined Series xs) = xs
  in_place Series (as_joined Parallel xs) = item (as_joined Parallel xs) none
  in_place Parallel (as_joined Series xs) = item (as_joined Series xs) none
  in_place Parallel (as_joined Parallel xs) = xs
  in_place way (as_bridge a b c d e) = item (as_bridge a b c d e) none

  -- the reading of a drawing, given what each part reads as
  module _ (part_reads : ℕ → D) where
    abbrev mutual
      pub reading : Drawing → Reading D
      reading (part n) = as_part (part_reads n)
      reading (joined way ds) = as_joined way (items way ds)
      reading (bridge a b c d e) = as_bridge (reading a) (reading b) (reading c) (reading d) (reading e)

      pub items : Way → Children → Readings D
      items way (one d) = in_place way (reading d)
      items way (more ds d) = and_then (items way ds) (in_place way (reading d))

  -- the same items in another order: neighbours change places, any number of times
  pub data Rearranged : Readings D → Readings D → Type 0 where
    unmoved : {xs : Readings D} → Rearranged xs xs
    swapped : {x y : Reading D} {xs : Readings D} → Rearranged (item x (item y xs)) (item y (item x xs))
    further : {x : Reading D} {xs ys : Readings D} → Rearranged xs ys → Rearranged (item x xs) (item x ys)
    and_again : {xs ys zs : Readings D} → Rearranged xs ys → Rearranged ys zs → Rearranged xs zs

  -- a list may become another by rearrangement if order does not count, and only itself if it does
  abbrev pub MayBecome : Bool → Readings D → Readings D → Type 0
  MayBecome true xs ys = xs ≡ ys
  MayBecome false xs ys = Rearranged xs ys

-- given when two parts are equal, and where order counts
module _ {D : Type 0} (equal : D → D → Type 0) (is_ordered : Way → Bool) where
  mutual
    -- two readings are the same: equal parts; lists joined in the same way that agree, once the first is rearranged where it
    -- may be; bridges arm by arm; different forms never
    pub data SameReading : Reading D → Reading D → Type 0 where
      parts : {x y : D} → equal x y → SameReading (as_part x) (as_part y)
      lists :
          {way : Way} {xs ys : Readings D} (zs : Readings D) → MayBecome (is_ordered way) xs zs → Agree zs ys →
          SameReading (as_joined way xs) (as_joined way ys)
      arms :
          {a b c d e a' b' c' d' e' : Reading D} →
          SameReading a a' → SameReading b b' → SameReading c c' → SameReading d d' → SameReading e e' →
          SameReading (as_bridge a b c d e) (as_bridge a' b' c' d' e')

    -- equally long, and the same item by item
    pub data Agree : Readings D → Readings D → Type 0 where
      ends : Agree none none
      next : {x y : Reading D} {xs ys : Readings D} → SameReading x y → Agree xs ys → Agree (item x xs) (item y ys)

module _ {P W : Type 0} (kind : Performance.Ghosts P) (weights : Weight.Ghosts W) where
  -- a part reads as the distribution of its states
  abbrev pub reading_of : (ℕ → List (Term P W)) → Drawing → Reading (P → W)
  reading_of states = reading λ n. weight_at kind weights (states n)

  abbrev pub EqualDistributions : (P → W) → (P → W) → Type 0
  EqualDistributions f g = (p : P) → f p ≡ g p

  -- two drawings, each with its states, read the same
  abbrev pub ReadSame : (ℕ → List (Term P W)) → Drawing → (ℕ → List (Term P W)) → Drawing → Type 0
  ReadSame states d states' e =
      SameReading EqualDistributions (ordered kind) (reading_of states d) (reading_of states' e)
