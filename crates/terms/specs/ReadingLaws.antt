-- What holds of the readings of every drawing, for every kind and weight.
use Rattle.std.specs.Prelude.{◌≡◌, ℕ, true, false, List, ◌∷◌, ◌++◌}
use mathlib.Core.List.{Permᴰ}
use Rattle.kinds.specs.declared.performance.Performance
use Rattle.kinds.specs.declared.weight.Weight
use Rattle.terms.specs.declared.term.Term.{Term}
use Rattle.terms.specs.declared.term.Way.{Way}
use Rattle.terms.specs.declared.term.Way.TheVariants.{Series, Parallel}
use Rattle.terms.specs.Rows.{weight_at, SameDistribution, RowOf}
use Rattle.terms.specs.Sums.{total_of, met_of}
use Rattle.terms.specs.Combinations.{ordered}
use Rattle.terms.specs.Drawings.{Drawing, part, joined, bridge, Children, one, more, as_list, Beneath, NoPartTwice}
use Rattle.terms.specs.Enumeration.{enumeration}
use Rattle.terms.specs.Readings.{as_part, as_bridge, reading_of, ReadSame}

-- the same drawings in another order
abbrev pub Permuted : List Drawing → List Drawing → Type 0
Permuted = Permᴰ

module _ {P W : Type 0} (kind : Performance.Ghosts P) (weights : Weight.Ghosts W) where
  abbrev Terms : Type 0
  Terms = List (Term P W)

  abbrev States : Type 0
  States = ℕ → Terms

  abbrev enumerated : States → Drawing → Terms
  enumerated = enumeration kind weights

  abbrev Reads : States → Drawing → States → Drawing → Type 0
  Reads = ReadSame kind weights

  -- of two drawings that read the same, and in neither of which a part stands twice
  abbrev OfTwoThatReadSame : (States → Drawing → States → Drawing → Type 0) → Type 0
  OfTwoThatReadSame Holds =
      (states : States) (d : Drawing) (states' : States) (e : Drawing) → NoPartTwice d → NoPartTwice e →
      Reads states d states' e → Holds states d states' e

  -- they have the same distribution
  abbrev pub SameByReading : Type 0
  SameByReading = OfTwoThatReadSame λ states d states' e.
      SameDistribution kind weights (enumerated states d) (enumerated states' e)

  -- hence the same row
  abbrev pub RowByReading : Type 0
  RowByReading = OfTwoThatReadSame λ states d states' e.
      (r s : Terms) → RowOf kind weights (enumerated states d) r →
      RowOf kind weights (enumerated states' e) s → r ≡ s

  -- the same sum over everything, and over the terms that meet any demand
  abbrev pub TotalByReading : Type 0
  TotalByReading = OfTwoThatReadSame λ states d states' e.
      total_of weights (enumerated states d) ≡ total_of weights (enumerated states' e)

  abbrev pub MetByReading : Type 0
  MetByReading = OfTwoThatReadSame λ states d states' e.
      (demand : P) →
      met_of kind weights demand (enumerated states d) ≡ met_of kind weights demand (enumerated states' e)

  -- a part reads as the distribution of its states, and a bridge as its arms from a to e
  abbrev pub PartReads : Type 0
  PartReads =
      (states : States) (n : ℕ) →
      reading_of kind weights states (part n) ≡ as_part (weight_at kind weights (states n))

  abbrev pub BridgeReads : Type 0
  BridgeReads =
      (states : States) (a b c d e : Drawing) →
      let read = reading_of kind weights states in
      read (bridge a b c d e) ≡ as_bridge (read a) (read b) (read c) (read d) (read e)

  -- states of other parts do not matter
  abbrev pub OnlyPartsRead : Type 0
  OnlyPartsRead =
      (states states' : States) (d : Drawing) → ((n : ℕ) → Beneath n d → states n ≡ states' n) →
      reading_of kind weights states d ≡ reading_of kind weights states' d

  -- regrouped: three children, the last two joined first or the first two
  abbrev pub Regrouped : Type 0
  Regrouped =
      (states : States) (way : Way) (a b c : Drawing) →
      Reads states (joined way (more (one a) (joined way (more (one b) c))))
      states (joined way (more (one (joined way (more (one a) b))) c))

  -- any number of children: one that is joined in the same way may give its place to its own children
  abbrev pub Dissolved : Type 0
  Dissolved =
      (states : States) (way : Way) (front back : List Drawing) (own before after : Children) →
      as_list before ≡ front ++ joined way own ∷ back → as_list after ≡ front ++ (as_list own ++ back) →
      Reads states (joined way before) states (joined way after)

  -- children in any other order, where order does not count
  abbrev pub InAnyOrder : Type 0
  InAnyOrder =
      (states : States) (way : Way) → ordered kind way ≡ false →
      (ds es : Children) → Permuted (as_list ds) (as_list es) →
      Reads states (joined way ds) states (joined way es)

  -- where it counts, two parts exchanged read the same only if their distributions are the same
  abbrev pub OrderMatters : Type 0
  OrderMatters =
      (states : States) (way : Way) → ordered kind way ≡ true → (m n : ℕ) →
      Reads states (joined way (more (one (part m)) (part n))) states (joined way (more (one (part n)) (part m))) →
      SameDistribution kind weights (states m) (states n)

  -- drawings of different form never read the same
  pub record FormsDiffer : Type 0 where
    pub series_parallel :
        (states states' : States) (ds es : Children) →
        Reads states (joined Series ds) states' (joined Parallel es) → ⊥
    pub part_joined :
        (states states' : States) (n : ℕ) (way : Way) (es : Children) →
        Reads states (part n) states' (joined way es) → ⊥
    pub part_bridge :
        (states states' : States) (n : ℕ) (a b c d e : Drawing) →
        Reads states (part n) states' (bridge a b c d e) → ⊥
    pub joined_bridge :
        (states states' : States) (way : Way) (ds : Children) (a b c d e : Drawing) →
        Reads states (joined way ds) states' (bridge a b c d e) → ⊥

  -- reading the same is an equivalence
  abbrev pub Reflexive : Type 0
  Reflexive = (states : States) (d : Drawing) → Reads states d states d

  abbrev pub Symmetric : Type 0
  Symmetric =
      (states : States) (d : Drawing) (states' : States) (e : Drawing) →
      Reads states d states' e → Reads states' e states d

  abbrev pub Transitive : Type 0
  Transitive =
      (states : States) (d : Drawing) (states' : States) (e : Drawing) (states'' : States) (f : Drawing) →
      Reads states d states' e → Reads states' e states'' f → Reads states d states'' f

  -- and a child or an arm may be replaced by one that reads the same
  pub record Replaceable : Type 0 where
    pub only_child :
        (states : States) (d : Drawing) (states' : States) (e : Drawing) (way : Way) →
        Reads states d states' e → Reads states (joined way (one d)) states' (joined way (one e))
    pub more_children :
        (states : States) (ds : Children) (d : Drawing) (states' : States) (es : Children) (e : Drawing) (way : Way) →
        Reads states (joined way ds) states' (joined way es) → Reads states d states' e →
        Reads states (joined way (more ds d)) states' (joined way (more es e))
    pub arms :
        (states : States) (a b c d e : Drawing) (states' : States) (a' b' c' d' e' : Drawing) →
        Reads states a states' a' → Reads states b states' b' → Reads states c states' c' →
        Reads states d states' d' → Reads states e states' e' →
        Reads states (bridge a b c d e) states' (bridge a' b' c' d' e')
