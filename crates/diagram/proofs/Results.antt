-- The row and the running results of a joined node, from the distributions of its children alone.
use Rattle.std.proofs.Common.{◌≡◌, ◌≢◌, ◌↔◌, ◌∙◌, ℕ, ◌<◌, ◌≤◌, List, [], ◌∷◌, ◌++◌, length, All, AllPairs, Contains, ⊎_elim, sym, ap, subst, refl, arith}
use Rattle.std.proofs.lemmas.Bool.{eqb-true}
use Rattle.std.proofs.lemmas.List.Elements.{All-head, All-tail, Contains-push, Contains-push_cases, Contains-append_left}
use Rattle.kinds.specs.declared.performance.Performance
use Rattle.kinds.specs.declared.weight.Weight
use Rattle.kinds.proofs.Lawful.{Kind, Weighing}
use Rattle.terms.specs.declared.term.Term.{Term}
use Rattle.terms.specs.declared.term.Way.{Way}
use Rattle.terms.specs.Rows.{weight_at, SameDistribution, RowOf}
use Rattle.terms.specs.Combinations.{joins, combinations, bridges}
use Rattle.terms.specs.Drawings.{Drawing, part, joined, bridge, Children, one, more, all_parts, all_parts_of, NoneTwice, NoPartTwice}
use Rattle.terms.specs.Enumeration.{enumeration}
use Rattle.terms.specs.Stepwise.{first_ones, RunningResult}
use Rattle.terms.proofs.Canonical.{row_unique}
use Rattle.terms.proofs.Children.{of_part, of_more, of_bridge}
use Rattle.terms.proofs.Combining.{combinations_keep, bridges_keep}
use Rattle.terms.proofs.Looping.{row_same}
use Rattle.terms.proofs.Picks.{apart_followed}
use Rattle.diagram.specs.declared.limits.TheConstants.{TERMS}
use Rattle.diagram.specs.declared.node.Form.{Form}
use Rattle.diagram.specs.declared.node.Form.TheVariants.{Part, Joined, Bridge}
use Rattle.diagram.specs.declared.node.Status.{Status}
use Rattle.diagram.specs.declared.table.Table.{Table}
use Rattle.diagram.specs.Records.{Fitting, Sound, form_at, children_at}
use Rattle.diagram.specs.Histories.{followed_by_all}
use Rattle.diagram.specs.Results.{drawn_form, joining_of, RowOfDrawing, ResultsFit}
use Rattle.diagram.proofs.PartsOfChildren.{none_twice_all}

-- children that others follow have no part twice where all have none
pub first_once : (drawing : ℕ → Drawing) (ds : Children) (cs : List ℕ) →
    NoneTwice (all_parts_of (followed_by_all ds drawing cs)) → NoneTwice (all_parts_of ds)
first_once drawing ds [] h = h
first_once drawing ds (c ∷ cs) h =
    (apart_followed (all_parts_of ds) (all_parts (drawing c)) (first_once drawing (more ds (drawing c)) cs h)).0

-- nor do children that are parts, and differ
parts_once : (c : ℕ) (cs : List ℕ) → AllPairs ◌≢◌ (c ∷ cs) →
    NoneTwice (all_parts_of (followed_by_all (one (part c)) part cs))
parts_once c cs differ =
    none_twice_all part c cs (λ d i. tt) differ (λ n d e i j b b'. sym (eqb-true n d b) ∙ eqb-true n e b')

pub joining_once : (form : Form) (k : ℕ) (cs : List ℕ) → AllPairs ◌≢◌ cs → NoPartTwice (drawn_form form k cs part)
joining_once (Joined way) k (c ∷ cs) differ = parts_once c cs differ
joining_once Bridge k (a ∷ b ∷ c ∷ d ∷ e ∷ []) differ = parts_once a (b ∷ c ∷ d ∷ e ∷ []) differ
joining_once form k cs differ = tt

-- one drawing has the rows of the other, and its running results fit where those of the other do
pub record SameResults {P W : Type 0} (kind : Performance.Ghosts P) (weights : Weight.Ghosts W) (states states' : ℕ → List (Term P W)) (d d' : Drawing) : Type 0 where
  pub rows : (row : List (Term P W)) → RowOfDrawing kind weights states d row → RowOfDrawing kind weights states' d' row
  pub fits : ResultsFit kind weights states d ↔ ResultsFit kind weights states' d'

module _ {P W : Type 0} {kind : Performance.Ghosts P} {weights : Weight.Ghosts W} (laws : Kind kind) (weigh : Weighing weights) where
  abbrev Terms : Type 0
  Terms = List (Term P W)

  abbrev Same : Terms → Terms → Type 0
  Same = SameDistribution kind weights

  as_same : {ts us : Terms} → ts ≡ us → Same ts us
  as_same e p = ap (λ ts. weight_at kind weights ts p) e

  module _ (states : ℕ → Terms) where
    abbrev of : Drawing → Terms
    of = enumeration kind weights states

    -- row is that of one of these drawings
    abbrev pub Among : List Drawing → Terms → Type 0
    Among xs row = (x : Drawing) × Contains xs x × RowOf kind weights (of x) row

    -- a drawing has one row, so where one has at most `TERMS` terms, each has
    pub fit_more : (xs : List Drawing) (d : Drawing) (r : Terms) → RowOf kind weights (of d) r → length r ≤ TERMS →
        ((q : Terms) → Among xs q → length q ≤ TERMS) → (q : Terms) → Among (xs ++ d ∷ []) q → length q ≤ TERMS
    fit_more xs d r is few fit q (x, among, own) =
        ⊎_elim
        (λ earlier. fit q (x, earlier, own))
        (λ last. subst (λ (ts : Terms). length ts ≤ TERMS) (row_unique laws weigh (of d) r q is (subst (λ y. RowOf kind weights (of y) q) (sym last) own)) few)
        (Contains-push_cases xs d x among)

    pub none_among : {X : Type 0} (q : Terms) → Among [] q → X
    none_among q (x, (i, within, e), own) = absurd (omega arith)

    -- with one child more, the combinations of what is like the children before it and of what is
    -- like the child
    pub more_same : (way : Way) (ds : Children) (d : Drawing) → NoneTwice (all_parts_of (more ds d)) →
        (before next : Terms) → Same (of (joined way ds)) before → Same (of d) next →
        Same (of (joined way (more ds d))) (combinations weights (joins kind way) before next)
    more_same way ds d once before next e f p =
        as_same (of_more kind weights weigh states way ds d once) p
        ∙ combinations_keep laws weigh (joins kind way) (of (joined way ds)) before (of d) next e f p

    pub bridge_same : (a b c d e : Drawing) → NoPartTwice (bridge a b c d e) → (ra rb rc rd re : Terms) →
        Same (of a) ra → Same (of b) rb → Same (of c) rc → Same (of d) rd → Same (of e) re →
        Same (of (bridge a b c d e)) (bridges kind weights ra rb rc rd re)
    bridge_same a b c d e once ra rb rc rd re sa sb sc sd se p =
        as_same (of_bridge kind weights weigh states a b c d e once) p
        ∙ bridges_keep laws weigh (of a) ra (of b) rb (of c) rc (of d) rd (of e) re sa sb sc sd se p

    -- a running result of the first children is one of all
    pub all_running : (way : Way) (drawing : ℕ → Drawing) (cs : List ℕ) (ds : Children) (q : Terms) →
        RunningResult kind weights states (joined way ds) q →
        RunningResult kind weights states (joined way (followed_by_all ds drawing cs)) q
    all_running way drawing [] ds q h = h
    all_running way drawing (c ∷ cs) ds q (x, among, own) =
        all_running way drawing cs (more ds (drawing c)) q (x, Contains-append_left (first_ones way ds) _ x among, own)

  -- two drawings, with states for the parts of each
  module _ (states states' : ℕ → Terms) where
    abbrev SameOf : Drawing → Drawing → Type 0
    SameOf d d' = Same (of states d) (of states' d')

    -- they have one distribution, and what is a running result of the first is one of the second
    record Alike (d d' : Drawing) : Type 0 where
      same : SameOf d d'
      running : (q : Terms) → RunningResult kind weights states d q → RunningResult kind weights states' d' q

    among_more : (xs ys : List Drawing) (d d' : Drawing) → SameOf d d' →
        ((q : Terms) → Among states xs q → Among states' ys q) →
        (q : Terms) → Among states (xs ++ d ∷ []) q → Among states' (ys ++ d' ∷ []) q
    among_more xs ys d d' same earlier q (x, among, own) =
        ⊎_elim
        (λ i. let y = earlier q (x, i, own) in (y.0, Contains-append_left ys _ y.0 y.1, y.2))
        (λ last. (d', Contains-push ys d', row_same laws weigh (of states d) (of states' d') q (λ p. sym (same p)) (subst (λ z. RowOf kind weights (of states z) q) (sym last) own)))
        (Contains-push_cases xs d x among)

    module _ (f g : ℕ → Drawing) where
      abbrev SameChild : ℕ → Type 0
      SameChild c = SameOf (f c) (g c)

      alike_all : (way : Way) (cs : List ℕ) (ds es : Children) →
          NoneTwice (all_parts_of (followed_by_all ds f cs)) → NoneTwice (all_parts_of (followed_by_all es g cs)) →
          All SameChild cs → Alike (joined way ds) (joined way es) →
          Alike (joined way (followed_by_all ds f cs)) (joined way (followed_by_all es g cs))
      alike_all way [] ds es once once' all alike = alike
      alike_all way (c ∷ cs) ds es once once' all alike =
          let once_d = first_once f (more ds (f c)) cs once in
          let once_e = first_once g (more es (g c)) cs once' in
          let like = more_same states way ds (f c) once_d (of states' (joined way es)) (of states' (g c)) alike.same (All-head SameChild c cs all) in
          let again = as_same (sym (of_more kind weights weigh states' way es (g c) once_e)) in
          let same : SameOf (joined way (more ds (f c))) (joined way (more es (g c))) = λ p. like p ∙ again p in
          alike_all way cs (more ds (f c)) (more es (g c)) once once' (All-tail SameChild c cs all)
          (record { same = same; running = among_more (first_ones way ds) (first_ones way es) _ _ same alike.running })

      -- so are two drawings of a node, where its children are drawn with one distribution
      alike_form : {status : Status} {size : ℕ} (form : Form) (k : ℕ) (cs : List ℕ) →
          Fitting form status size cs k → form ≢ Part →
          NoPartTwice (drawn_form form k cs f) → NoPartTwice (drawn_form form k cs g) →
          All SameChild cs → Alike (drawn_form form k cs f) (drawn_form form k cs g)
      alike_form (Joined way) k (c ∷ cs) own other once once' all =
          alike_all way cs (one (f c)) (one (g c)) once once' (All-tail SameChild c cs all)
          (record { same = All-head SameChild c cs all; running = λ q n. none_among states q n })
      alike_form Bridge k (a ∷ b ∷ c ∷ d ∷ e ∷ []) own other once once' all =
          let like = bridge_same states (f a) (f b) (f c) (f d) (f e) once (of states' (g a)) (of states' (g b)) (of states' (g c)) (of states' (g d)) (of states' (g e))
          (all 0 0 (omega arith)) (all 1 0 (omega arith)) (all 2 0 (omega arith)) (all 3 0 (omega arith)) (all 4 0 (omega arith)) in
          let again = as_same (sym (of_bridge kind weights weigh states' (g a) (g b) (g c) (g d) (g e) once')) in
          let same : SameOf (bridge (f a) (f b) (f c) (f d) (f e)) (bridge (g a) (g b) (g c) (g d) (g e)) = λ p. like p ∙ again p in
          record { same = same; running = among_more [] [] _ _ same (λ q n. none_among states q n) }
      alike_form Part k cs own other once once' all = absurd (other refl)
      alike_form (Joined way) k [] own other once once' all = absurd (omega (arith, own.joins_two_or_more way refl))
      alike_form Bridge k cs own other once once' all = absurd (omega (arith, own.bridges_five refl))

  -- a node as it is joined from its children alone has the results of each drawing of it in which
  -- the children have these rows
  pub joining_same : (states states' : ℕ → Terms) {t : Table} → Sound t → (k : ℕ) → k < t.count → form_at t k ≢ Part →
      (drawing : ℕ → Drawing) → NoPartTwice (drawn_form (form_at t k) k (children_at t k) drawing) →
      All (λ c. Same (states c) (enumeration kind weights states' (drawing c))) (children_at t k) →
      SameResults kind weights states states' (joining_of t k) (drawn_form (form_at t k) k (children_at t k) drawing)
  joining_same states states' {t} sound k low other drawing once all =
      let own = (sound.at k low).own in
      let once' = joining_once (form_at t k) k (children_at t k) own.children_apart in
      let drawn : All (λ c. SameOf states states' (part c) (drawing c)) (children_at t k) = λ i d within p. as_same (of_part kind weights weigh states _) p ∙ all i d within p in
      let there = alike_form states states' part drawing (form_at t k) k (children_at t k) own other once' once drawn in
      let back = alike_form states' states drawing part (form_at t k) k (children_at t k) own other once once' (λ i d within p. sym (drawn i d within p)) in
      record {
        rows = λ row is. row_same laws weigh (of states (joining_of t k)) _ row (λ p. sym (there.same p)) is;
        fits = ((λ fit q r. fit q (back.running q r)), (λ fit q r. fit q (there.running q r)));
      }
