-- The row of a joined node, from the answers of combinations and bridges.
use Rattle.std.proofs.Common.{◌≡◌, ℕ, ◌+◌, ◌<◌, ◌≤◌, List, [], ◌∷◌, ◌++◌, length, get_or, take, drop, Option, Some, None, sym, ap, subst, ◌∙◌, arith}
use Rattle.std.proofs.lemmas.List.{drop_all, drop_more, length-take, length-take-le, take_at}
use Rattle.std.proofs.lemmas.List.Elements.{Contains-push}
use Rattle.kinds.specs.declared.performance.Performance
use Rattle.kinds.specs.declared.weight.Weight
use Rattle.kinds.proofs.Lawful.{Kind, Weighing}
use Rattle.terms.specs.declared.term.Term.{Term}
use Rattle.terms.specs.declared.term.Way.{Way}
use Rattle.terms.specs.Rows.{weight_at, SameDistribution, IsRow, RowOf}
use Rattle.terms.specs.Combinations.{joins, combinations, bridges}
use Rattle.terms.specs.Drawings.{Drawing, part, joined, bridge, Children, one, more, NoPartTwice}
use Rattle.terms.specs.Enumeration.{enumeration}
use Rattle.terms.specs.Merging.{Merges}
use Rattle.terms.specs.Stepwise.{first_ones}
use Rattle.terms.proofs.Children.{of_part}
use Rattle.terms.proofs.Looping.{row_same}
use Rattle.diagram.specs.declared.limits.TheConstants.{ARMS, TERMS}
use Rattle.diagram.specs.declared.node.Form.TheVariants.{Joined, Bridge}
use Rattle.diagram.specs.declared.table.Table.{Table}
use Rattle.diagram.specs.Records.{Sound, form_at, size_at, children_at}
use Rattle.diagram.specs.Store.{places_of, row_at}
use Rattle.diagram.specs.Histories.{followed_by_all}
use Rattle.diagram.specs.Results.{drawn_form, joining_of, RowOfDrawing, ResultsFit}
use Rattle.diagram.specs.WorkingOut.{RowFound, NodeFound}
use Rattle.diagram.proofs.Children.{five}
use Rattle.diagram.proofs.Results.{first_once, joining_once, fit_more, none_among, more_same, bridge_same, all_running}

-- the row of a node has at most `TERMS` terms
pub row_short : {X : Type 0} (t : Table) (rows : List X) (c : ℕ) (row : List X) → row ≡ row_at t rows c → size_at t c ≤ TERMS → length row ≤ TERMS
row_short t rows c row is sized = rw is (omega (arith, length-take (size_at t c) (places_of c rows)))

-- the first places after a copy into them
pub take_copied : {X : Type 0} (xs ys zs : List X) (n : ℕ) → n ≤ length zs → xs ≡ take n zs → take n (xs ++ ys) ≡ take n zs
take_copied xs ys zs n fits is = take_at xs ys n (ap length is ∙ length-take-le n zs fits) ∙ is

-- so far this is like the row of the first children of k, whose running results fit, and it is a
-- row once another child is joined to the first: what that has in the store need not be one; these
-- children follow from the i-th on
pub record Reached {P W : Type 0} (kind : Performance.Ghosts P) (weights : Weight.Ghosts W) (t : Table) (rows : List (Term P W)) (k : ℕ) (way : Way) (cs : List ℕ) (i : ℕ) (so_far : List (Term P W)) : Type 0 where
  pub first : Children
  pub is : joined way (followed_by_all first part (drop i cs)) ≡ joining_of t k
  pub row : 0 < i → IsRow kind weights so_far
  pub same : SameDistribution kind weights (enumeration kind weights (row_at t rows) (joined way first)) so_far
  pub fit : ResultsFit kind weights (row_at t rows) (joined way first)

module _ {P W : Type 0} {kind : Performance.Ghosts P} {weights : Weight.Ghosts W} (laws : Kind kind) (weigh : Weighing weights) (t : Table) (rows : List (Term P W)) (k : ℕ) (sound : Sound t) (is_node : k < t.count) where
  abbrev Terms : Type 0
  Terms = List (Term P W)

  abbrev row_of : ℕ → Terms
  row_of = row_at t rows

  abbrev of : Drawing → Terms
  of = enumeration kind weights (row_at t rows)

  once : NoPartTwice (joining_of t k)
  once = joining_once (form_at t k) k (children_at t k) (sound.at k is_node).own.children_apart

  itself : (c : ℕ) (row : Terms) → row ≡ row_of c → SameDistribution kind weights (of (part c)) row
  itself c row is p = ap (λ ts. weight_at kind weights ts p) (of_part kind weights weigh row_of c ∙ sym is)

  pub reach_first : (way : Way) → form_at t k ≡ Joined way → (c : ℕ) (rest : List ℕ) → children_at t k ≡ c ∷ rest →
      (row : Terms) → row ≡ row_of c → Reached kind weights t rows k way rest 0 row
  reach_first way is_joined c rest are row is = record {
    first = one (part c);
    is = sym (ap (λ f. drawn_form f k (children_at t k) part) is_joined ∙ ap (λ ys. drawn_form (Joined way) k ys part) are);
    row = λ l. absurd (omega (arith, l));
    same = itself c row is;
    fit = λ q n. none_among laws weigh row_of q n;
  }

  module _ (room : Terms) (long : length room ≡ TERMS) where
    module _ (way : Way) (cs : List ℕ) (i : ℕ) (within : i < length cs) (before next : Terms) (is_next : next ≡ row_of (get_or cs i 0)) (at : Reached kind weights t rows k way cs i before) where
      abbrev more_terms : Terms
      more_terms = combinations weights (joins kind way) before next

      abbrev now : Children
      now = more at.first (part (get_or cs i 0))

      follow : joined way (followed_by_all now part (drop (i + 1) cs)) ≡ joining_of t k
      follow = ap (λ xs. joined way (followed_by_all at.first part xs)) (sym (drop_more cs i 0 within)) ∙ at.is

      row : (r : Terms) → RowOf kind weights more_terms r → RowOf kind weights (of (joined way now)) r
      row r is =
          let once_now = first_once part now (drop (i + 1) cs) (subst NoPartTwice (sym follow) once) in
          let same = more_same laws weigh row_of way at.first (part (get_or cs i 0)) once_now before next at.same (itself (get_or cs i 0) next is_next) in
          row_same laws weigh more_terms (of (joined way now)) r same is

      pub reach_more : (n : ℕ) → Merges kind weights more_terms room (Some n) → Reached kind weights t rows k way cs (i + 1) (take n room)
      reach_more n m =
          let found = row (take n room) m.1 in
          let few : length (take n room) ≤ TERMS = omega (arith, length-take-le n room m.0, m.0) in
          record {
            first = now;
            is = follow;
            row = λ _. found.row;
            same = found.same;
            fit = fit_more laws weigh row_of (first_ones way at.first) (joined way now) (take n room) found few at.fit;
          }

      pub over : Merges kind weights more_terms room None → NodeFound kind weights t rows k room None
      over m fit =
          let runs = all_running laws weigh row_of way part (drop (i + 1) cs) now m.0 (joined way now, Contains-push (first_ones way at.first) (joined way now), row m.0 m.1) in
          let few = subst (ResultsFit kind weights row_of) (sym follow) fit m.0 runs in
          absurd (omega (arith, few, m.2))

    pub reach_last : (way : Way) (cs : List ℕ) (i n : ℕ) → length cs ≤ i → 0 < i → n ≤ TERMS →
        Reached kind weights t rows k way cs i (take n room) → NodeFound kind weights t rows k room (Some n)
    reach_last way cs i n all some few at =
        let e : joined way at.first ≡ joining_of t k = ap (λ xs. joined way (followed_by_all at.first part xs)) (sym (drop_all i cs all)) ∙ at.is in
        let found = subst (λ d. RowOfDrawing kind weights row_of d (take n room)) e (record { row = at.row some; same = at.same }) in
        (subst (ResultsFit kind weights row_of) e at.fit, (omega (arith, few), found))

    module _ (a b c d e : ℕ) (ra rb rc rd re : Terms) (ia : ra ≡ row_of a) (ib : rb ≡ row_of b) (ic : rc ≡ row_of c) (id : rd ≡ row_of d) (ie : re ≡ row_of e) where
      abbrev arms : Drawing
      arms = bridge (part a) (part b) (part c) (part d) (part e)

      bridge_row : NoPartTwice arms → (r : Terms) → RowOf kind weights (bridges kind weights ra rb rc rd re) r → RowOf kind weights (of arms) r
      bridge_row once r is =
          let same = bridge_same laws weigh row_of (part a) (part b) (part c) (part d) (part e) once ra rb rc rd re (itself a ra ia) (itself b rb ib) (itself c rc ic) (itself d rd id) (itself e re ie) in
          row_same laws weigh (bridges kind weights ra rb rc rd re) (of arms) r same is

      bridge_found : NoPartTwice arms → (r : Option ℕ) → Merges kind weights (bridges kind weights ra rb rc rd re) room r → RowFound kind weights row_of arms room r
      bridge_found once None m = λ fit.
          let few = fit m.0 (arms, Contains-push [] arms, bridge_row once m.0 m.1) in
          absurd (omega (arith, few, m.2))
      bridge_found once (Some n) m =
          let row = bridge_row once (take n room) m.1 in
          let few : length (take n room) ≤ TERMS = omega (arith, length-take-le n room m.0, m.0) in
          (fit_more laws weigh row_of [] arms (take n room) row few (λ q n. none_among laws weigh row_of q n), (m.0, row))

    pub bridged : (xs : List ℕ) → xs ≡ children_at t k → form_at t k ≡ Bridge → length xs ≡ ARMS → (a b c d e : Terms) →
        a ≡ row_of (get_or xs 0 0) → b ≡ row_of (get_or xs 1 0) → c ≡ row_of (get_or xs 2 0) → d ≡ row_of (get_or xs 3 0) → e ≡ row_of (get_or xs 4 0) →
        (r : Option ℕ) → Merges kind weights (bridges kind weights a b c d e) room r → NodeFound kind weights t rows k room r
    bridged xs are is len a b c d e ia ib ic id ie r m =
        let drawn = ap (λ f. drawn_form f k (children_at t k) part) is ∙ ap (λ ys. drawn_form Bridge k ys part) (sym are ∙ five xs len) in
        subst (λ z. RowFound kind weights row_of z room r) (sym drawn) (bridge_found _ _ _ _ _ a b c d e ia ib ic id ie (subst NoPartTwice drawn once) r m)
