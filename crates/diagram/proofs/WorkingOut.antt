-- A node is worked out: from the row in a working row, and what is put into the front of the store.
use Rattle.std.proofs.Common.{◌≡◌, ◌≢◌, ℕ, ◌<◌, ◌≤◌, List, ◌++◌, length, take, drop, Some, None, refl, ap, ◌∙◌, sym, arith}
use Rattle.std.proofs.lemmas.List.{length-take-le}
use Rattle.std.proofs.lemmas.List.Elements.{All-weaker}
use Rattle.kinds.specs.declared.performance.Performance
use Rattle.kinds.specs.declared.weight.Weight
use Rattle.kinds.proofs.Lawful.{Kind, Weighing}
use Rattle.terms.specs.declared.term.Term.{Term}
use Rattle.terms.specs.Rows.{weight_at, SameDistribution}
use Rattle.terms.specs.Drawings.{part}
use Rattle.terms.specs.Enumeration.{enumeration}
use Rattle.terms.proofs.Children.{of_part}
use Rattle.diagram.specs.declared.limits.TheConstants.{ROWS, STORE, TERMS}
use Rattle.diagram.specs.declared.node.Form.TheVariants.{Part}
use Rattle.diagram.specs.declared.table.Table.{Table}
use Rattle.diagram.specs.Records.{Sound, form_at, children_at}
use Rattle.diagram.specs.Store.{places_of, StandsAt, row_at, no_node, only}
use Rattle.diagram.specs.Results.{joining_of}
use Rattle.diagram.specs.WorkingOut.{InStore, RowFound, NodeWorkedOut}
use Rattle.diagram.proofs.Children.{children_in_store}
use Rattle.diagram.proofs.Results.{SameResults, joining_once, joining_same}
use Rattle.diagram.proofs.StoreWrites.{front, same_row, kept}

module _ {P W : Type 0} (kind : Performance.Ghosts P) (weights : Weight.Ghosts W) (laws : Kind kind) (weigh : Weighing weights) (t : Table) (k : ℕ) (sound : Sound t) (is_node : k < t.count) (other : form_at t k ≢ Part) (store rows room next tail : List (Term P W)) (roomy : STORE ≤ length store) (rows_are : rows ≡ take ROWS store) (room_long : length room ≡ TERMS) (next_long : length next ≡ TERMS) (tail_is : tail ≡ drop TERMS (drop TERMS (drop ROWS store))) where
  abbrev SameChild : ℕ → Type 0
  SameChild c = SameDistribution kind weights (row_at t rows c) (enumeration kind weights (row_at t store) (part c))

  same : SameResults kind weights (row_at t rows) (row_at t store) (joining_of t k) (joining_of t k)
  same = joining_same laws weigh (row_at t rows) (row_at t store) sound k is_node other part (joining_once (form_at t k) k (children_at t k) (sound.at k is_node).own.children_apart)
      (All-weaker (InStore t) SameChild
      (λ c i p. ap (λ ts. weight_at kind weights ts p) (same_row t store roomy rows rows_are c i.0 ∙ sym (of_part kind weights weigh (row_at t store) c)))
      (children_at t k) (children_in_store t k sound is_node (children_at t k) refl))

  rows_long : length rows ≡ ROWS
  rows_long = ap length rows_are ∙ length-take-le ROWS store (omega arith)

  pub over : RowFound kind weights (row_at t rows) (joining_of t k) room None → NodeWorkedOut kind weights t k store (rows ++ (room ++ (next ++ tail))) None
  over long = ((λ fit. long (same.fits.1 fit)), kept store rows room next tail roomy rows_long room_long next_long tail_is no_node (λ j h. ap (places_of j) rows_are))

  pub put : (n : ℕ) → RowFound kind weights (row_at t rows) (joining_of t k) room (Some n) → (after : List (Term P W)) → length after ≡ length rows → StandsAt k (take n room) after → ((j : ℕ) → ¬ only k j → places_of j after ≡ places_of j rows) → NodeWorkedOut kind weights t k store (after ++ (room ++ (next ++ tail))) (Some n)
  put n found after long stands others =
      let few = sound.few in
      let row_long = length-take-le n room found.1.0 in
      let after_long : length after ≡ ROWS = long ∙ rows_long in (
        same.fits.0 found.0,
        (
          take n room,
          same.rows (take n room) found.1.1,
          sym row_long,
          record {
            stands = ap (take (length (take n room))) (front k after _ (omega arith)) ∙ stands;
            others = kept store after room next tail roomy after_long room_long next_long tail_is (only k) (λ j h. others j h ∙ ap (places_of j) rows_are);
          },
        ),
      )
