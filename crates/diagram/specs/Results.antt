-- A joined node as a drawing of its children, and whether its running results have room.
use Rattle.std.specs.Prelude.{ℕ, ◌≤◌, List, [], ◌∷◌, length}
use Rattle.kinds.specs.declared.performance.Performance
use Rattle.kinds.specs.declared.weight.Weight
use Rattle.terms.specs.declared.term.Term.{Term}
use Rattle.terms.specs.Rows.{RowOf}
use Rattle.terms.specs.Drawings.{Drawing, part, joined, bridge, one}
use Rattle.terms.specs.Enumeration.{enumeration}
use Rattle.terms.specs.Stepwise.{RunningResult}
use Rattle.diagram.specs.declared.limits.TheConstants.{TERMS}
use Rattle.diagram.specs.declared.node.Form.{Form}
use Rattle.diagram.specs.declared.node.Form.TheVariants.{Joined, Bridge}
use Rattle.diagram.specs.declared.table.Table.{Table}
use Rattle.diagram.specs.Records.{form_at, children_at}
use Rattle.diagram.specs.Histories.{followed_by_all}

-- the drawing of a node of this form, from those of its children
abbrev pub drawn_form : Form → ℕ → List ℕ → (ℕ → Drawing) → Drawing
drawn_form (Joined way) k (c ∷ cs) drawing =
    joined way (followed_by_all (one (drawing c)) drawing cs)
drawn_form Bridge k (a ∷ b ∷ c ∷ d ∷ e ∷ []) drawing =
    bridge (drawing a) (drawing b) (drawing c) (drawing d) (drawing e)
drawn_form _ k _ drawing = part k

-- node k as it is joined from its children alone: each of them, and no two are the same, is taken as a part
abbrev pub joining_of : Table → ℕ → Drawing
joining_of t k = drawn_form (form_at t k) k (children_at t k) part

module _ {P W : Type 0} (kind : Performance.Ghosts P) (weights : Weight.Ghosts W) where
  abbrev Terms : Type 0
  Terms = List (Term P W)

  -- with these states of its parts, row is the row of the drawing
  abbrev pub RowOfDrawing : (ℕ → Terms) → Drawing → Terms → Type 0
  RowOfDrawing states d row = RowOf kind weights (enumeration kind weights states d) row

  -- and each running result of the drawing has at most `TERMS` terms
  abbrev pub ResultsFit : (ℕ → Terms) → Drawing → Type 0
  ResultsFit states d =
      (row : Terms) → RunningResult kind weights states d row → length row ≤ TERMS
