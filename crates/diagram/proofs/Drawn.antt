-- Drawings of the nodes of a table: each from those of its children.
use Rattle.std.proofs.Common.{◌≡◌, ℕ, ◌<◌}
use Rattle.terms.specs.Drawings.{Drawing}
use Rattle.diagram.specs.declared.table.Table.{Table}
use Rattle.diagram.specs.Records.{form_at, children_at}
pub use Rattle.diagram.specs.Results.{drawn_form}

-- each node is drawn from its children as they are drawn
abbrev pub Drawn : Table → (ℕ → Drawing) → Type 0
Drawn t drawing = (k : ℕ) → k < t.count → drawing k ≡ drawn_form (form_at t k) k (children_at t k) drawing
