-- Where an entry comes first, the piece that was found is its model file, and so another comes after it.
use Rattle.std.proofs.Common.{List, ℕ, Option, Some, None, IfNone, subst}
use Rattle.vectors.specs.Entries.{Piece, EntryOf}
use Rattle.vectors.proofs.Pieces.{one_piece}
use Rattle.vectors.proofs.entries.next.Goals as goal

always : {A p : Type 0} (r : Option A) → p → IfNone r p
always (Some x) h = tt
always None h = h

pub returns-in_err-printed-clause-none : goal.returns-in_err-printed-clause-none
returns-in_err-printed-clause-none c =
    let none : (model printed rest : List ℕ) → ¬ EntryOf c.args.bytes.now model printed rest = λ model printed rest (between, first, second).
    let same = one_piece c.args.bytes.now model between c.in_ok-model.model.now c.in_ok-model.rest.now first c.in_ok-model.ensures.some in
    c.in_err-printed.ensures.none printed rest (subst (λ (z : List ℕ). Piece z printed rest) same.1 second) in
    always _ none
