-- The terms and the length of the room decide what a merging answers.
use Rattle.std.proofs.Common.{length, take, Some, None, sym, refl, ap, ◌∙◌, arith}
use Rattle.std.proofs.lemmas.List.{length-take-le}
use Rattle.kinds.specs.declared.performance.Performance
use Rattle.kinds.specs.declared.weight.Weight
use Rattle.terms.specs.Laws.{OneAnswer}
use Rattle.kinds.proofs.Lawful.{Kind, Weighing}
use Rattle.terms.proofs.Canonical.{row_unique}

module _ {P W : Type 0} {kind : Performance.Ghosts P} {weights : Weight.Ghosts W} (k : Kind kind) (w : Weighing weights) where
  pub one_answer : OneAnswer kind weights
  one_answer ts room room' (Some m) (Some n) l a b =
      let e = ap length (row_unique k w ts (take m room) (take n room') a.1 b.1) in
      ap Some (sym (length-take-le m room a.0) ∙ e ∙ length-take-le n room' b.0)
  one_answer ts room room' (Some m) None l a b =
      let e = ap length (row_unique k w ts (take m room) b.0 a.1 b.1) in
      absurd (omega (arith, length-take-le m room a.0, a.0, b.2))
  one_answer ts room room' None (Some n) l a b =
      let e = ap length (row_unique k w ts a.0 (take n room') a.1 b.1) in
      absurd (omega (arith, length-take-le n room' b.0, b.0, a.2))
  one_answer ts room room' None None l a b = refl
