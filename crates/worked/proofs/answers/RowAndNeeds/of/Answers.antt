use Rattle.std.proofs.Common.{refl}
use Rattle.kinds.specs.Words.{capped_word}
use Rattle.diagram.specs.Shown.{records}
use Rattle.diagram.specs.Store.{row_at}
use Rattle.diagram.proofs.RunGoesOn.{yes, given}
use Rattle.worked.proofs.Needs.{need_is}
use Rattle.worked.proofs.answers.RowAndNeeds.of.Goals as goal

pub returns-clause-answers : goal.returns-clause-answers
returns-clause-answers c =
    let row = row_at (records c.args.diagram.now) c.args.store.now c.args.k in
    let three = c.in_ok-of-2.ensures in
    let four = c.in_ok-of-3.ensures in
    let five = c.in_ok-of-4.ensures in (
      c.in_ok-of.ensures.row,
      need_is c.in_ok-of-2.field-0 c.new.result (capped_word 3) row (c.new.ensures.only (capped_word 3) refl) three.demand three.met three.all,
      need_is c.in_ok-of-3.field-0 c.new-2.result (capped_word 4) row (c.new-2.ensures.only (capped_word 4) refl) four.demand four.met four.all,
      need_is c.in_ok-of-4.field-0 c.new-3.result (capped_word 5) row (c.new-3.ensures.only (capped_word 5) refl) five.demand five.met five.all,
    )

-- the first question asks all that the others ask
pub returns-clause-refusals : goal.returns-clause-refusals
returns-clause-refusals c =
    let roomy = given c.in_ok-of.ensures.refusals in
    let node = given roomy.1 in
    let current = given node.1 in
    yes roomy.0 (yes node.0 (yes current.0 (returns-clause-answers c)))
