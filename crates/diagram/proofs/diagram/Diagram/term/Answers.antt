use Rattle.std.proofs.Common.{get_or, refl, sym, ap, ◌∙◌, arith}
use Rattle.diagram.proofs.Asking.{yes, no, below, not_below, err_is, answered, goes_on, handed_on}
use Rattle.diagram.proofs.StoreWrites.{row_as_long}
use Rattle.diagram.proofs.Children.{in_store}
use Rattle.diagram.proofs.diagram.Diagram.term.Goals as goal

pub returns-in_err-answers : goal.returns-in_err-answers
returns-in_err-answers g c = handed_on c.answers.ensures c.in_err-answers.was (err_is c.from_residual.ensures.1 refl)

pub row_of-row-requires-clause-node : goal.row_of-row-requires-clause-node
row_of-row-requires-clause-node g c = in_store c.args.self.now.table c.args.self.now.sound c.args.k (answered c.answers.ensures c.in_ok-answers.was).1

pub returns-in_err-unless : goal.returns-in_err-unless
returns-in_err-unless g c =
    let q = answered c.answers.ensures c.in_ok-answers.was in
    let long = row_as_long c.args.self.now.table c.args.store.now c.args.k c.row_of-row.result.now c.row_of-row.ensures (omega (arith, q.1, c.args.self.now.sound.few)) (c.args.self.now.sound.at c.args.k q.1).own.sized (omega (arith, q.0)) in
    goes_on c.answers.ensures c.in_ok-answers.was (no (λ low. not_below c.in_err-unless.ensures.no (omega (arith, low, long))) (err_is c.from_residual-in_err-unless.ensures.1 c.in_err-unless.ensures.told))

pub returns : goal.returns
returns g c =
    let q = answered c.answers.ensures c.in_ok-answers.was in
    let long = row_as_long c.args.self.now.table c.args.store.now c.args.k c.row_of-row.result.now c.row_of-row.ensures (omega (arith, q.1, c.args.self.now.sound.few)) (c.args.self.now.sound.at c.args.k q.1).own.sized (omega (arith, q.0)) in
    goes_on c.answers.ensures c.in_ok-answers.was (yes (omega (arith, below c.in_ok-unless.ensures.yes, long)) (sym (c.index-row-i.is ∙ ap (λ z. get_or z c.args.i c.index-row-i.result) c.row_of-row.ensures)))
