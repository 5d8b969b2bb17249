use Rattle.std.proofs.Common.{arith, ap, Ok, subst}
use Rattle.diagram.specs.Changes.{PartRestated}
use Rattle.diagram.proofs.Collected.{stands_short}
use Rattle.diagram.proofs.Asking.{yes, no, at_least, below, not_at_least, not_below, so, not_so, refused}
use Rattle.diagram.proofs.diagram.Diagram.restate.Goals as goal

pub returns-in_err-unless : goal.returns-in_err-unless
returns-in_err-unless g c = no (not_at_least c.in_err-unless.ensures.no) (refused c.from_residual.ensures.1 c.in_err-unless.ensures.told)

pub returns-in_err-unless-2 : goal.returns-in_err-unless-2
returns-in_err-unless-2 g c = yes (at_least c.in_ok-unless.ensures.yes) (no (not_below c.in_err-unless-2.ensures.no) (refused c.from_residual-in_err-unless-2.ensures.1 c.in_err-unless-2.ensures.told))

pub returns-in_err-unless-3 : goal.returns-in_err-unless-3
returns-in_err-unless-3 g c = yes (at_least c.in_ok-unless.ensures.yes) (yes (below c.in_ok-unless-2.ensures.yes) (no (not_so c.is_part.ensures c.in_err-unless-3.ensures.no) (refused c.from_residual-in_err-unless-3.ensures.1 c.in_err-unless-3.ensures.told)))

pub returns-in_err-unless-4 : goal.returns-in_err-unless-4
returns-in_err-unless-4 g c =
    yes (at_least c.in_ok-unless.ensures.yes) (yes (below c.in_ok-unless-2.ensures.yes) (yes (so c.is_part.ensures c.in_ok-unless-3.ensures.yes)
    (no (not_so c.may_be_states.ensures c.in_err-unless-4.ensures.no) (refused c.from_residual-in_err-unless-4.ensures.1 c.in_err-unless-4.ensures.told))))

pub restate-requires-clause-part : goal.restate-requires-clause-part
restate-requires-clause-part g c = so c.is_part.ensures c.in_ok-unless-3.ensures.yes

pub put_row-size-requires-clause-roomy : goal.put_row-size-requires-clause-roomy
put_row-size-requires-clause-roomy g c = at_least c.in_ok-unless.ensures.yes

pub put_row-size-requires-clause-node : goal.put_row-size-requires-clause-node
put_row-size-requires-clause-node g c = omega (arith, below c.in_ok-unless-2.ensures.yes, c.args.self.now.sound.few)

pub put_row-size-requires-clause-few : goal.put_row-size-requires-clause-few
put_row-size-requires-clause-few g c = (so c.may_be_states.ensures c.in_ok-unless-4.ensures.yes).1

pub restate-requires-clause-node : goal.restate-requires-clause-node
restate-requires-clause-node g c = below c.in_ok-unless-2.ensures.yes

pub restate-requires-clause-fits : goal.restate-requires-clause-fits
restate-requires-clause-fits g c = omega (arith, c.put_row-size.ensures.2, stands_short c.args.k c.put_row-size.ensures.0 _ c.put_row-size.ensures.3.stands)

pub returns : goal.returns
returns g c =
    yes (at_least c.in_ok-unless.ensures.yes) (yes (below c.in_ok-unless-2.ensures.yes) (yes (so c.is_part.ensures c.in_ok-unless-3.ensures.yes)
    (yes (so c.may_be_states.ensures c.in_ok-unless-4.ensures.yes)
    (c.put_row-size.ensures.0, c.put_row-size.ensures.1, ap Ok c.put_row-size.ensures.2, subst (PartRestated c.args.self.now.table c.restate.new.self c.args.k) c.put_row-size.ensures.2 c.restate.ensures.restated, c.put_row-size.ensures.3))))
