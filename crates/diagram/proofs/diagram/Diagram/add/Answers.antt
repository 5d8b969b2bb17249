use Rattle.std.proofs.Common.{arith, refl, subst}
use Rattle.diagram.specs.Changes.{PartAdded}
use Rattle.diagram.proofs.Collected.{stands_short}
use Rattle.diagram.proofs.Asking.{yes, no, at_least, below, not_at_least, not_below, so, not_so, refused}
use Rattle.diagram.proofs.diagram.Diagram.add.Goals as goal

pub returns-in_err-unless : goal.returns-in_err-unless
returns-in_err-unless g c = no (not_at_least c.in_err-unless.ensures.no) (refused c.from_residual.ensures.1 c.in_err-unless.ensures.told)

pub returns-in_err-unless-2 : goal.returns-in_err-unless-2
returns-in_err-unless-2 g c = yes (at_least c.in_ok-unless.ensures.yes) (no (not_below c.in_err-unless-2.ensures.no) (refused c.from_residual-in_err-unless-2.ensures.1 c.in_err-unless-2.ensures.told))

pub returns-in_err-unless-3 : goal.returns-in_err-unless-3
returns-in_err-unless-3 g c = yes (at_least c.in_ok-unless.ensures.yes) (yes (below c.in_ok-unless-2.ensures.yes) (no (not_so c.may_be_states.ensures c.in_err-unless-3.ensures.no) (refused c.from_residual-in_err-unless-3.ensures.1 c.in_err-unless-3.ensures.told)))

pub put_row-size-requires-clause-roomy : goal.put_row-size-requires-clause-roomy
put_row-size-requires-clause-roomy g c = at_least c.in_ok-unless.ensures.yes

pub put_row-size-requires-clause-node : goal.put_row-size-requires-clause-node
put_row-size-requires-clause-node g c = below c.in_ok-unless-2.ensures.yes

pub put_row-size-requires-clause-few : goal.put_row-size-requires-clause-few
put_row-size-requires-clause-few g c = (so c.may_be_states.ensures c.in_ok-unless-3.ensures.yes).1

pub add_part-requires-clause-number_left : goal.add_part-requires-clause-number_left
add_part-requires-clause-number_left g c = below c.in_ok-unless-2.ensures.yes

pub add_part-requires-clause-fits : goal.add_part-requires-clause-fits
add_part-requires-clause-fits g c = omega (arith, c.put_row-size.ensures.2, stands_short c.args.self.now.table.count c.put_row-size.ensures.0 _ c.put_row-size.ensures.3.stands)

pub returns : goal.returns
returns g c =
    yes (at_least c.in_ok-unless.ensures.yes) (yes (below c.in_ok-unless-2.ensures.yes) (yes (so c.may_be_states.ensures c.in_ok-unless-3.ensures.yes)
    (refl, (c.put_row-size.ensures.0, c.put_row-size.ensures.1, subst (PartAdded c.args.self.now.table c.add_part.new.self) c.put_row-size.ensures.2 c.add_part.ensures.added, c.put_row-size.ensures.3))))
