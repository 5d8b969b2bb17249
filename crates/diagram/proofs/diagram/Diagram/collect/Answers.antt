use Rattle.diagram.proofs.Asking.{yes, no, at_least, below, not_at_least, not_below, so, not_so, refused}
use Rattle.diagram.proofs.Collected.{too_long, small, collected}
use Rattle.diagram.proofs.diagram.Diagram.collect.Goals as goal

pub returns-in_err-unless : goal.returns-in_err-unless
returns-in_err-unless g c = no (not_at_least c.in_err-unless.ensures.no) (refused c.from_residual.ensures.1 c.in_err-unless.ensures.told)

pub returns-in_err-unless-2 : goal.returns-in_err-unless-2
returns-in_err-unless-2 g c = yes (at_least c.in_ok-unless.ensures.yes) (no (not_below c.in_err-unless-2.ensures.no) (refused c.from_residual-in_err-unless-2.ensures.1 c.in_err-unless-2.ensures.told))

pub returns-in_err-unless-3 : goal.returns-in_err-unless-3
returns-in_err-unless-3 g c = yes (at_least c.in_ok-unless.ensures.yes) (yes (below c.in_ok-unless-2.ensures.yes) (no (not_so c.is_joined.ensures c.in_err-unless-3.ensures.no) (refused c.from_residual-in_err-unless-3.ensures.1 c.in_err-unless-3.ensures.told)))

pub returns-in_err-unless-4 : goal.returns-in_err-unless-4
returns-in_err-unless-4 g c =
    yes (at_least c.in_ok-unless.ensures.yes) (yes (below c.in_ok-unless-2.ensures.yes) (yes (so c.is_joined.ensures c.in_ok-unless-3.ensures.yes)
    (no (not_so c.children_are_up_to_date.ensures c.in_err-unless-4.ensures.no) (refused c.from_residual-in_err-unless-4.ensures.1 c.in_err-unless-4.ensures.told))))

pub returns-in_err-unless-5 : goal.returns-in_err-unless-5
returns-in_err-unless-5 g c =
    yes (at_least c.in_ok-unless.ensures.yes) (yes (below c.in_ok-unless-2.ensures.yes) (yes (so c.is_joined.ensures c.in_ok-unless-3.ensures.yes)
    (yes (so c.children_are_up_to_date.ensures c.in_ok-unless-4.ensures.yes)
    (no (not_so c.arms_fit.ensures c.in_err-unless-5.ensures.no) (refused c.from_residual-in_err-unless-5.ensures.1 c.in_err-unless-5.ensures.told)))))

pub returns-in_err-size : goal.returns-in_err-size
returns-in_err-size g c =
    yes (at_least c.in_ok-unless.ensures.yes) (yes (below c.in_ok-unless-2.ensures.yes) (yes (so c.is_joined.ensures c.in_ok-unless-3.ensures.yes)
    (yes (so c.children_are_up_to_date.ensures c.in_ok-unless-4.ensures.yes)
    (yes (so c.arms_fit.ensures c.in_ok-unless-5.ensures.yes) (too_long g.P.Performance g.W.Weight c.args.self.now.table c.args.k c.args.store.now c.work_out.new.store c.work_out.ensures c.in_err-size.ensures.ok_part c.from_residual-in_err-size.ensures.1 c.in_err-size.ensures.value)))))

pub collect-requires-clause-up_to_date : goal.collect-requires-clause-up_to_date
collect-requires-clause-up_to_date g c = so c.children_are_up_to_date.ensures c.in_ok-unless-4.ensures.yes

pub collect-requires-clause-fits : goal.collect-requires-clause-fits
collect-requires-clause-fits g c = small g.P.Performance g.W.Weight c.args.self.now.table c.args.k c.args.store.now c.work_out.new.store c.work_out.ensures c.in_ok-size.ensures.ok_part

pub children_are_up_to_date-requires-clause-node : goal.children_are_up_to_date-requires-clause-node
children_are_up_to_date-requires-clause-node g c = below c.in_ok-unless-2.ensures.yes

pub arms_fit-requires-clause-node : goal.arms_fit-requires-clause-node
arms_fit-requires-clause-node g c = below c.in_ok-unless-2.ensures.yes

pub work_out-requires-clause-node : goal.work_out-requires-clause-node
work_out-requires-clause-node g c = below c.in_ok-unless-2.ensures.yes

pub work_out-requires-clause-joined : goal.work_out-requires-clause-joined
work_out-requires-clause-joined g c = so c.is_joined.ensures c.in_ok-unless-3.ensures.yes

pub work_out-requires-clause-roomy : goal.work_out-requires-clause-roomy
work_out-requires-clause-roomy g c = at_least c.in_ok-unless.ensures.yes

pub collect-requires-clause-node : goal.collect-requires-clause-node
collect-requires-clause-node g c = below c.in_ok-unless-2.ensures.yes

pub collect-requires-clause-joined : goal.collect-requires-clause-joined
collect-requires-clause-joined g c = so c.is_joined.ensures c.in_ok-unless-3.ensures.yes

pub returns : goal.returns
returns g c =
    yes (at_least c.in_ok-unless.ensures.yes) (yes (below c.in_ok-unless-2.ensures.yes) (yes (so c.is_joined.ensures c.in_ok-unless-3.ensures.yes)
    (yes (so c.children_are_up_to_date.ensures c.in_ok-unless-4.ensures.yes)
    (yes (so c.arms_fit.ensures c.in_ok-unless-5.ensures.yes) (collected g.P.Performance g.W.Weight c.args.self.now.table c.args.k c.args.store.now c.work_out.new.store c.work_out.ensures c.in_ok-size.ensures.ok_part c.collect.ensures.collected)))))
