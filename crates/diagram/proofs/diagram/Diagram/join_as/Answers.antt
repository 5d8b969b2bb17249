use Rattle.std.proofs.Common.{refl}
use Rattle.diagram.proofs.Asking.{yes, no, at_least, below, not_at_least, not_below, so, not_so, refused}
use Rattle.diagram.proofs.diagram.Diagram.join_as.Goals as goal

pub returns-in_err-unless : goal.returns-in_err-unless
returns-in_err-unless g c = no (not_at_least c.in_err-unless.ensures.no) (refused c.from_residual.ensures.1 c.in_err-unless.ensures.told)

pub returns-in_err-unless-2 : goal.returns-in_err-unless-2
returns-in_err-unless-2 g c = yes (at_least c.in_ok-unless.ensures.yes) (no (not_below c.in_err-unless-2.ensures.no) (refused c.from_residual-in_err-unless-2.ensures.1 c.in_err-unless-2.ensures.told))

pub returns-in_err-unless-3 : goal.returns-in_err-unless-3
returns-in_err-unless-3 g c = yes (at_least c.in_ok-unless.ensures.yes) (yes (below c.in_ok-unless-2.ensures.yes) (no (not_so c.takes.ensures c.in_err-unless-3.ensures.no) (refused c.from_residual-in_err-unless-3.ensures.1 c.in_err-unless-3.ensures.told)))

pub returns-in_err-unless-4 : goal.returns-in_err-unless-4
returns-in_err-unless-4 g c = yes (at_least c.in_ok-unless.ensures.yes) (yes (below c.in_ok-unless-2.ensures.yes) (yes (so c.takes.ensures c.in_ok-unless-3.ensures.yes) (no (not_so c.are_nodes.ensures c.in_err-unless-4.ensures.no) (refused c.from_residual-in_err-unless-4.ensures.1 c.in_err-unless-4.ensures.told))))

pub are_free-requires-clause-nodes : goal.are_free-requires-clause-nodes
are_free-requires-clause-nodes g c = so c.are_nodes.ensures c.in_ok-unless-4.ensures.yes

pub join-requires-clause-number_left : goal.join-requires-clause-number_left
join-requires-clause-number_left g c = below c.in_ok-unless-2.ensures.yes

pub join-requires-clause-takes : goal.join-requires-clause-takes
join-requires-clause-takes g c = (so c.takes.ensures c.in_ok-unless-3.ensures.yes, c.requires)

pub join-requires-clause-nodes : goal.join-requires-clause-nodes
join-requires-clause-nodes g c = so c.are_nodes.ensures c.in_ok-unless-4.ensures.yes

pub returns-in_err-unless-5 : goal.returns-in_err-unless-5
returns-in_err-unless-5 g c =
    yes (at_least c.in_ok-unless.ensures.yes) (yes (below c.in_ok-unless-2.ensures.yes) (yes (so c.takes.ensures c.in_ok-unless-3.ensures.yes) (yes (so c.are_nodes.ensures c.in_ok-unless-4.ensures.yes)
    (no (not_so c.are_free.ensures c.in_err-unless-5.ensures.no) (refused c.from_residual-in_err-unless-5.ensures.1 c.in_err-unless-5.ensures.told)))))

pub returns-in_err-unless-6 : goal.returns-in_err-unless-6
returns-in_err-unless-6 g c =
    yes (at_least c.in_ok-unless.ensures.yes) (yes (below c.in_ok-unless-2.ensures.yes) (yes (so c.takes.ensures c.in_ok-unless-3.ensures.yes) (yes (so c.are_nodes.ensures c.in_ok-unless-4.ensures.yes)
    (yes (so c.are_free.ensures c.in_ok-unless-5.ensures.yes) (no (not_so c.are_distinct.ensures c.in_err-unless-6.ensures.no) (refused c.from_residual-in_err-unless-6.ensures.1 c.in_err-unless-6.ensures.told))))))

pub join-requires-clause-free : goal.join-requires-clause-free
join-requires-clause-free g c = so c.are_free.ensures c.in_ok-unless-5.ensures.yes

pub join-requires-clause-once : goal.join-requires-clause-once
join-requires-clause-once g c = so c.are_distinct.ensures c.in_ok-unless-6.ensures.yes

pub returns : goal.returns
returns g c =
    yes (at_least c.in_ok-unless.ensures.yes) (yes (below c.in_ok-unless-2.ensures.yes) (yes (so c.takes.ensures c.in_ok-unless-3.ensures.yes) (yes (so c.are_nodes.ensures c.in_ok-unless-4.ensures.yes)
    (yes (so c.are_free.ensures c.in_ok-unless-5.ensures.yes) (yes (so c.are_distinct.ensures c.in_ok-unless-6.ensures.yes) (refl, c.join.ensures.joined))))))
