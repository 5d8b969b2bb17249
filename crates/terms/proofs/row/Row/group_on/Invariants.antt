use Rattle.std.proofs.Common.{◌++◌, take}
use Rattle.terms.specs.Growing.{each_wanted, Groups}
use Rattle.terms.proofs.Looping.{Pending}
use Rattle.terms.proofs.row.Row.group_on.Given as goal

abbrev pub invariant-loop-x : goal.invariant-loop-x
invariant-loop-x g l =
    let k = g.P.Performance in
    let v = g.W.Weight in
    (wanted gives : _) → Groups k v (goal.F-post g l.key) (goal.S-post g l.same) (goal.T-post g l.step) wanted gives →
    Pending k v (gives l.initial.group.key (v.product l.weight l.initial.group.weight) ++ each_wanted k v wanted l.weight (take l.x-index l.rest)) l.initial.self l.self (gives l.group.key (v.product l.weight l.group.weight))
