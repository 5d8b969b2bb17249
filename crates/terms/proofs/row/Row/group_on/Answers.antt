use Rattle.std.proofs.Common.{subst}
use Rattle.kinds.proofs.Lawful.{lawful_kind, lawful_weight}
use Rattle.terms.specs.Rows.{SameDistribution}
use Rattle.terms.proofs.Looping.{held_first, next_like, next_other, refused_early, all_added}
use Rattle.terms.proofs.row.Row.group_on.Goals.{then-same, else-same+in_ok-step}
use Rattle.terms.proofs.row.Row.group_on.Goals as goal

pub loop-x-init : goal.loop-x-init
loop-x-init g c = λ wanted gives groups. held_first (lawful_kind g.met.P.Performance) (lawful_weight g.met.W.Weight) _ _

pub returns-in_err-step : goal.returns-in_err-step
returns-in_err-step g c = rw c.from_residual.ensures (λ wanted gives groups.
    refused_early (lawful_kind g.met.P.Performance) (lawful_weight g.met.W.Weight) gives groups.sums c.args.rest.now wanted c.args.weight _ c.loop-x.x-index _ _ _ c.loop-x.group.key c.loop-x.group.weight
    (c.loop-x.invariant wanted gives groups) (rw c.times.ensures at (groups.steps _ _ _ _ c.in_err-step.ensures)))

pub loop-x-preserved : goal.loop-x-preserved
loop-x-preserved g c = λ wanted gives groups.
    let k = lawful_kind g.met.P.Performance in
    let w = lawful_weight g.met.W.Weight in
    let x = c.x-item.result in
    let v = g.W.Weight.product c.args.weight x.weight in
    let same = groups.keys x.performance c.key-next.result v c.key-next.ensures in
    elim c.if-same.branch [
      | then-same b ↦ rw (b.self-is, b.group-is, b.plus-group.ensures) (
          next_like k w gives groups.sums c.args.rest.now wanted c.args.weight _ c.loop-x.x-index x c.loop-x-test.true c.x-item.is _ _ c.loop-x.group.key c.loop-x.group.weight
          (subst (λ z. SameDistribution g.P.Performance g.W.Weight (gives z v) (wanted x.performance v)) (groups.same c.key-next.result c.loop-x.group.key b.if-same.ensures) same)
          (c.loop-x.invariant wanted gives groups))
      | else-same+in_ok-step b ↦ rw (b.self-is, b.group-is) (
          next_other k w gives groups.sums c.args.rest.now wanted c.args.weight _ c.loop-x.x-index x c.loop-x-test.true c.x-item.is _ _ _ c.loop-x.group.key c.key-next.result c.loop-x.group.weight
          same (c.loop-x.invariant wanted gives groups) (rw b.times.ensures at (groups.steps _ _ _ _ b.in_ok-step.ensures)))
    ]

pub returns : goal.returns
returns g c = λ wanted gives groups.
    all_added (lawful_kind g.met.P.Performance) (lawful_weight g.met.W.Weight) gives groups.sums c.args.rest.now wanted c.args.weight _ c.loop-x.x-index c.loop-x-test.false _ _ _ c.loop-x.group.key c.loop-x.group.weight c.step-2.result
    (c.loop-x.invariant wanted gives groups) (rw c.times-2.ensures at (groups.steps _ _ _ _ c.step-2.ensures))
