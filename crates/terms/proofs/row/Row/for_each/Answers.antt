use Rattle.std.proofs.Common.{◌+◌, Some, None}
use Rattle.kinds.proofs.Lawful.{lawful_kind, lawful_weight}
use Rattle.terms.proofs.Looping.{each_more, each_refused, each_all}
use Rattle.terms.proofs.row.Row.for_each.Goals as goal

pub loop-x-preserved : goal.loop-x-preserved
loop-x-preserved g c = λ gives grows.
    each_more (lawful_kind g.met.P.Performance) (lawful_weight g.met.W.Weight) c.args.xs.now gives c.loop-x.x-index _ c.x-item.result c.loop-x-test.true c.x-item.is _ _ (Some tt)
    (c.loop-x.invariant gives grows) (grows _ _ _ _ c.in_ok-step.ensures)

pub returns-in_err-step : goal.returns-in_err-step
returns-in_err-step g c = rw c.from_residual.ensures (λ gives grows.
    let k = lawful_kind g.met.P.Performance in
    let w = lawful_weight g.met.W.Weight in
    each_refused k w c.args.xs.now gives (c.loop-x.x-index + 1) _ _
    (each_more k w c.args.xs.now gives c.loop-x.x-index _ c.x-item.result c.loop-x-test.true c.x-item.is _ _ None
    (c.loop-x.invariant gives grows) (grows _ _ _ _ c.in_err-step.ensures)))

pub returns : goal.returns
returns g c = λ gives grows.
    each_all (lawful_kind g.met.P.Performance) (lawful_weight g.met.W.Weight) c.args.xs.now gives c.loop-x.x-index _ c.loop-x-test.false _ (c.loop-x.invariant gives grows)
