use Rattle.std.proofs.Common.{◌∙◌}
use Rattle.calls.proofs.Reading.{one_state, no_more}
use Rattle.calls.proofs.numbers.states.Goals as goal

pub loop-state-preserved : goal.loop-state-preserved
loop-state-preserved g c = (
  one_state g.P.Written c.args.numbers.now _ _ c.in-Some.state.now _ _ _ c.loop-state.invariant.0 c.in-Some.ensures.steps.1.0 c.in-len3.len_at_least c.in-len3.len_below c.in_ok-performance.ensures c.new.ensures.shows c.in_ok-push.ensures.items,
  c.in-Some.ensures.steps.0 ∙ c.loop-state.invariant.1,
)

pub returns : goal.returns
returns g c = no_more _ _ _ c.loop-state.invariant.0 c.in-None.ensures.steps.1.0
