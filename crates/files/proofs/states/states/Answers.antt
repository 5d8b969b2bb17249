use Rattle.std.proofs.Common.{◌++◌, flat_map, take, ◌∙◌, sym, ap, arith}
use Rattle.std.proofs.lemmas.List.{length-set, length-take-le, take_more_set}
use Rattle.files.specs.Contents.{state_bytes}
use Rattle.files.proofs.Bytes.{file_kind_of, file_weighing_of, state_once}
use Rattle.files.proofs.ValuesAhead.{one_more, too_few}
use Rattle.files.proofs.states.states.Goals as goal

pub returns-in_default-clause-none : goal.returns-in_default-clause-none
returns-in_default-clause-none g c =
    too_few (state_bytes g.P.FilePerformance g.W.FileWeight) (state_once (file_kind_of g.met.P.FilePerformance) (file_weighing_of g.met.W.FileWeight)) (take c.loop-i.i c.loop-i.room) _ _ _ c.loop-i.invariant.1
    (omega (arith, length-take-le c.loop-i.i c.loop-i.room)) c.in_default.ensures.none

pub loop-i-preserved : goal.loop-i-preserved
loop-i-preserved g c =
    let write = state_bytes g.P.FilePerformance g.W.FileWeight in (
      length-set c.loop-i.room c.loop-i.i c.in-Some.state ∙ c.loop-i.invariant.0,
      one_more write _ _ _ _ _ c.loop-i.invariant.1 c.in-Some.ensures.some ∙ ap (λ z. flat_map write z ++ c.in-Some.after.now) (sym (take_more_set c.loop-i.room c.loop-i.i c.in-Some.state (omega arith))),
    )
