use Rattle.std.proofs.Common.{ap, ◌∙◌, arith}
use Rattle.std.specs.Str.Iter.{split_whitespace_rest}
use Rattle.calls.proofs.Reading.{none_yet, one_more, all_found}
use Rattle.calls.proofs.numbers.numbers.Goals as goal

pub loop-word-init : goal.loop-word-init
loop-word-init c =
    let rest_is_text = ap split_whitespace_rest c.into_iter-word-iterator.ensures.into_iter_gives ∙ c.split_whitespace-word-items.ensures.rest in
    none_yet c.args.text.now _ _ c.new-found.ensures.items rest_is_text

pub loop-word-preserved : goal.loop-word-preserved
loop-word-preserved c =
    let parsed = c.in-Ok.ensures.value.0 in
    one_more c.args.text.now _ _ _ _ c.in-Some.word.now c.in-Ok.number c.loop-word.invariant c.in-Some.ensures.steps (parsed.0.0, parsed.1, omega (arith, parsed.0.1, parsed.1)) c.in_ok-push.ensures.items

pub returns : goal.returns
returns c = all_found c.args.text.now _ _ c.loop-word.invariant c.in-None.ensures.steps.1
