use Rattle.std.proofs.Common.{[], ◌∷◌, ◌++◌, Ok, length, map, subst, ap, ◌∙◌, sym}
use Rattle.std.proofs.lemmas.List.{map_push}
use Rattle.std.proofs.lemmas.Iterator.Splits.{YieldsList-from_lines}
use Rattle.std.proofs.lemmas.Iterator.Consumers.{YieldsList-end, count_from_yields_List}
use Rattle.std.specs.Str.Iter.{lines_rest}
use Rattle.diagram.specs.Calls.{Made}
use Rattle.diagram.specs.Shown.{records}
use Rattle.calls.specs.Played.{LinePlayed, LinesSay}
use Rattle.calls.proofs.Playing.{PlayedSoFar, none_played, one_played, written_over, as_many}
use Rattle.calls.proofs.play.play.Goals as goal

pub loop-line-init : goal.loop-line-init
loop-line-init g c =
    none_played g.P.Written g.P.Performance c.in-Ok.diagram c.in_ok-store.store.items (subst (λ z. Made records z (Ok c.in-Ok.diagram)) c.deref.ensures.value c.in-Ok.ensures.made)
    (ap length (sym c.deref.ensures.value) ∙ c.deref.ensures.len ∙ c.in_ok-store.ensures.len)

pub loop-line-preserved : goal.loop-line-preserved
loop-line-preserved g c =
    let over = written_over c.loop-line.store.len c.play_line.new.store c.loop-line.store.items (sym c.deref_mut.ensures.len ∙ ap length c.deref_mut.ensures.value) (c.play_line.auto.store ∙ ap length c.deref_mut.ensures.value) in
    subst (λ z. PlayedSoFar g.P.Written g.P.Performance (map (λ x. x.now) (c.loop-line.yielded ++ (c.in-Some.line ∷ []))) c.play_line.new.diagram z) (sym over)
    (one_played g.P.Written g.P.Performance (map (λ x. x.now) c.loop-line.yielded) _ c.in-Some.line.now c.loop-line.diagram c.play_line.new.diagram c.loop-line.store.items c.play_line.new.store c.loop-line.invariant
    (subst (λ z. LinePlayed g.P.Written g.P.Performance c.in-Some.line.now c.loop-line.diagram z c.play_line.new.diagram c.play_line.new.store) c.deref_mut.ensures.value c.in_ok-play_line.ensures) (c.play_line.auto.store ∙ ap length c.deref_mut.ensures.value) (map_push (λ x. x.now) c.loop-line.yielded c.in-Some.line))

pub returns : goal.returns
returns g c =
    let before = c.loop-line.invariant in
    let rest = ap lines_rest c.into_iter-line-iterator.ensures.into_iter_gives ∙ c.lines-line-items.ensures.rest in
    let all = YieldsList-end (YieldsList-from_lines c.args.calls.now rest) c.loop-line.yielded _ c.loop-line.yielded_by _ _ c.in-None.is c.next.ensures.steps in
    let say = subst (λ z. LinesSay g.P.Written z before.entries) all.0 before.say in
    let many = count_from_yields_List c.lines.result c.count.result c.count.ensures.ran (YieldsList-from_lines c.args.calls.now c.lines.ensures.rest) in
    (before.entries, c.loop-line.diagram, c.loop-line.store.items, say, many ∙ as_many g.P.Written g.P.Performance _ before.entries say, before.run)
