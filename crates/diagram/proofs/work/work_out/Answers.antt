use Rattle.std.proofs.Common.{drop, sym, ap, ◌∙◌, arith}
use Rattle.std.proofs.lemmas.List.{length-take, length-take-le}
use Rattle.kinds.proofs.Lawful.{lawful_kind, lawful_weight}
use Rattle.diagram.specs.declared.limits.TheConstants.{TERMS}
use Rattle.diagram.proofs.WorkingOut.{over, put}
use Rattle.diagram.proofs.work.work_out.Goals as goal

pub returns-in_err-len : goal.returns-in_err-len
returns-in_err-len g c =
    let tail = c.split_at_mut-next.ensures.back ∙ ap (drop TERMS) (c.split_at_mut-room.ensures.back ∙ ap (drop TERMS) c.split_at_mut-rows.ensures.back) in
    rw c.from_residual.ensures (over _ _ (lawful_kind g.met.P.Performance) (lawful_weight g.met.W.Weight) c.args.table.now c.args.k c.requires.sound c.requires.node c.requires.joined c.args.store.now _ _ _ _ c.requires.roomy c.split_at_mut-rows.ensures.front (c.last_result.auto.room ∙ c.split_at_mut-room.ensures.front_len) (c.last_result.auto.next ∙ c.split_at_mut-next.ensures.front_len) tail (rw c.in_err-len.was at c.last_result.ensures))

pub returns : goal.returns
returns g c =
    let tail = c.split_at_mut-next.ensures.back ∙ ap (drop TERMS) (c.split_at_mut-room.ensures.back ∙ ap (drop TERMS) c.split_at_mut-rows.ensures.back) in
    put _ _ (lawful_kind g.met.P.Performance) (lawful_weight g.met.W.Weight) c.args.table.now c.args.k c.requires.sound c.requires.node c.requires.joined c.args.store.now _ _ _ _ c.requires.roomy c.split_at_mut-rows.ensures.front (c.last_result.auto.room ∙ c.split_at_mut-room.ensures.front_len) (c.last_result.auto.next ∙ c.split_at_mut-next.ensures.front_len) tail _ (rw c.in_ok-len.was at c.last_result.ensures) _ (cc) c.copy_row.ensures.stands c.copy_row.ensures.others

pub copy_row-requires-clause-fits : goal.copy_row-requires-clause-fits
copy_row-requires-clause-fits g c = omega (arith, length-take c.in_ok-len.len c.last_result.new.room, c.last_result.auto.room, c.split_at_mut-room.ensures.front_len)

pub last_result-requires-clause-rows : goal.last_result-requires-clause-rows
last_result-requires-clause-rows g c = omega (arith, c.split_at_mut-rows.ensures.front_len)

pub last_result-requires-clause-room : goal.last_result-requires-clause-room
last_result-requires-clause-room g c = c.split_at_mut-room.ensures.front_len

pub last_result-requires-clause-next : goal.last_result-requires-clause-next
last_result-requires-clause-next g c = c.split_at_mut-next.ensures.front_len

pub slice_bounds-copy_row-end : goal.slice_bounds-copy_row-end
slice_bounds-copy_row-end g c = (rw c.in_ok-len.was at c.last_result.ensures).1.0

pub slice_bounds-copy_row-end-2 : goal.slice_bounds-copy_row-end-2
slice_bounds-copy_row-end-2 g c = sym (length-take-le c.in_ok-len.len c.last_result.new.room (rw c.in_ok-len.was at c.last_result.ensures).1.0)
