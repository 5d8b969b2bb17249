use Rattle.std.proofs.Common.{take, sym, ap, arith}
use Rattle.std.proofs.lemmas.List.{length-take-le}
use Rattle.kinds.proofs.Lawful.{lawful_kind, lawful_weight}
use Rattle.diagram.proofs.Lengths.{has_room}
use Rattle.diagram.proofs.StoreWrites.{put}
use Rattle.diagram.proofs.work.put_row.Goals as goal

pub unwrap-requires : goal.unwrap-requires
unwrap-requires g c = has_room (lawful_kind g.met.P.Performance) (lawful_weight g.met.W.Weight) c.args.states.now _ _ (omega arith) c.merge.ensures

pub returns : goal.returns
returns g c =
    let m = rw c.unwrap.ensures at (c.merge.ensures) in
    let e = length-take-le c.unwrap.result c.merge.new.room m.0 in
    (take c.unwrap.result c.merge.new.room, m.1, sym e, put c.args.k _ c.args.store.now c.merge.new.room (omega arith) (omega arith) (omega arith) c.requires.node c.requires.roomy _ (omega (arith, e, m.0)) (ap (λ n. take n c.merge.new.room) e))
