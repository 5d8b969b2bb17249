use Rattle.std.proofs.Common.{length-set, refl}
use Rattle.kinds.proofs.Lawful.{lawful_kind, lawful_weight}
use Rattle.terms.proofs.Placing.{add_here, row_rises}
use Rattle.terms.proofs.row.Row.put.Goals as goal

pub returns-in-Ok : goal.returns-in-Ok
returns-in-Ok g c = record {
  same_room = refl;
  merged = λ h. (
    simp length-set c.args.self.now.fits,
    rw c.grown.ensures (add_here (lawful_kind g.met.P.Performance) (lawful_weight g.met.W.Weight) _ _ _ _ _ c.args.self.now.fits c.in-Ok.ensures.bound c.index-room-at.is h (c.in-Ok.ensures.position _)),
  );
}

pub returns-in-Err : goal.returns-in-Err
returns-in-Err g c = record {
  same_room = c.insert.ensures.same_room;
  merged = λ h. c.insert.ensures.merged h (c.in-Err.ensures.position (row_rises (lawful_kind g.met.P.Performance) (lawful_weight g.met.W.Weight) _ _ h));
}
