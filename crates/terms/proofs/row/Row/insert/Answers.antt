use Rattle.std.proofs.Common.{take, sym, refl, arith, length-set, rules}
use Rattle.std.specs.List.{insert}
use Rattle.std.proofs.lemmas.List.{length-take-le}
use Rattle.std.proofs.lemmas.List.Edits.{length-insert}
use Rattle.kinds.proofs.Lawful.{lawful_kind, lawful_weight}
use Rattle.terms.proofs.Placing.{put_between, something_row}
use Rattle.terms.proofs.row.Row.insert.Goals as goal

pub returns-then-self : goal.returns-then-self
returns-then-self g c =
    let before = c.args.self.now in
    let row = take before.len before.room.now in
    record {
      same_room = refl;
      merged = λ h at. (
        insert row c.args.at c.args.t,
        something_row (lawful_kind g.met.P.Performance) (lawful_weight g.met.W.Weight) _ _ _ (sym c.if-weighs_nothing.ensures) h at,
        let m = length-take-le before.len before.room.now before.fits in
            omega (arith, length-insert row c.args.at c.args.t (omega arith)),
      );
    }

pub returns : goal.returns
returns g c =
    let before = c.args.self.now in
    record {
      same_room = search rules;
      merged = λ h at. (
        simp length-set (omega (arith, c.copy_within.ensures.len, before.fits)),
        rw (c.copy_within.ensures.after, put_between before.room.now before.len c.args.at c.args.t c.requires (omega (arith, before.fits)))
            (something_row (lawful_kind g.met.P.Performance) (lawful_weight g.met.W.Weight) _ _ _ (sym c.if-weighs_nothing.ensures) h at),
      );
    }
