use Rattle.std.proofs.Common.{sym, refl}
use Rattle.kinds.proofs.Lawful.{lawful_kind, lawful_weight}
use Rattle.terms.proofs.Voiding.{void_times, void_adds}
use Rattle.terms.proofs.row.Row.for_each_times.Goals as goal

pub returns-then-is_nothing : goal.returns-then-is_nothing
returns-then-is_nothing g c = λ gives grows keeps. record {
  same_room = refl;
  merged = λ row.
      let k = lawful_kind g.met.P.Performance in
      let w = lawful_weight g.met.W.Weight in
      (c.args.self.now.fits, void_adds k w _ _ (void_times k w c.args.xs.now gives keeps c.args.weight (w.only_nothing c.args.weight (sym c.if-is_nothing.ensures))) row);
}

pub returns : goal.returns
returns g c = λ gives grows keeps. c.for_each.ensures _ (λ row after x answer h. h.1 gives grows)
