use Rattle.std.proofs.Common.{sym, refl}
use Rattle.kinds.proofs.Lawful.{lawful_kind, lawful_weight}
use Rattle.terms.proofs.Voiding.{void_wanted, void_adds}
use Rattle.terms.proofs.Looping.{first_wanted}
use Rattle.terms.proofs.row.Row.for_each_group.Goals as goal

pub returns-then-is_nothing : goal.returns-then-is_nothing
returns-then-is_nothing g c = λ wanted gives groups. record {
  same_room = refl;
  merged = λ row.
      let k = lawful_kind g.met.P.Performance in
      let w = lawful_weight g.met.W.Weight in
      (c.args.self.now.fits, void_adds k w _ _ (void_wanted k w c.args.xs.now wanted groups.nothing c.args.weight (w.only_nothing c.args.weight (sym c.if-is_nothing.ensures))) row);
}

pub returns : goal.returns
returns g c = λ wanted gives groups.
    rw c.in-Some.ensures.cases.0
    (first_wanted (lawful_kind g.met.P.Performance) (lawful_weight g.met.W.Weight) _ _ _ _ _ _ (groups.keys _ _ _ c.key.ensures) (c.group_on.ensures wanted gives groups))
