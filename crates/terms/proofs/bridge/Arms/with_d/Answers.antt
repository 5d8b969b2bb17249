use Rattle.std.proofs.Common.{rules, refl, ap}
use Rattle.kinds.proofs.Lawful.{lawful_kind, lawful_weight}
use Rattle.terms.specs.Rows.{weight_at}
use Rattle.terms.specs.Picking.{with_outer}
use Rattle.terms.proofs.Bridging.{outer_same, outer_sums}
use Rattle.terms.proofs.Voiding.{void_outer}
use Rattle.terms.proofs.bridge.Arms.with_d.Goals as goal

pub returns : goal.returns
returns g c =
    let k = lawful_kind g.met.P.Performance in
    let w = lawful_weight g.met.W.Weight in
    let kind = g.P.Performance in
    let weights = g.W.Weight in
    let cs = c.args.self.now.c.now in
    c.for_each_group.ensures
    (λ e v. with_outer kind weights cs (record { a = c.args.a; b = c.args.b; d = c.args.d.performance; e = e }) v)
    (with_outer kind weights cs) record {
      keys = λ e key v made p. ap (λ z. weight_at kind weights z p) (outer_same k w cs _ key v (search rules));
      same = search rules;
      steps = search rules;
      sums = outer_sums k w cs;
      nothing = λ e. void_outer k w cs _ weights.nothing refl;
    }
