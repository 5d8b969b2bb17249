use Rattle.std.proofs.Common.{rules}
use Rattle.terms.proofs.bridge.Arms.with_outer.Goals as goal

pub returns : goal.returns
returns g c =
    let outer = c.args.outer.key in
    c.put_each.ensures (λ p. g.P.Performance.bridge outer.a outer.b p outer.d outer.e) (search rules)
