use Rattle.std.proofs.Common.{rules}
use Rattle.terms.specs.declared.bridge.Arms.{Arms}
use Rattle.terms.specs.Picking.{with_a}
use Rattle.kinds.proofs.Lawful.{lawful_kind, lawful_weight}
use Rattle.terms.proofs.Looping.{merges_same}
use Rattle.terms.proofs.Bridging.{arms_reordered}
use Rattle.terms.proofs.bridge.bridge.Goals as goal

pub returns : goal.returns
returns g c =
    let k = lawful_kind g.met.P.Performance in
    let w = lawful_weight g.met.W.Weight in
    let arms : Arms _ _ = record { b = c.args.arm_b; d = c.args.arm_d; e = c.args.arm_e; c = c.args.arm_c } in
    merges_same k w _ _ _ _ (arms_reordered k w c.args.arm_a.now arms)
    (c.of_each.ensures (λ a. with_a g.P.Performance g.W.Weight a arms) (search rules))
