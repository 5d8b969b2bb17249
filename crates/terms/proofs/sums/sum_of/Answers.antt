use Rattle.std.proofs.Common.{sym, ap, ◌∙◌}
use Rattle.kinds.proofs.Lawful.{lawful_weight}
use Rattle.terms.proofs.Summing.{sum_more}
use Rattle.terms.proofs.sums.sum_of.Goals as goal

pub loop-t-preserved : goal.loop-t-preserved
loop-t-preserved g c = λ given gives.
    let v = g.W.Weight in
    c.plus-all.ensures ∙ ap (λ z. v.sum z c.gives.result) (c.loop-t.invariant given gives) ∙ ap (v.sum _) (gives _ _ c.gives.ensures)
    ∙ sym (sum_more (lawful_weight g.met.W.Weight) given c.args.row.now c.loop-t.t-index c.t-item.result c.loop-t-test.true c.t-item.is)
