use Rattle.std.proofs.Common.{rules, refl, [], ◌∷◌, ap, ◌∙◌}
use Rattle.kinds.proofs.Lawful.{lawful_kind, lawful_weight}
use Rattle.terms.specs.Combinations.{term}
use Rattle.terms.specs.Rows.{share}
use Rattle.terms.proofs.Canonical.{share_additive}
use Rattle.terms.proofs.Voiding.{void_one}
use Rattle.terms.proofs.row.Row.put_each.Goals as goal

pub returns : goal.returns
returns g c = λ f maps.
    let k = lawful_kind g.met.P.Performance in
    let w = lawful_weight g.met.W.Weight in
    let v = g.W.Weight in
    c.for_each_group.ensures (λ p u. term (f p) u ∷ []) (λ q u. term q u ∷ []) record {
      keys = λ p q u made r. ap (λ z. v.sum (share g.P.Performance v r (term z u)) v.nothing) (maps p q made);
      same = search rules;
      steps = search rules;
      sums = λ q s t r. ap (λ z. v.sum z v.nothing) ((share_additive k w r).more q s t) ∙ w.sum_assoc _ _ v.nothing;
      nothing = λ p. void_one k w (term (f p) v.nothing) refl;
    }
