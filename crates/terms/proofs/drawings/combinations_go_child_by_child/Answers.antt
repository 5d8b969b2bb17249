use Rattle.kinds.proofs.Lawful.{lawful_weight}
use Rattle.terms.proofs.Children.{of_part, of_one, of_more, of_bridge}
use Rattle.terms.proofs.drawings.combinations_go_child_by_child.Goals as goal

pub returns : goal.returns
returns g c =
    let w = lawful_weight g.met.W.Weight in
    record {
      of_part = of_part g.P.Performance g.W.Weight w;
      of_one = of_one g.P.Performance g.W.Weight w;
      of_more = of_more g.P.Performance g.W.Weight w;
      of_bridge = of_bridge g.P.Performance g.W.Weight w;
    }
