use Rattle.std.proofs.Common.{refl}
use Rattle.kinds.proofs.Lawful.{lawful_kind, lawful_weight}
use Rattle.terms.proofs.Children.{steps_find_the_row, steps_find_running_results}
use Rattle.terms.proofs.drawings.steps_find_the_row.Goals as goal

pub returns : goal.returns
returns g c =
    let k = lawful_kind g.met.P.Performance in
    let w = lawful_weight g.met.W.Weight in
    record {
      row = steps_find_the_row g.P.Performance g.W.Weight w k;
      running = steps_find_running_results g.P.Performance g.W.Weight w k;
      of_three = λ way x y z. refl;
    }
