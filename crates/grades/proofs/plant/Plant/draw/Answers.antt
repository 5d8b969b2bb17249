use Rattle.std.proofs.Common.{ap, subst, sym}
use Rattle.diagram.specs.Runs.{Run}
use Rattle.diagram.specs.Makings.{history_of}
use Rattle.grades.specs.contracts.grade_kind.GradePerformance.TheImpl.{ghosts as grade_kind}
use Rattle.grades.specs.contracts.batches_weight.BatchesWeight.TheImpl.{ghosts as batches_weight}
use Rattle.grades.specs.declared.share.Joined.{Joined}
use Rattle.grades.specs.declared.share.Nodes.{Nodes}
use Rattle.grades.specs.Building.{parts_made, nodes_made}
use Rattle.diagram.proofs.RunGoesOn.{given, ok_same}
use Rattle.grades.proofs.plant.Plant.draw.Goals as goal

pub returns-clause-stands : goal.returns-clause-stands
returns-clause-stands c =
    let long = c.add_parts.auto.store in
    let p = c.args.parts.now in
    let added = (given (given (given c.in_ok-nodes.ensures.added).1).1).1 in
    let run = subst (λ n. Run grade_kind batches_weight (history_of n (parts_made p.first p.second p.finishing)) c.add_parts.new.plant c.add_parts.new.store) (sym long) added.1 in
    let joined = c.in_ok-joined.ensures p.first p.second p.finishing run in
    let is = ok_same joined.0 in
    record {
      first = ap (λ (n : Nodes). n.first) (ok_same added.0);
      lines = ap (λ (j : Joined). j.lines) is;
      whole = ap (λ (j : Joined). j.whole) is;
      run = subst (λ n. Run grade_kind batches_weight (history_of n (nodes_made p.first p.second p.finishing)) c.join_parts.new.plant c.add_parts.new.store) long joined.1;
    }
