use Rattle.std.proofs.Common.{◌≤◌, arith}
use Rattle.std.proofs.lemmas.List.Elements.{All-replicate}
use Rattle.diagram.specs.declared.limits.TheConstants.{NODES, CHILDREN}
use Rattle.diagram.proofs.table.Table.empty.Goals as goal

pub returns-clause-sound : goal.returns-clause-sound
returns-clause-sound c = record { few = omega arith; short = All-replicate (λ n. n ≤ CHILDREN) NODES 0 (omega arith); at = λ k h. absurd (omega (arith, h)) }
