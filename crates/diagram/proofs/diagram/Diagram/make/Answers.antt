use Rattle.std.proofs.Common.{refl}
use Rattle.diagram.proofs.diagram.Diagram.make.Goals as goal

pub returns-in-Joined : goal.returns-in-Joined
returns-in-Joined g c = rw c.in-Joined.is (c.join.result, c.join.ensures, refl, refl)

pub returns-in-Bridged : goal.returns-in-Bridged
returns-in-Bridged g c = rw c.in-Bridged.is (c.join_bridge.result, c.join_bridge.ensures, refl, refl)
