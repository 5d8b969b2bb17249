use Rattle.kinds.specs.Caps.{cap_laws}
use Rattle.kinds.proofs.theorems.capping_keeps_laws.Goals as goal

pub returns : goal.returns
returns c = cap_laws
