use Rattle.std.proofs.Common.{refl, subst}
use Rattle.kinds.specs.Words.{capped_word}
use Rattle.kinds.specs.contracts.flow.FlowPerformance.TheImpl as flow_kind
use Rattle.kinds.specs.contracts.parts.PartsWeight.TheImpl as parts_weight
use Rattle.terms.specs.declared.term.Way.TheVariants.{Parallel}
use Rattle.diagram.specs.declared.limits.TheConstants.{STORE}
use Rattle.worked.specs.TwoParts.{OfTwo}
use Rattle.worked.proofs.flows.pumps_alone.Goals as goal

pub returns : goal.returns
returns c =
    let parts = c.args.parts.now in
    subst (λ demand. OfTwo flow_kind.ghosts parts_weight.ghosts Parallel parts.pump_a parts.pump_b demand STORE c.availability_of_two.result) (c.new.ensures.only (capped_word 3) refl) c.availability_of_two.ensures.answer
