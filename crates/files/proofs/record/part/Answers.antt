use Rattle.std.proofs.Common.{Ok, take, refl, arith}
use Rattle.std.proofs.lemmas.List.{length-take-le}
use Rattle.files.proofs.OneNode.{part_read}
use Rattle.files.proofs.record.part.Goals as goal

pub returns : goal.returns
returns g c = part_read g.P.FilePerformance g.W.FileWeight (Ok _) c.args.k (take c.args.count c.states.new.room) c.args.count c.args.body.now c.in-Some.rest.now (length-take-le _ _ (omega arith)) (omega arith) c.in-Some.ensures.some (refl, refl)
