use Rattle.std.proofs.Common.{Ok, ap, refl}
use Rattle.diagram.specs.Histories.{joined_from}
use Rattle.files.proofs.OneNode.{joined_read}
use Rattle.files.proofs.record.joined.Goals as goal

pub returns : goal.returns
returns g c =
    let split = c.split_at.ensures in
    joined_read g.P.FilePerformance g.W.FileWeight (Ok _) c.args.k c.args.way c.split_at.result.0.now c.args.count c.args.body.now c.split_at.result.1.now split.front_len split.by_index.0 (ap (joined_from c.args.way) (rw split.front_len at c.put_numbers.ensures), refl)
