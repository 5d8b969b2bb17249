use Rattle.std.proofs.Common.{rules, sym}
use Rattle.std.proofs.Output.{has_written_append, has_written_of_eq}
use Rattle.worked.proofs.Texts.{row_text_more}
use Rattle.worked.proofs.lines.LineDisplay.fmt.Goals as goal

pub loop-t-preserved : goal.loop-t-preserved
loop-t-preserved g c p =
    has_written_of_eq _ _ _ _ _ (sym (row_text_more c.args.self.now.name.now c.args.self.now.row.now c.loop-t.t-index c.t-item.result c.loop-t-test.true c.t-item.is))
    (has_written_append _ _ _ _ _ _ (c.loop-t.invariant p) (search rules))
