use Rattle.diagram.proofs.StoreWrites.{row_cut}
use Rattle.diagram.proofs.work.row_of.Goals as goal

pub returns : goal.returns
returns g c = row_cut c.args.table.now c.args.rows.now c.args.c c.requires.node.1
