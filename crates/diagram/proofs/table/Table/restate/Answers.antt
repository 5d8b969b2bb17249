use Rattle.std.proofs.Common.{arith}
use Rattle.diagram.proofs.RecordsSound.{restated_keeps}
use Rattle.diagram.proofs.TableWrites.{restated_written}
use Rattle.diagram.proofs.table.Table.restate.Goals as goal

pub returns-clause-restated : goal.returns-clause-restated
returns-clause-restated c = restated_written c.args.self.now c.mark_above.new.self c.args.k c.args.size (omega (arith, c.requires.node, c.requires.sound.few)) c.mark_above.ensures

pub returns-clause-sound : goal.returns-clause-sound
returns-clause-sound c = restated_keeps c.requires.sound c.requires.part c.requires.node c.requires.fits (returns-clause-restated c) (rw c.mark_above.ensures.rest.arities c.requires.sound.short)
