use Rattle.std.proofs.Common.{arith}
use Rattle.diagram.specs.Changes.{NodeCollected}
use Rattle.diagram.proofs.RecordsSound.{collected_keeps}
use Rattle.diagram.proofs.TableWrites.{collected_written}
use Rattle.diagram.proofs.table.Table.collect.Goals as goal

written : (c : goal.After-put_collected) → NodeCollected c.args.self.now c.put_collected.new.self c.args.k c.args.size
written c = rw c.put_collected.ensures (collected_written c.args.self.now c.args.k c.args.size (omega (arith, c.requires.node, c.requires.sound.few)))

pub returns-clause-collected : goal.returns-clause-collected
returns-clause-collected = written

pub returns-clause-sound : goal.returns-clause-sound
returns-clause-sound c = collected_keeps c.requires.sound c.requires.node c.requires.joined c.requires.up_to_date c.requires.fits (written c) (rw c.put_collected.ensures c.requires.sound.short)
