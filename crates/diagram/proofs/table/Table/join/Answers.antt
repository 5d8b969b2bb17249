use Rattle.std.proofs.Common.{◌≤◌, arith}
use Rattle.std.proofs.lemmas.List.Elements.{All-set}
use Rattle.diagram.specs.declared.limits.TheConstants.{CHILDREN}
use Rattle.diagram.proofs.RecordsSound.{joined_keeps, takes_few}
use Rattle.diagram.proofs.TableWrites.{joined_written}
use Rattle.diagram.proofs.table.Table.join.Goals as goal

pub returns-clause-joined : goal.returns-clause-joined
returns-clause-joined c = rw c.joined.ensures (joined_written c.args.self.now c.set_user.new.self c.args.form c.args.children.now c.padded.result (omega (arith, c.requires.number_left)) (omega (arith, c.requires.number_left)) (omega (arith, c.requires.number_left)) c.set_user.ensures c.padded.ensures)

pub returns-clause-sound : goal.returns-clause-sound
returns-clause-sound c = joined_keeps c.requires.sound c.requires.number_left c.requires.takes c.requires.nodes c.requires.free c.requires.once (returns-clause-joined c)
    (rw c.set_user.ensures.rest.arities (All-set (λ n. n ≤ CHILDREN) c.args.self.now.arities c.args.self.now.count _ (takes_few c.args.form _ c.requires.takes.0) c.requires.sound.short))
