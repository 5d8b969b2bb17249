use Rattle.std.proofs.Common.{rules}
use Rattle.std.proofs.lemmas.List.Elements.{All-set}
use Rattle.diagram.proofs.RecordsSound.{added_keeps}
use Rattle.diagram.proofs.table.Table.add_part.Goals as goal

pub returns-clause-sound : goal.returns-clause-sound
returns-clause-sound c = added_keeps c.requires.sound c.requires.number_left c.requires.fits (search rules) (search (rules, All-set))
