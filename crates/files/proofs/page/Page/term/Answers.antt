-- The line, word after number.
use Rattle.std.proofs.Common.{length-append, arith}
use Rattle.files.proofs.Pages.{◌and_then◌}
use Rattle.files.proofs.page.Page.term.Goals as goal

pub returns-clause-wrote : goal.returns-clause-wrote
returns-clause-wrote c =
    c.text.ensures.wrote and_then c.figure.ensures.wrote and_then c.text-2.ensures.wrote and_then c.figure-2.ensures.wrote and_then
    c.text-3.ensures.wrote and_then c.figure-3.ensures.wrote and_then c.push.ensures.wrote

pub returns-clause-short : goal.returns-clause-short
returns-clause-short c = simp length-append (omega arith)
