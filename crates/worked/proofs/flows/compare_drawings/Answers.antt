use Rattle.std.proofs.Common.{sym, ◌∙◌, rules}
use Rattle.worked.proofs.EqualValues.{answers_same}
use Rattle.worked.proofs.flows.compare_drawings.Goals as goal

pub returns-2 : goal.returns-2
returns-2 c = answers_same c.args.second.now c.args.first.now (sym c.eq.ensures ∙ search rules)
