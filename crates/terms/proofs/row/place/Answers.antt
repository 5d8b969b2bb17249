use Rattle.std.proofs.Common.{rules, of_calls}
use Rattle.std.proofs.lemmas.Fn.{always_returns_same}
use Rattle.terms.proofs.row.place.Goals as goal

pub returns-in_default-clause-position : goal.returns-in_default-clause-position
returns-in_default-clause-position g c =
    c.binary_search_by.ensures.position (λ t. g.P.Performance.compared t.performance c.args.p) (always_returns_same _ _ _ (λ a r next called. search (rules, of_calls)))
