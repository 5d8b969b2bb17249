use Rattle.kinds.proofs.Lawful.{lawful_kind, lawful_weight}
use Rattle.terms.proofs.Canonical.{row_unique}
use Rattle.terms.proofs.Combining.{total_same, met_same}
use Rattle.terms.proofs.Deciding.{reading_decides}
use Rattle.terms.proofs.Looping.{row_same}
use Rattle.terms.proofs.drawings.readings_decide.Goals as goal

pub returns : goal.returns
returns g c =
    let k = lawful_kind g.met.P.Performance in
    let w = lawful_weight g.met.W.Weight in
    record {
      distribution = λ states d states' e once once' same. reading_decides k w states states' d e once once' same;
      row = λ states d states' e once once' same r s row row'. row_unique k w _ r s row (row_same k w _ _ s (reading_decides k w states states' d e once once' same) row');
      total = λ states d states' e once once' same. total_same k w _ _ (reading_decides k w states states' d e once once' same);
      met = λ states d states' e once once' same demand. met_same k w demand _ _ (reading_decides k w states states' d e once once' same);
    }
