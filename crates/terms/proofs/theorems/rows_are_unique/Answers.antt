use Rattle.kinds.proofs.Lawful.{lawful_kind, lawful_weight}
use Rattle.terms.proofs.Canonical.{canon, canon_row, row_unique}
use Rattle.terms.proofs.Answering.{one_answer}
use Rattle.terms.proofs.theorems.rows_are_unique.Goals as goal

pub returns : goal.returns
returns g c =
    let k = lawful_kind g.met.P.Performance in
    let w = lawful_weight g.met.W.Weight in
    record {
      row = λ ts. (canon g.P.Performance g.W.Weight ts, canon_row k w ts, λ s h. row_unique k w ts _ s (canon_row k w ts) h);
      answer = one_answer k w;
    }
