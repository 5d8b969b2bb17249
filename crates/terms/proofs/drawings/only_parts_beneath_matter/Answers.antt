use Rattle.terms.proofs.Beneath.{only_parts_beneath, only_parts_read}
use Rattle.terms.proofs.drawings.only_parts_beneath_matter.Goals as goal

pub returns : goal.returns
returns g c = record {
  combinations = only_parts_beneath g.P.Performance g.W.Weight;
  reading = only_parts_read g.P.Performance g.W.Weight;
}
