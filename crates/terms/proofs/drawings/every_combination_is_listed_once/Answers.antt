use Rattle.terms.specs.Drawings.{all_parts}
use Rattle.terms.proofs.Beneath.{one_part_only, picked_once}
use Rattle.terms.proofs.Listing.{every_combination, nothing_else, as_many}
use Rattle.terms.proofs.Picks.{once_none_twice, has_once}
use Rattle.terms.proofs.drawings.every_combination_is_listed_once.Goals as goal

pub returns : goal.returns
returns g c = record {
  beneath = λ d. (once_none_twice (all_parts d), λ n. has_once n (all_parts d));
  every = every_combination g.P.Performance g.W.Weight;
  no_other = nothing_else g.P.Performance g.W.Weight;
  as_many = as_many g.P.Performance g.W.Weight;
  one_part_only = one_part_only g.P.Performance g.W.Weight;
  picked_once = picked_once g.P.Performance g.W.Weight;
}
