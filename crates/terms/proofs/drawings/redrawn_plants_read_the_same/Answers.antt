use Rattle.terms.specs.Combinations.{ordered}
use Rattle.terms.specs.Rows.{weight_at}
use Rattle.terms.proofs.Equivalence.{equal_distributions}
use Rattle.terms.proofs.Redrawing.{regrouped, dissolved, in_any_order, order_counts, series_not_parallel, part_not_joined, part_not_bridge, joined_not_bridge}
use Rattle.terms.proofs.drawings.redrawn_plants_read_the_same.Goals as goal

pub returns : goal.returns
returns g c =
    let at = weight_at g.P.Performance g.W.Weight in
    let e = equal_distributions g.P.Performance g.W.Weight in
    let o = ordered g.P.Performance in
    record {
      regrouped = λ states way x y z. regrouped e o (λ n. at (states n)) way x y z;
      dissolved = λ states way front back own before after b a. dissolved e o (λ n. at (states n)) way front back own before after b a;
      in_any_order = λ states way free ds es p. in_any_order e o (λ n. at (states n)) way free ds es p;
      order_matters = λ states way counts m n same. order_counts e o (λ i. at (states i)) (λ i. at (states i)) way counts m n same;
      forms_differ = record {
        series_parallel = λ states states' ds es same. series_not_parallel e o _ _ same;
        part_joined = λ states states' n way es same. part_not_joined e o _ _ _ same;
        part_bridge = λ states states' n x y z u v same. part_not_bridge e o _ _ _ _ _ _ same;
        joined_bridge = λ states states' way ds x y z u v same. joined_not_bridge e o _ _ _ _ _ _ _ same;
      };
    }
