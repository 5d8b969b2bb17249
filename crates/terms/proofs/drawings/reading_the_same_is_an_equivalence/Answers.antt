use Rattle.terms.specs.Combinations.{ordered}
use Rattle.terms.specs.Readings.{reading_of, arms}
use Rattle.terms.specs.Rows.{weight_at}
use Rattle.terms.proofs.Equivalence.{equal_distributions, same_itself, same_flip, same_trans}
use Rattle.terms.proofs.Redrawing.{only_replaced, replaced}
use Rattle.terms.proofs.drawings.reading_the_same_is_an_equivalence.Goals as goal

pub returns : goal.returns
returns g c =
    let at = weight_at g.P.Performance g.W.Weight in
    let reads = reading_of g.P.Performance g.W.Weight in
    let e = equal_distributions g.P.Performance g.W.Weight in
    let o = ordered g.P.Performance in
    record {
      reflexive = λ states d. same_itself e o (reads states d);
      symmetric = λ states x states' y same. same_flip e o same;
      transitive = λ states x states' y states'' z first second. same_trans e o (reads states x) (reads states' y) (reads states'' z) first second;
      replaceable = record {
        only_child = λ states x states' y way same. only_replaced e o (λ n. at (states n)) (λ n. at (states' n)) way x y same;
        more_children = λ states xs x states' ys y way before same. replaced e o (λ n. at (states n)) (λ n. at (states' n)) way xs ys x y before same;
        arms = λ states _ _ _ _ _ states' _ _ _ _ _ x y z u v. arms x y z u v;
      };
    }
