-- Outer arms of a bridge that do the same.
use Rattle.std.specs.Prelude.{◌≡◌}
use Rattle.kinds.specs.declared.performance.OuterArms.{OuterArms}

abbrev pub outer_arms : {K : Type 0} → K → K → K → K → OuterArms K
outer_arms a b d e = record { a = a; b = b; d = d; e = e }

module _ {K : Type 0} (series parallel : K → K → K) (bridge : K → K → K → K → K → K) where
  -- the bridges of both with any arm c, and with none, are the same
  pub record SameAround (p q : OuterArms K) : Type 0 where
    pub around : (c : K) → bridge q.a q.b c q.d q.e ≡ bridge p.a p.b c p.d p.e
    pub without : parallel (series q.a q.d) (series q.b q.e) ≡ parallel (series p.a p.d) (series p.b p.e)

  -- An arm of performance n does as if it were not there: nothing passes in series with it, in
  -- parallel the other way alone, and a bridge with it as an outer arm is what the other four are.
  pub record IsAbsent (n : K) : Type 0 where
    pub series_first : (v : K) → series n v ≡ n
    pub series_last : (v : K) → series v n ≡ n
    pub parallel_first : (v : K) → parallel n v ≡ v
    pub parallel_last : (v : K) → parallel v n ≡ v
    pub at_a : (b c d e : K) → bridge n b c d e ≡ series b (parallel e (series c d))
    pub at_b : (a c d e : K) → bridge a n c d e ≡ series a (parallel d (series c e))
    pub at_d : (a b c e : K) → bridge a b c n e ≡ series (parallel (series a c) b) e
    pub at_e : (a b c d : K) → bridge a b c d n ≡ series (parallel a (series b c)) d
