-- Outer arms come to what passes without arm c, and what c adds to, of which no more counts.
use Rattle.std.proofs.Common.{◌≡◌, ℕ, ◌+◌, ◌≤◌, ◌/◌, min, arith, ap, sym, ◌∙◌}
use Rattle.std.proofs.Math.Arith.{bin_ind}
use Rattle.std.specs.Int.Bits.{or_zero_l, and_zero_l}
use Rattle.kinds.specs.BitLaws.{by_digits, or_half, or_low, and_half, and_low}
use Rattle.kinds.specs.Capped.{top32, capped}
use Rattle.kinds.specs.Caps.{min_capped}
use Rattle.kinds.specs.Fits.{fits_below}
use Rattle.kinds.specs.Named.{Flow, Delay, FaultSet}
use Rattle.kinds.specs.Flows.{flow_bridge}
use Rattle.kinds.specs.Delays.{delay_bridge}
use Rattle.kinds.specs.FaultSets.{faults_bridge}
use Rattle.kinds.specs.OuterArms.{outer_arms, SameAround}
use Rattle.kinds.specs.Words.{zero_word, smaller, word_sum, union, intersection}
use Rattle.kinds.specs.WordLaws.{word_same}
use Rattle.kinds.specs.declared.word.Word.{Word}
use Rattle.kinds.specs.declared.performance.OuterArms.{OuterArms}
use Rattle.kinds.proofs.Crossing.{◌∩◌, ◌∪◌, flow_crossed, delay_crossed, faults_crossed}

-- four arms around which a bridge is `without`, joined with what c adds to `around`
abbrev pub word_arms : {Of : Type 0} → Word Of → Word Of → OuterArms (Word Of)
word_arms without around = outer_arms zero_word without without around

-- capped sums

sum_without : (w x : ℕ) → w ≤ top32 → min (capped top32 (0 + w)) (capped top32 (w + x)) ≡ w
sum_without w x h = omega (arith, h)

sum_around : (w y : ℕ) → w ≤ top32 → min (capped top32 (0 + min y w)) (capped top32 (w + w)) ≡ min y w
sum_around w y h = omega (arith, h)

no_more_counts : (w y c : ℕ) → min w (capped top32 (min y w + c)) ≡ min w (capped top32 (y + c))
no_more_counts w y c = omega arith

sums_settled : (w y c : ℕ) → w ≤ top32 → min (min (capped top32 (0 + w)) (capped top32 (w + min y w))) (capped top32 (min (capped top32 (0 + min y w)) (capped top32 (w + w)) + c)) ≡ min w (capped top32 (y + c))
sums_settled w y c h =
    ap (λ z. min z (capped top32 (min (capped top32 (0 + min y w)) (capped top32 (w + w)) + c))) (sum_without w (min y w) h)
    ∙ ap (λ z. min w (capped top32 (z + c))) (sum_around w y h)
    ∙ no_more_counts w y c

cuts_of_two : (a b d e : ℕ) → min (min (a + e) (b + d)) (min (a + b) (d + e)) ≡ min a d + min b e
cuts_of_two a b d e = omega arith

cuts_settled : (a b d e : ℕ) → min (min (capped top32 (a + e)) (capped top32 (b + d))) (min (capped top32 (a + b)) (capped top32 (d + e))) ≡ capped top32 (min a d + min b e)
cuts_settled a b d e =
    ap (λ z. min z (min (capped top32 (a + b)) (capped top32 (d + e)))) (min_capped top32 (a + e) (b + d))
    ∙ ap (min (capped top32 (min (a + e) (b + d)))) (min_capped top32 (a + b) (d + e))
    ∙ min_capped top32 (min (a + e) (b + d)) (min (a + b) (d + e))
    ∙ ap (capped top32) (cuts_of_two a b d e)

none_of : (w y : ℕ) → w ≤ top32 → capped top32 (min 0 w + min w (min y w)) ≡ min y w
none_of w y h = omega (arith, h)

abbrev flow_without : OuterArms Flow → Flow
flow_without p = smaller (word_sum p.a p.b) (word_sum p.d p.e)

abbrev flow_around : OuterArms Flow → Flow
flow_around p = smaller (word_sum p.a p.e) (word_sum p.b p.d)

pub flow_reduced : (p : OuterArms Flow) → SameAround smaller word_sum flow_bridge p (word_arms (flow_without p) (smaller (flow_around p) (flow_without p)))
flow_reduced p =
    let w = flow_without p in
    let x = smaller (flow_around p) w in
    record {
      around = λ c.
          sym (flow_crossed zero_word w c w x)
          ∙ word_same _ _ (sums_settled w.bits (flow_around p).bits c.bits (fits_below w.bits w.fits))
          ∙ flow_crossed p.a p.b c p.d p.e;
      without = word_same _ _ (none_of w.bits (flow_around p).bits (fits_below w.bits w.fits) ∙ cuts_settled p.a.bits p.b.bits p.d.bits p.e.bits);
    }

abbrev delay_without : OuterArms Delay → Delay
delay_without p = smaller (word_sum p.a p.d) (word_sum p.b p.e)

abbrev delay_around : OuterArms Delay → Delay
delay_around p = smaller (word_sum p.a p.e) (word_sum p.b p.d)

pub delay_reduced : (p : OuterArms Delay) → SameAround word_sum smaller delay_bridge p (word_arms (delay_without p) (smaller (delay_around p) (delay_without p)))
delay_reduced p =
    let w = delay_without p in
    let x = smaller (delay_around p) w in
    record {
      around = λ c.
          sym (delay_crossed zero_word w c w x)
          ∙ word_same _ _ (sums_settled w.bits (delay_around p).bits c.bits (fits_below w.bits w.fits))
          ∙ delay_crossed p.a p.b c p.d p.e;
      without = word_same _ _ (sum_without w.bits x.bits (fits_below w.bits w.fits));
    }

-- sets

absorbed : (w x : ℕ) → w ∩ (w ∪ x) ≡ w
absorbed =
    bin_ind (λ (n : ℕ). (x : ℕ) → n ∩ (n ∪ x) ≡ n) (λ x. simp and_zero_l)
    (λ n ih x. by_digits (simp (and_half, or_half) (ih (x / 2))) (simp (and_low, or_low) (omega arith)))

set_without : (w x : ℕ) → (0 ∪ w) ∩ (w ∪ x) ≡ w
set_without w x = simp or_zero_l (absorbed w x)

set_settled : (w y c : ℕ) → w ∩ ((0 ∪ y ∩ w) ∩ (w ∪ w) ∪ c) ≡ w ∩ (y ∪ c)
set_settled =
    bin_ind (λ (n : ℕ). (y c : ℕ) → n ∩ ((0 ∪ y ∩ n) ∩ (n ∪ n) ∪ c) ≡ n ∩ (y ∪ c)) (λ y c. simp and_zero_l)
    (λ n ih y c. by_digits (simp (and_half, or_half) (ih (y / 2) (c / 2))) (simp (and_low, or_low) (omega arith)))

sets_settled : (w y c : ℕ) → (0 ∪ w) ∩ (w ∪ y ∩ w) ∩ ((0 ∪ y ∩ w) ∩ (w ∪ w) ∪ c) ≡ w ∩ (y ∪ c)
sets_settled w y c = ap (λ z. z ∩ ((0 ∪ y ∩ w) ∩ (w ∪ w) ∪ c)) (set_without w (y ∩ w)) ∙ set_settled w y c

abbrev faults_without : OuterArms FaultSet → FaultSet
faults_without p = intersection (union p.a p.d) (union p.b p.e)

abbrev faults_around : OuterArms FaultSet → FaultSet
faults_around p = intersection (union p.a p.e) (union p.b p.d)

pub faults_reduced : (p : OuterArms FaultSet) → SameAround union intersection faults_bridge p (word_arms (faults_without p) (intersection (faults_around p) (faults_without p)))
faults_reduced p =
    let w = faults_without p in
    let x = intersection (faults_around p) w in
    record {
      around = λ c.
          sym (faults_crossed zero_word w c w x)
          ∙ word_same _ _ (sets_settled w.bits (faults_around p).bits c.bits)
          ∙ faults_crossed p.a p.b c p.d p.e;
      without = word_same _ _ (set_without w.bits x.bits);
    }
