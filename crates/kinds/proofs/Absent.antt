-- The set of all classes of faults: an arm of it does as if it were not there.
use Rattle.std.proofs.Common.{◌≡◌, ℕ, ◌^◌, ◌<◌, bit_and, bit_or, arith, refl, ap, sym, ◌∙◌}
use Rattle.std.specs.Int.Bits.{or_add_and}
use lib.Bits.{and_mask}
use Rattle.kinds.specs.Named.{FaultSet}
use Rattle.kinds.specs.FaultSets.{faults_bridge}
use Rattle.kinds.specs.OuterArms.{IsAbsent}
use Rattle.kinds.specs.Capped.{top32}
use Rattle.kinds.specs.Words.{top_word, union, intersection}
use Rattle.kinds.specs.WordLaws.{word_same, union_assoc, union_comm, intersection_comm}
use Rattle.kinds.proofs.Crossing.{union_spread}

and_all : (v : ℕ) → v < 2 ^ 32 → bit_and v top32 ≡ v
and_all v h = and_mask v 32 ∙ omega (arith, h)

or_all : (v : ℕ) → v < 2 ^ 32 → bit_or v top32 ≡ top32
or_all v h = omega (arith, or_add_and v top32, and_all v h)

abbrev pub all : FaultSet
all = top_word

with_all_last : (v : FaultSet) → union v all ≡ all
with_all_last v = word_same _ _ (or_all v.bits v.fits)

with_all : (v : FaultSet) → union all v ≡ all
with_all v = union_comm all v ∙ with_all_last v

within_all_last : (v : FaultSet) → intersection v all ≡ v
within_all_last v = word_same _ _ (and_all v.bits v.fits)

within_all : (v : FaultSet) → intersection all v ≡ v
within_all v = intersection_comm all v ∙ within_all_last v

spread : (c a b : FaultSet) → union c (intersection a b) ≡ intersection (union c a) (union c b)
spread c a b = word_same _ _ (union_spread c.bits a.bits b.bits)

spread_last : (a b c : FaultSet) → union (intersection a b) c ≡ intersection (union a c) (union b c)
spread_last a b c =
    union_comm (intersection a b) c ∙ spread c a b
    ∙ ap (λ z. intersection z (union c b)) (union_comm c a)
    ∙ ap (intersection (union a c)) (union_comm c b)

infixl 60 ◌∩◌
infixl 50 ◌∪◌
abbrev ◌∩◌ : FaultSet → FaultSet → FaultSet
v ∩ w = intersection v w

abbrev ◌∪◌ : FaultSet → FaultSet → FaultSet
v ∪ w = union v w

-- four paths, some of which come to other sets
paths : {p q r s p' q' r' s' : FaultSet} → p ≡ p' → q ≡ q' → r ≡ r' → s ≡ s' → p ∩ q ∩ r ∩ s ≡ p' ∩ q' ∩ r' ∩ s'
paths e f g h = λ i. e i ∩ f i ∩ g i ∩ h i

pub all_absent : IsAbsent union intersection faults_bridge all
all_absent = record {
  series_first = with_all;
  series_last = with_all_last;
  parallel_first = within_all;
  parallel_last = within_all_last;
  at_a = λ b c d e.
      paths (with_all d) refl (ap (λ z. z ∪ e) (with_all c) ∙ with_all e) refl
      ∙ ap (λ z. z ∩ (b ∪ c ∪ d)) (within_all_last (all ∩ (b ∪ e)) ∙ within_all (b ∪ e))
      ∙ ap (λ z. (b ∪ e) ∩ z) (union_assoc b c d)
      ∙ sym (spread b e (c ∪ d));
  at_b = λ a c d e.
      paths refl (with_all e) refl (ap (λ z. z ∪ d) (with_all c) ∙ with_all d)
      ∙ within_all_last ((a ∪ d) ∩ all ∩ (a ∪ c ∪ e))
      ∙ ap (λ z. z ∩ (a ∪ c ∪ e)) (within_all_last (a ∪ d))
      ∙ ap (λ z. (a ∪ d) ∩ z) (union_assoc a c e)
      ∙ sym (spread a d (c ∪ e));
  at_d = λ a b c e.
      paths (with_all_last a) refl refl (with_all_last (b ∪ c))
      ∙ within_all_last (all ∩ (b ∪ e) ∩ (a ∪ c ∪ e))
      ∙ ap (λ z. z ∩ (a ∪ c ∪ e)) (within_all (b ∪ e))
      ∙ intersection_comm (b ∪ e) (a ∪ c ∪ e)
      ∙ sym (spread_last (a ∪ c) b e);
  at_e = λ a b c d.
      paths refl (with_all_last b) (with_all_last (a ∪ c)) refl
      ∙ ap (λ z. z ∩ (b ∪ c ∪ d)) (within_all_last ((a ∪ d) ∩ all) ∙ within_all_last (a ∪ d))
      ∙ sym (spread_last a (b ∪ c) d);
}
