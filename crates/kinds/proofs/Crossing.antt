-- A bridge as what the arms but c give, joined with what c adds to.
use Rattle.std.proofs.Common.{◌≡◌, ℕ, ◌+◌, ◌/◌, min, bit_and, bit_or, arith, ap, sym, ◌∙◌}
use Rattle.std.proofs.Math.Arith.{bin_ind}
use Rattle.std.proofs.lemmas.Nat.{or_comm, and_assoc}
use Rattle.std.specs.Int.Bits.{or_zero_l}
use Rattle.kinds.specs.BitLaws.{by_digits, or_half, or_low, and_half, and_low, or_assoc}
use Rattle.kinds.specs.Named.{Flow, Delay, FaultSet}
use Rattle.kinds.specs.Flows.{flow_bridge}
use Rattle.kinds.specs.Delays.{delay_bridge}
use Rattle.kinds.specs.FaultSets.{faults_bridge}
use Rattle.kinds.specs.Capped.{top32, capped}
use Rattle.kinds.specs.Words.{smaller, word_sum, union, intersection}
use Rattle.kinds.specs.WordLaws.{word_same, min_assoc}

capped_crossed : (x y c : ℕ) → capped top32 (min (capped top32 x) (capped top32 y) + c) ≡ min (capped top32 (x + c)) (capped top32 (y + c))
capped_crossed x y c = omega arith

cut_crossed : (p x y c z w : ℕ) → x + c ≡ z → y + c ≡ w → min p (capped top32 (min (capped top32 x) (capped top32 y) + c)) ≡ min (min p (capped top32 z)) (capped top32 w)
cut_crossed p x y c z w e f =
    ap (min p) (capped_crossed x y c ∙ ap (λ n. min (capped top32 n) (capped top32 (y + c))) e ∙ ap (λ n. min (capped top32 z) (capped top32 n)) f)
    ∙ sym (min_assoc p (capped top32 z) (capped top32 w))

pub flow_crossed : (a b c d e : Flow) → smaller (smaller (word_sum a b) (word_sum d e)) (word_sum (smaller (word_sum a e) (word_sum b d)) c) ≡ flow_bridge a b c d e
flow_crossed a b c d e = word_same _ _ (cut_crossed _ (a.bits + e.bits) (b.bits + d.bits) c.bits _ _ (omega arith) (omega arith))

pub delay_crossed : (a b c d e : Delay) → smaller (smaller (word_sum a d) (word_sum b e)) (word_sum (smaller (word_sum a e) (word_sum b d)) c) ≡ delay_bridge a b c d e
delay_crossed a b c d e = word_same _ _ (cut_crossed _ (a.bits + e.bits) (b.bits + d.bits) c.bits _ _ (omega arith) (omega arith))

infixl 60 ◌∩◌
infixl 50 ◌∪◌
abbrev pub ◌∩◌ : ℕ → ℕ → ℕ
a ∩ b = bit_and a b

abbrev pub ◌∪◌ : ℕ → ℕ → ℕ
a ∪ b = bit_or a b

union_swapped : (a b c : ℕ) → a ∪ b ∪ c ≡ a ∪ c ∪ b
union_swapped a b c = or_assoc a b c ∙ ap (λ z. a ∪ z) (or_comm b c) ∙ sym (or_assoc a c b)

pub union_spread : (c a b : ℕ) → c ∪ (a ∩ b) ≡ (c ∪ a) ∩ (c ∪ b)
union_spread =
    bin_ind (λ (n : ℕ). (a b : ℕ) → n ∪ (a ∩ b) ≡ (n ∪ a) ∩ (n ∪ b)) (λ a b. simp or_zero_l)
    (λ n ih a b. by_digits (simp (and_half, or_half) (ih (a / 2) (b / 2))) (simp (and_low, or_low) (omega arith)))

bits_crossed : (a b c d e : ℕ) → (a ∪ d) ∩ (b ∪ e) ∩ ((a ∪ e) ∩ (b ∪ d) ∪ c) ≡ (a ∪ d) ∩ (b ∪ e) ∩ (a ∪ c ∪ e) ∩ (b ∪ c ∪ d)
bits_crossed a b c d e =
    ap (λ z. (a ∪ d) ∩ (b ∪ e) ∩ z)
    (or_comm ((a ∪ e) ∩ (b ∪ d)) c ∙ union_spread c (a ∪ e) (b ∪ d)
    ∙ ap (λ z. z ∩ (c ∪ (b ∪ d))) (or_comm c (a ∪ e) ∙ union_swapped a e c)
    ∙ ap (λ z. (a ∪ c ∪ e) ∩ z) (or_comm c (b ∪ d) ∙ union_swapped b d c))
    ∙ sym (and_assoc (b ∪ c ∪ d) ((a ∪ d) ∩ (b ∪ e)) (a ∪ c ∪ e))

pub faults_crossed : (a b c d e : FaultSet) → intersection (intersection (union a d) (union b e)) (union (intersection (union a e) (union b d)) c) ≡ faults_bridge a b c d e
faults_crossed a b c d e = word_same _ _ (bits_crossed a.bits b.bits c.bits d.bits e.bits)
