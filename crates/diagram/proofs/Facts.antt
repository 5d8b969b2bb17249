-- Small facts that several proofs use.
use Rattle.std.proofs.Common.{◌≡◌, ◌≢◌, refl, ℕ, ◌+◌, ◌<◌, ◌⊎◌, Bool, true, false, Option, Some, unwrap_or, ap, inl, inr, arith}
use Rattle.std.proofs.lemmas.Bool.{cases_lt}
use Rattle.diagram.specs.declared.node.Form.{Form}
use Rattle.diagram.specs.declared.node.Form.TheVariants.{Part, Joined, Bridge}
use Rattle.diagram.specs.declared.node.Node.{Node}

pub some_same : {a b : ℕ} → Some a ≡ Some b → a ≡ b
some_same {a} e = ap (λ o. unwrap_or o a) e

pub last_or_before : {j n : ℕ} → j < n + 1 → (j < n) ⊎ (j ≡ n)
last_or_before {j} {n} h = elim (cases_lt j n) [ inl l ↦ inl l | inr g ↦ inr (omega (arith, h, g)) ]

abbrev pub user_of : Node → Option ℕ
user_of n = n.user

abbrev pub is_part : Form → Bool
is_part Part = true
is_part (Joined way) = false
is_part Bridge = false

pub part_unless : (f : Form) → ¬ (f ≢ Part) → f ≡ Part
part_unless Part n = refl
part_unless (Joined way) n = absurd (n (λ e. cc))
part_unless Bridge n = absurd (n (λ e. cc))
