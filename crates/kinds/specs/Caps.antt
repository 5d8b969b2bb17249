-- Facts on capping, for any top.
use Rattle.std.specs.Prelude.{◌≡◌, ◌↔◌, ℕ, zero, suc, ◌+◌, ◌*◌, ◌<◌, ◌≤◌, min}
use Rattle.std.proofs.Common.{ap, sym, ◌∙◌, ⊎_elim, mul-add, suc-mul, zero-mul, mul_comm, mul_assoc, arith}
use Rattle.std.proofs.lemmas.Bool.{cases_lt}
use Rattle.kinds.specs.Capped.{capped, capped_sum, capped_product, least_of_four}
use Rattle.kinds.specs.CapLaws.{CappingKeeps}

module _ (top : ℕ) where
  pub at_most : (n : ℕ) → capped top n ≤ top
  at_most n = omega arith

  pub unchanged : (n : ℕ) → n ≤ top → capped top n ≡ n
  unchanged n h = omega arith

  pub below_top : (n : ℕ) → capped top n < top → capped top n ≡ n
  below_top n h = omega arith

  pub at_top : (n : ℕ) → (capped top n ≡ top) ↔ (top ≤ n)
  at_top n = (λ e. omega (arith, e), λ h. omega (arith, h))

  pub respects_nothing : capped top 0 ≡ 0
  respects_nothing = omega arith

  pub respects_sum : (a b : ℕ) → capped top (a + b) ≡ capped_sum top (capped top a) (capped top b)
  respects_sum a b = omega arith

  pub sum_none_both : (a b : ℕ) → a ≤ top → b ≤ top → capped_sum top a b ≡ 0 → (a ≡ 0) × (b ≡ 0)
  sum_none_both a b h k e = (omega arith, omega arith)

  pub min_top : (a : ℕ) → a ≤ top → min top a ≡ a
  min_top a h = omega arith

  pub min_is_top : (a b : ℕ) → a ≤ top → b ≤ top → min a b ≡ top → (a ≡ top) × (b ≡ top)
  min_is_top a b h k e = (omega arith, omega arith)

  pub min_capped : (a b : ℕ) → min (capped top a) (capped top b) ≡ capped top (min a b)
  min_capped a b = omega arith

  pub least_capped : (a b c d : ℕ) → least_of_four (capped top a) (capped top b) (capped top c) (capped top d) ≡ capped top (least_of_four a b c d)
  least_capped a b c d =
      ap (λ z. min (min z (capped top c)) (capped top d)) (min_capped a b)
      ∙ ap (λ z. min z (capped top d)) (min_capped (min a b) c)
      ∙ min_capped (min (min a b) c) d

  pub sum_assoc : (a b c : ℕ) → capped_sum top (capped_sum top a b) c ≡ capped_sum top a (capped_sum top b c)
  sum_assoc a b c = omega arith

  pub sum_comm : (a b : ℕ) → capped_sum top a b ≡ capped_sum top b a
  sum_comm a b = omega arith

  pub sum_zero : (a : ℕ) → a ≤ top → capped_sum top 0 a ≡ a
  sum_zero a h = omega arith

  pub sum_top : (a : ℕ) → capped_sum top top a ≡ top
  sum_top a = omega arith

  pub sum_three : (a b c : ℕ) → capped_sum top (capped_sum top a b) c ≡ capped top (a + b + c)
  sum_three a b c = omega arith

  pub sum_min : (a b c : ℕ) → capped_sum top a (min b c) ≡ min (capped_sum top a b) (capped_sum top a c)
  sum_min a b c = omega arith

  pub product_comm : (a b : ℕ) → capped_product top a b ≡ capped_product top b a
  product_comm a b = ap (capped top) (mul_comm a b)

  -- a factor may be capped first
  pub cap_factor : (a b : ℕ) → capped top (a * capped top b) ≡ capped top (a * b)
  cap_factor zero b = simp zero-mul
  cap_factor (suc a) b =
      let l = suc-mul a (capped top b) in
      let r = suc-mul a b in
      ⊎_elim
      (λ small. let e : capped top b ≡ b = omega arith in ap (λ x. capped top (suc a * x)) e)
      (λ large. omega arith)
      (cases_lt b top)

  -- both factors may
  pub respects_product : (a b : ℕ) → capped top (a * b) ≡ capped_product top (capped top a) (capped top b)
  respects_product a b =
      sym (cap_factor (capped top a) b ∙ ap (capped top) (mul_comm (capped top a) b) ∙ cap_factor b a ∙ ap (capped top) (mul_comm b a))

  pub product_assoc : (a b c : ℕ) → capped_product top (capped_product top a b) c ≡ capped_product top a (capped_product top b c)
  product_assoc a b c =
      product_comm (capped_product top a b) c ∙ cap_factor c (a * b) ∙ ap (capped top) (mul_comm c (a * b) ∙ mul_assoc a b c)
      ∙ sym (cap_factor a (b * c))

  pub product_sum : (a b c : ℕ) → capped_product top a (capped_sum top b c) ≡ capped_sum top (capped_product top a b) (capped_product top a c)
  product_sum a b c = let d = mul-add a b c in cap_factor a (b + c) ∙ omega arith

  pub product_zero : (a : ℕ) → capped_product top 0 a ≡ 0
  product_zero a = simp zero-mul (omega arith)

pub cap_laws : CappingKeeps
cap_laws top = record {
  at_most = at_most top;
  unchanged = unchanged top;
  below_top = below_top top;
  at_top = at_top top;
  respects_nothing = respects_nothing top;
  respects_sum = respects_sum top;
  respects_product = respects_product top;
  sum_assoc = sum_assoc top;
  sum_comm = sum_comm top;
  sum_three = sum_three top;
  sum_zero = sum_zero top;
  sum_none_both = sum_none_both top;
  sum_top = sum_top top;
  product_assoc = product_assoc top;
  product_comm = product_comm top;
  product_sum = product_sum top;
  product_zero = product_zero top;
  min_top = min_top top;
  min_is_top = min_is_top top;
  sum_min = sum_min top;
  least_capped = least_capped top;
}
