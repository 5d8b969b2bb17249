-- Counts of batches are equal where their numbers are, and so the laws of capped numbers hold of them. (Other laws are found by search.)
use Rattle.std.specs.Prelude.{◌≡◌, true, refl}
use Rattle.std.proofs.Common.{ap}
use Rattle.std.proofs.lemmas.Bool.{eqb-true}
use Rattle.kinds.specs.Caps as caps
use Rattle.kinds.specs.Bounded.{bound_path}
use Rattle.kinds.specs.Holding.{NumbersTo}
use Rattle.kinds.specs.WordLaws.{holds}
use Rattle.grades.specs.BatchesWeight.{top16, how_many, no_batches, batches_sum, batches_product, are_none}
use Rattle.grades.specs.declared.batches.Batches.{Batches}

pub batches_same : (a b : Batches) → how_many a ≡ how_many b → a ≡ b
batches_same a b p = λ i. record { count = p i; fits = bound_path p top16 a.fits b.fits i }

pub batches_to_the_top : NumbersTo top16 how_many
batches_to_the_top = record {
  every = λ n h. let b : Batches = record { count = n; fits = h } in (b, holds how_many batches_same n b refl);
  none_else = λ b. b.fits;
}

pub only_none : (a : Batches) → are_none a ≡ true → a ≡ no_batches
only_none a h = batches_same _ _ (eqb-true a.count 0 h)

pub sum_assoc : (a b c : Batches) → batches_sum (batches_sum a b) c ≡ batches_sum a (batches_sum b c)
sum_assoc a b c = batches_same _ _ (caps.sum_assoc top16 a.count b.count c.count)

pub sum_none : (a : Batches) → batches_sum no_batches a ≡ a
sum_none a = batches_same _ _ (caps.sum_zero top16 a.count a.fits)

pub sum_is_none : (a b : Batches) → batches_sum a b ≡ no_batches → (a ≡ no_batches) × (b ≡ no_batches)
sum_is_none a b h =
    let e = caps.sum_none_both top16 a.count b.count a.fits b.fits (ap how_many h) in
    (batches_same _ _ e.0, batches_same _ _ e.1)

pub product_assoc : (a b c : Batches) → batches_product (batches_product a b) c ≡ batches_product a (batches_product b c)
product_assoc a b c = batches_same _ _ (caps.product_assoc top16 a.count b.count c.count)

pub product_sum : (a b c : Batches) → batches_product a (batches_sum b c) ≡ batches_sum (batches_product a b) (batches_product a c)
product_sum a b c = batches_same _ _ (caps.product_sum top16 a.count b.count c.count)

pub product_none : (a : Batches) → batches_product no_batches a ≡ no_batches
product_none a = batches_same _ _ (caps.product_zero top16 a.count)
