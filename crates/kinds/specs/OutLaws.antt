-- The laws of a kind carry over to the kind with out.
use Rattle.std.specs.Prelude.{◌≡◌, refl}
use Rattle.std.proofs.Common.{ap}
use Rattle.kinds.specs.Outs.{out_series, out_parallel}
use Rattle.kinds.specs.declared.values.OrOut.{OrOut}
use Rattle.kinds.specs.declared.values.OrOut.TheVariants.{Out, Working}

module _ {K : Type 0} (f : K → K → K) where
  module _ (law : (a b c : K) → f (f a b) c ≡ f a (f b c)) where
    pub series_assoc : (a b c : OrOut K) → out_series f (out_series f a b) c ≡ out_series f a (out_series f b c)
    series_assoc Out b c = refl
    series_assoc (Working a) Out c = refl
    series_assoc (Working a) (Working b) Out = refl
    series_assoc (Working a) (Working b) (Working c) = ap Working (law a b c)

    pub parallel_assoc : (a b c : OrOut K) → out_parallel f (out_parallel f a b) c ≡ out_parallel f a (out_parallel f b c)
    parallel_assoc Out b c = refl
    parallel_assoc (Working a) Out c = refl
    parallel_assoc (Working a) (Working b) Out = refl
    parallel_assoc (Working a) (Working b) (Working c) = ap Working (law a b c)

  module _ (law : (a b : K) → f a b ≡ f b a) where
    pub series_comm : (a b : OrOut K) → out_series f a b ≡ out_series f b a
    series_comm Out Out = refl
    series_comm Out (Working b) = refl
    series_comm (Working a) Out = refl
    series_comm (Working a) (Working b) = ap Working (law a b)

    pub parallel_comm : (a b : OrOut K) → out_parallel f a b ≡ out_parallel f b a
    parallel_comm Out Out = refl
    parallel_comm Out (Working b) = refl
    parallel_comm (Working a) Out = refl
    parallel_comm (Working a) (Working b) = ap Working (law a b)
