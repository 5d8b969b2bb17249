-- The laws of a kind and of a weight, each as one record, packed from what the traits' bounds give.
use Rattle.std.proofs.Common.{◌≡◌, true, false, Less, Equal}
use Rattle.std.specs.Ordering.{ordering_reverse}
use Rattle.std.specs.declared.clone.Clone
use Rattle.kinds.specs.declared.performance.Performance
use Rattle.kinds.specs.declared.weight.Weight
use Rattle.kinds.specs.contracts.performance.Performance.TheBound as performance
use Rattle.kinds.specs.contracts.weight.Weight.TheBound as weight
use contract.Running
use denote.RattleType
use seplogic.Ra.Ura
use mir.Syntax
use prog.Model
use prog.Routine
use types.Logic.{Logic}

pub record Kind {P : Type 0} (kind : Performance.Ghosts P) : Type 0 where
  pub same_itself : (a : P) → kind.compared a a ≡ Equal
  pub same_only : (a b : P) → kind.compared a b ≡ Equal → a ≡ b
  pub swaps : (a b : P) → kind.compared b a ≡ ordering_reverse (kind.compared a b)
  pub transitive : (a b c : P) → kind.compared a b ≡ Less → kind.compared b c ≡ Less → kind.compared a c ≡ Less
  pub series_assoc : (a b c : P) → kind.series (kind.series a b) c ≡ kind.series a (kind.series b c)
  pub parallel_assoc : (a b c : P) → kind.parallel (kind.parallel a b) c ≡ kind.parallel a (kind.parallel b c)
  pub series_comm : kind.SERIES_ORDER_COUNTS ≡ false → (a b : P) → kind.series a b ≡ kind.series b a
  pub parallel_comm : kind.PARALLEL_ORDER_COUNTS ≡ false → (a b : P) → kind.parallel a b ≡ kind.parallel b a

pub record Weighing {W : Type 0} (weights : Weight.Ghosts W) : Type 0 where
  pub nothing_is : weights.is_nothing weights.nothing ≡ true
  pub only_nothing : (a : W) → weights.is_nothing a ≡ true → a ≡ weights.nothing
  pub sum_assoc : (a b c : W) → weights.sum (weights.sum a b) c ≡ weights.sum a (weights.sum b c)
  pub sum_comm : (a b : W) → weights.sum a b ≡ weights.sum b a
  pub neutral : (a : W) → weights.sum weights.nothing a ≡ a
  pub no_cancelling : (a b : W) → weights.sum a b ≡ weights.nothing → (a ≡ weights.nothing) × (b ≡ weights.nothing)
  pub product_assoc : (a b c : W) → weights.product (weights.product a b) c ≡ weights.product a (weights.product b c)
  pub product_comm : (a b : W) → weights.product a b ≡ weights.product b a
  pub distributes : (a b c : W) → weights.product a (weights.sum b c) ≡ weights.sum (weights.product a b) (weights.product a c)
  pub absorbs : (a : W) → weights.product weights.nothing a ≡ weights.nothing

module _
    {M : Type 1} {𝓤 : Ura.Ura M} {𝓛 : Logic 𝓤} {𝓜 : Model.Model 𝓤 𝓛.H}
    {𝓡 : Running.Running 𝓤 𝓛.H 𝓜} {γ : Routine.Env} {T : RattleType.RattleType} {dict : Syntax.Dict}
    {copied : Clone.Ghosts T.Denot} {copy : Syntax.Dict} where
  pub lawful_kind : {kind : Performance.Ghosts T.Denot} → performance.Met 𝓛 𝓜 𝓡 γ T kind dict copied copy → Kind kind
  lawful_kind met = record {
    same_itself = met.identical_same;
    same_only = met.same_identical;
    swaps = met.swapped;
    transitive = met.less_transitive;
    series_assoc = met.series_associative;
    parallel_assoc = met.parallel_associative;
    series_comm = met.series_commutative;
    parallel_comm = met.parallel_commutative;
  }

  pub lawful_weight : {weights : Weight.Ghosts T.Denot} → weight.Met 𝓛 𝓜 𝓡 γ T weights dict copied copy → Weighing weights
  lawful_weight met = record {
    nothing_is = met.test_accepts_nothing;
    only_nothing = met.test_accepts_only_nothing;
    sum_assoc = met.sum_associative;
    sum_comm = met.sum_commutative;
    neutral = met.sum_neutral;
    no_cancelling = met.sum_none;
    product_assoc = met.product_associative;
    product_comm = met.product_commutative;
    distributes = met.product_distributes;
    absorbs = met.product_nothing;
  }
