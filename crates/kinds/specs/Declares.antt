-- Whether the order of the operands counts, as each kind declares it.
use Rattle.std.specs.Prelude.{◌≡◌, Bool, true, false, ◌||◌}
use Rattle.kinds.specs.declared.performance.Performance
use Rattle.kinds.specs.contracts.delay.DelayPerformance.TheImpl as delay_kind
use Rattle.kinds.specs.contracts.fault_set.FaultSetPerformance.TheImpl as fault_set_kind
use Rattle.kinds.specs.contracts.first_fault.FirstFaultPerformance.TheImpl as first_fault_kind
use Rattle.kinds.specs.contracts.flow.FlowPerformance.TheImpl as flow_kind

-- the kind declares this for series, and that for parallel
abbrev pub Declares : {P : Type 0} → Performance.Ghosts P → Bool → Bool → Type 0
Declares kind in_series in_parallel = (kind.SERIES_ORDER_COUNTS ≡ in_series) × (kind.PARALLEL_ORDER_COUNTS ≡ in_parallel)

-- of the named kinds only first fault says that it counts
pub record NamedDeclare : Type 0 where
  pub flow : Declares flow_kind.ghosts false false
  pub delay : Declares delay_kind.ghosts false false
  pub fault_set : Declares fault_set_kind.ghosts false false
  pub first_fault : Declares first_fault_kind.ghosts true true

-- a kind that is made of two declares that it counts where it counts for either
abbrev pub DeclaresEither : {P A B : Type 0} → Performance.Ghosts P → Performance.Ghosts A → Performance.Ghosts B → Type 0
DeclaresEither kind a b = Declares kind (a.SERIES_ORDER_COUNTS || b.SERIES_ORDER_COUNTS) (a.PARALLEL_ORDER_COUNTS || b.PARALLEL_ORDER_COUNTS)

-- a kind that is made of one declares what that declares
abbrev pub DeclaresAs : {P A : Type 0} → Performance.Ghosts P → Performance.Ghosts A → Type 0
DeclaresAs kind a = Declares kind a.SERIES_ORDER_COUNTS a.PARALLEL_ORDER_COUNTS
