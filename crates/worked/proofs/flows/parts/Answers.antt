use Rattle.std.proofs.Common.{refl, [], ◌∷◌}
use Rattle.worked.proofs.Needs.{state_is}
use Rattle.worked.proofs.flows.parts.Goals as goal

pub returns : goal.returns
returns c =
    let a = state_is c.state.result 0 1 c.state.ensures.performance c.state.ensures.weight refl refl in
    let b = state_is c.state-2.result 3 9 c.state-2.ensures.performance c.state-2.ensures.weight refl refl in
    let d = state_is c.state-3.result 0 2 c.state-3.ensures.performance c.state-3.ensures.weight refl refl in
    let e = state_is c.state-4.result 2 8 c.state-4.ensures.performance c.state-4.ensures.weight refl refl in
    let f = state_is c.state-5.result 4 7 c.state-5.ensures.performance c.state-5.ensures.weight refl refl in
    let h = state_is c.state-6.result 0 3 c.state-6.ensures.performance c.state-6.ensures.weight refl refl in
    λ i. record { pump_a = a i ∷ b i ∷ []; pump_b = d i ∷ e i ∷ []; pipe = f i ∷ h i ∷ [] }
