-- Bits as members of a set.
use Rattle.std.specs.Prelude.{◌≡◌, ℕ, ◌/◌, ◌%◌, ◌^◌, ◌⊎◌, Decides, bit_and, bit_or}
use Rattle.kinds.specs.FaultSets.{faults_meets}
use Rattle.kinds.specs.Named.{FaultSet}

-- bit i of v is set
abbrev pub Member : ℕ → ℕ → Type 0
Member v i = v / 2 ^ i % 2 ≡ 1

abbrev pub Within : ℕ → ℕ → Type 0
Within v w = (i : ℕ) → Member v i → Member w i

-- a union has the members of either
abbrev pub UnionHas : Type 0
UnionHas = (v w i : ℕ) → (Member (bit_or v w) i → Member v i ⊎ Member w i) × (Member v i ⊎ Member w i → Member (bit_or v w) i)

-- an intersection has the members of both
abbrev pub IntersectionHas : Type 0
IntersectionHas = (v w i : ℕ) → (Member (bit_and v w) i → Member v i × Member w i) × (Member v i × Member w i → Member (bit_and v w) i)

abbrev pub MeetsIsWithin : Type 0
MeetsIsWithin = (v w : FaultSet) → Decides (faults_meets v w) (Within v.bits w.bits)
