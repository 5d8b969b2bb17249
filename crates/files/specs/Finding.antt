-- Values found by what holds of them.
use Rattle.std.specs.Prelude.{Option, Some, None}

-- a value of which this holds, or none if it holds of none
abbrev pub Found : {V : Type 0} → (V → Type 0) → Option V → Type 0
Found Holds (Some v) = Holds v
Found {V} Holds None = (v : V) → ¬ Holds v
