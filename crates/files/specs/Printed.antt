-- What a model file comes to, as text: its report, or the line of its fault; and what the program `analyse` writes of it.
use Rattle.std.specs.Prelude.{ℕ, List, [], ◌∷◌, ◌++◌, length, take, Option, Result, Ok, Err, ◌≡◌}
use Rattle.std.specs.Io.KnownBytes.{Appends}
use Rattle.files.specs.declared.fault.Fault.{Fault}
use Rattle.files.specs.Faults.{fault_text}
use Rattle.files.specs.ByModel.{Analysed}
use Rattle.files.specs.declared.limits.TheConstants.{LONGEST_REPORT}

-- the report, which is first in the output; or the fault and the end of the line
abbrev pub printed : Result ℕ Fault → List ℕ → List ℕ
printed (Ok n) out = take n out
printed (Err f) out = fault_text f ++ 10 ∷ []

-- what was written grew by the answer to the model
abbrev pub PrintsAnswer : List ℕ → Option (List ℕ) → Option (List ℕ) → Type 0
PrintsAnswer model old new =
    (out : List ℕ) × (r : Result ℕ Fault) × (out' : List ℕ) × (length out ≡ LONGEST_REPORT) × Analysed model out r out' × Appends old new (printed r out')
