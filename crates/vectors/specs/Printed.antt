-- What is printed of a model file, and whether that is a report.
use Rattle.std.specs.Prelude.{◌≡◌, ℕ, Bool, true, false, List, length, Result, Ok, Err}
use Rattle.files.specs.declared.fault.Fault.{Fault}
use Rattle.files.specs.ByModel.{Analysed}
use Rattle.files.specs.declared.limits.TheConstants.{LONGEST_REPORT}
use Rattle.files.specs.Printed.{printed}

-- the text of the answer, and whether it is a report or the line of a fault
abbrev pub Printed : Result ℕ Fault → List ℕ → Bool → List ℕ → Type 0
Printed (Ok n) out reported text = (reported ≡ true) × (text ≡ printed (Ok n) out)
Printed (Err f) out reported text = (reported ≡ false) × (text ≡ printed (Err f) out)

-- so a model file is analysed, in an output that has room for every report
abbrev pub Prints : List ℕ → Bool → List ℕ → Type 0
Prints model reported text =
    (out : List ℕ) × (r : Result ℕ Fault) × (out' : List ℕ) × (length out ≡ LONGEST_REPORT) × Analysed model out r out' × Printed r out' reported text
