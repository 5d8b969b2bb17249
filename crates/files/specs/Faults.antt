-- Faults by layer, record and number, and the ways in which these are told.
use Rattle.std.specs.Prelude.{ℕ, ◌+◌, ◌*◌, List, ◌++◌, ℤ, pos, neg_ℤ, Result, Ok, Err, codes, decimal}
use Rattle.diagram.specs.Refusals.{number_of}
use Rattle.files.specs.declared.fault.Fault.{Fault}
use Rattle.files.specs.declared.fault.Fault.TheVariants.{Model, Records, Letter, Body, LeftOver, Value, Refused, Room}
use Rattle.files.specs.declared.limits.TheConstants.{NO_RECORD}

-- 1 file, 2 diagram, 3 report
abbrev pub layer_of : Fault → ℕ
layer_of Model = 1
layer_of Records = 1
layer_of (Letter k) = 1
layer_of (Body k) = 1
layer_of LeftOver = 1
layer_of (Value k) = 1
layer_of (Refused k refusal) = 2
layer_of Room = 3

-- the record at fault, if there is one
abbrev pub record_of : Fault → ℕ
record_of Model = NO_RECORD
record_of Records = NO_RECORD
record_of (Letter k) = k
record_of (Body k) = k
record_of LeftOver = NO_RECORD
record_of (Value k) = k
record_of (Refused k refusal) = k
record_of Room = NO_RECORD

-- a refusal of the diagram keeps its number
abbrev pub fault_number_of : Fault → ℕ
fault_number_of Model = 21
fault_number_of Records = 22
fault_number_of (Letter k) = 23
fault_number_of (Body k) = 24
fault_number_of LeftOver = 25
fault_number_of (Value k) = 26
fault_number_of (Refused k refusal) = number_of refusal
fault_number_of Room = 27

-- layer, record and number in one number
abbrev pub packed : Fault → ℕ
packed f = layer_of f * 65536 + record_of f * 256 + fault_number_of f

-- what C is answered: the report's length, or minus the fault
abbrev pub answer_for_c : Result ℕ Fault → ℤ
answer_for_c (Ok n) = pos n
answer_for_c (Err f) = neg_ℤ (pos (packed f))

-- the line that is printed, without its end
abbrev pub fault_text : Fault → List ℕ
fault_text f = codes "fault " ++ (decimal (layer_of f) ++ (codes " " ++ (decimal (record_of f) ++ (codes " " ++ decimal (fault_number_of f)))))
