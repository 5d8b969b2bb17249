-- The refusals by their numbers, and what a question before a call decides.
use Rattle.std.specs.Prelude.{ℕ, ◌⊎◌}
use Rattle.diagram.specs.declared.refusal.Refusal.{Refusal}
use Rattle.diagram.specs.declared.refusal.Refusal.TheVariants.{ShortStore, NoNumberLeft, WrongStates, WrongChildren, NoNode, InUse, Repeated, NotPart, NotJoined, StaleChild, LongArm, LongResult, Stale, NoTerm}

abbrev pub number_of : Refusal → ℕ
number_of ShortStore = 1
number_of NoNumberLeft = 2
number_of WrongStates = 3
number_of WrongChildren = 4
number_of NoNode = 5
number_of InUse = 6
number_of Repeated = 7
number_of NotPart = 8
number_of NotJoined = 9
number_of StaleChild = 10
number_of LongArm = 11
number_of LongResult = 12
number_of Stale = 13
number_of NoTerm = 14

-- A question before a call: after a yes the rest is so, and a no is told by its refusal. Questions stand one in
-- the rest of another, so the first no is the one that is told.
abbrev pub Asked : Type 0 → Type 0 → Type 0 → Type 0
Asked question refused rest = (question × rest) ⊎ ((¬ question) × refused)
