-- What the record of one node tells.
use Rattle.std.specs.Prelude.{◌≡◌, ℕ, ◌≤◌, None}
use Rattle.diagram.specs.declared.limits.TheConstants.{FEWEST_CHILDREN, CHILDREN, ARMS, TERMS}
use Rattle.diagram.specs.declared.node.Form.{Form}
use Rattle.diagram.specs.declared.node.Form.TheVariants.{Part, Joined, Bridge}
use Rattle.diagram.specs.declared.node.Status.{Status}
use Rattle.diagram.specs.declared.node.Status.TheVariants.{Stale, UpToDate}
use Rattle.diagram.specs.declared.node.Event.{Event}
use Rattle.diagram.specs.declared.node.Event.TheVariants.{Restated, Collected}
use Rattle.diagram.specs.declared.node.Node.{Node}

-- a number of children that may be joined in series or in parallel
abbrev pub EnoughChildren : ℕ → Type 0
EnoughChildren n = (FEWEST_CHILDREN ≤ n) × (n ≤ CHILDREN)

-- how many children a form takes
abbrev pub Takes : Form → ℕ → Type 0
Takes Part n = n ≡ 0
Takes (Joined way) n = EnoughChildren n
Takes Bridge n = n ≡ ARMS

-- a number of states that a part may have
abbrev pub EnoughStates : ℕ → Type 0
EnoughStates n = (1 ≤ n) × (n ≤ TERMS)

-- a part as it is added: up to date and without a user
abbrev pub part_of : ℕ → Node
part_of n = record { form = Part; status = UpToDate; user = None; size = n }

-- a joined node as it is made: stale, without a user and without a row
abbrev pub joined_by : Form → Node
joined_by f = record { form = f; status = Stale; user = None; size = 0 }

-- where an event moves a joined node
abbrev pub status_after : Event → Status
status_after Restated = Stale
status_after Collected = UpToDate
