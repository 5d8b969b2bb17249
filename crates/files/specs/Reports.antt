-- The report: a line for each demand, then a line for each term.
use Rattle.std.specs.Prelude.{◌≡◌, ℕ, ◌≤◌, List, [], ◌∷◌, ◌++◌, length, drop, flat_map, Result, Ok, Err, codes, decimal}
use Rattle.kinds.specs.declared.performance.Performance
use Rattle.kinds.specs.declared.weight.Weight
use Rattle.terms.specs.declared.term.Term.{Term}
use Rattle.terms.specs.Sums.{total_of, met_of}
use Rattle.diagram.specs.Refusals.{Asked}
use Rattle.files.specs.declared.words.FilePerformance
use Rattle.files.specs.declared.words.FileWeight
use Rattle.files.specs.declared.fault.Fault.{Fault}
use Rattle.files.specs.declared.fault.Fault.TheVariants.{Room}

-- a number in a report: decimal, without leading zeros
abbrev pub figure : ℕ → List ℕ
figure n = decimal n

-- `need H L met M of T` and the end of the line
abbrev pub need_line : ℕ → ℕ → ℕ → ℕ → List ℕ
need_line high low met all = codes "need " ++ figure high ++ codes " " ++ figure low ++ codes " met " ++ figure met ++ codes " of " ++ figure all ++ 10 ∷ []

-- `term H L W` and the end of the line
abbrev pub term_line : ℕ → ℕ → ℕ → List ℕ
term_line high low weight = codes "term " ++ figure high ++ codes " " ++ figure low ++ codes " " ++ figure weight ++ 10 ∷ []

module _ {P W : Type 0} (kind : Performance.Ghosts P) (weights : Weight.Ghosts W) (file_kind : FilePerformance.Ghosts P) (file_weights : FileWeight.Ghosts W) where
  -- what of a row meets the demand
  abbrev pub demand_line : List (Term P W) → P → List ℕ
  demand_line row demand = need_line (file_kind.high demand) (file_kind.low demand) (file_weights.word (met_of kind weights demand row)) (file_weights.word (total_of weights row))

  abbrev pub state_line : Term P W → List ℕ
  state_line t = term_line (file_kind.high t.performance) (file_kind.low t.performance) (file_weights.word t.weight)

  abbrev pub report_of : List P → List (Term P W) → List ℕ
  report_of demands row = flat_map (demand_line row) demands ++ flat_map state_line row

-- what is refused leaves the output as it was
pub record Unreported (out : List ℕ) (r : Result ℕ Fault) (out' : List ℕ) (why : Fault) : Type 0 where
  pub answer : r ≡ Err why
  pub output : out' ≡ out

-- the report comes first in the output and leaves the rest; or there is no room for it
abbrev pub Put : List ℕ → List ℕ → Result ℕ Fault → List ℕ → Type 0
Put report out r out' =
    Asked (length report ≤ length out) (Unreported out r out' Room)
    ((r ≡ Ok (length report)) × (out' ≡ report ++ drop (length report) out))
