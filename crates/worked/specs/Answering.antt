-- What a row answers, and when a node tells it.
use Rattle.std.specs.Prelude.{◌≡◌, ℕ, List, take, Result, IsOkAnd}
use Rattle.kinds.specs.Named.{Flow, Parts}
use Rattle.kinds.specs.Words.{capped_word}
use Rattle.kinds.specs.contracts.flow.FlowPerformance.TheImpl as flow_kind
use Rattle.kinds.specs.contracts.parts.PartsWeight.TheImpl as parts_weight
use Rattle.terms.specs.declared.term.Term.{Term}
use Rattle.terms.specs.Sums.{total_of, met_of}
use Rattle.diagram.specs.declared.refusal.Refusal.{Refusal}
use Rattle.diagram.specs.declared.table.Table.{Table}
use Rattle.diagram.specs.Calls.{Asks}
use Rattle.diagram.specs.Store.{row_at}
use Rattle.worked.specs.declared.answers.RowAndNeeds.{RowAndNeeds}
use Rattle.worked.specs.declared.answers.CopiedRow.{CopiedRow}
use Rattle.worked.specs.declared.lines.Need.{Need}
use Rattle.worked.specs.Lines.{need_text, demand_text}

abbrev pub need_of : Flow → List (Term Flow Parts) → Need
need_of demand row = record { demand = demand; met = met_of flow_kind.ghosts parts_weight.ghosts demand row; all = total_of parts_weight.ghosts row }

-- this row, and its needs of 3, of 4 and of 5
abbrev pub AnswersOf : List (Term Flow Parts) → RowAndNeeds → Type 0
AnswersOf row a = (take a.row.len a.row.terms ≡ row) × (a.three ≡ need_of (capped_word 3) row) × (a.four ≡ need_of (capped_word 4) row) × (a.five ≡ need_of (capped_word 5) row)

module _ (t : Table) (s : List (Term Flow Parts)) (k : ℕ) where
  -- the row of node k, what of it meets a demand and how much there is, the words for both, and all answers

  abbrev pub HoldsRow : CopiedRow → Type 0
  HoldsRow r = take r.len r.terms ≡ row_at t s k

  abbrev pub IsMet : Flow → Need → Type 0
  IsMet demand n = n.met ≡ met_of flow_kind.ghosts parts_weight.ghosts demand (row_at t s k)

  abbrev pub IsTotal : Need → Type 0
  IsTotal n = n.all ≡ total_of parts_weight.ghosts (row_at t s k)

  abbrev pub HasText : Flow → Need → Type 0
  HasText demand n = need_text n.demand n.met n.all ≡ demand_text demand (row_at t s k)

  abbrev pub AreAnswers : RowAndNeeds → Type 0
  AreAnswers = AnswersOf (row_at t s k)

  -- what node k of a diagram with these records says of its row, after the questions that are put before it
  abbrev OrRefusal : {A : Type 0} → (List (Term Flow Parts) → A → Type 0) → Result A Refusal → Type 0
  OrRefusal says r = Asks flow_kind.ghosts parts_weight.ghosts t s k r (IsOkAnd r (says (row_at t s k)))

  abbrev pub RowOrRefusal : Result CopiedRow Refusal → Type 0
  RowOrRefusal = OrRefusal (λ row r. take r.len r.terms ≡ row)

  abbrev pub NeedOrRefusal : Flow → Result Need Refusal → Type 0
  NeedOrRefusal demand = OrRefusal (λ row n. n ≡ need_of demand row)

  abbrev pub AnswersOrRefusal : Result RowAndNeeds Refusal → Type 0
  AnswersOrRefusal = OrRefusal AnswersOf
