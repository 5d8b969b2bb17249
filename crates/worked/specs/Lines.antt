-- The lines that the program prints, as bytes.
use Rattle.std.specs.Prelude.{ℕ, List, [], ◌∷◌, ◌++◌, codes, decimal}
use Rattle.kinds.specs.Named.{Flow, Parts}
use Rattle.kinds.specs.contracts.flow.FlowPerformance.TheImpl as flow_kind
use Rattle.kinds.specs.contracts.parts.PartsWeight.TheImpl as parts_weight
use Rattle.terms.specs.declared.term.Term.{Term}
use Rattle.terms.specs.Sums.{total_of, met_of}

-- flow:parts, after a blank
abbrev pub term_text : Term Flow Parts → List ℕ
term_text t = codes " " ++ (decimal t.performance.bits ++ (codes ":" ++ decimal t.weight.bits))

abbrev pub row_text : List (Term Flow Parts) → List ℕ
row_text [] = []
row_text (t ∷ ts) = term_text t ++ row_text ts

abbrev pub need_text : Flow → Parts → Parts → List ℕ
need_text demand met all = codes "a need of " ++ (decimal demand.bits ++ (codes " is met by " ++ (decimal met.bits ++ (codes " of " ++ (decimal all.bits ++ codes " parts")))))

-- what of a row meets a demand
abbrev pub demand_text : Flow → List (Term Flow Parts) → List ℕ
demand_text demand row = need_text demand (met_of flow_kind.ghosts parts_weight.ghosts demand row) (total_of parts_weight.ghosts row)
