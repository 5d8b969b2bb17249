-- Needs and states, from what their calls ensure.
use Rattle.std.proofs.Common.{◌≡◌, ℕ, List, ◌∙◌, ap}
use Rattle.kinds.specs.Named.{Flow, Parts}
use Rattle.kinds.specs.Holding.{Holds}
use Rattle.kinds.specs.Words.{number}
use Rattle.kinds.specs.contracts.flow.FlowPerformance.TheImpl as flow_kind
use Rattle.kinds.specs.contracts.parts.PartsWeight.TheImpl as parts_weight
use Rattle.terms.specs.declared.term.Term.{Term}
use Rattle.terms.specs.Sums.{total_of, met_of}
use Rattle.worked.specs.declared.lines.Need.{Need}
use Rattle.worked.specs.Answering.{need_of}
use Rattle.worked.specs.Examples.{◌at◌, flow, parts}

pub need_is : (n : Need) (d e : Flow) (row : List (Term Flow Parts)) → d ≡ e → n.demand ≡ d → n.met ≡ met_of flow_kind.ghosts parts_weight.ghosts d row → n.all ≡ total_of parts_weight.ghosts row → n ≡ need_of e row
need_is n d e row same demand met all = (λ i. record { demand = demand i; met = met i; all = all i }) ∙ ap (λ z. need_of z row) same

pub state_is : (t : Term Flow Parts) (rate count : ℕ) → Holds number rate t.performance → Holds number count t.weight → number (flow rate) ≡ rate → number (parts count) ≡ count → t ≡ rate at count
state_is t rate count p w here there = λ i. record { performance = p.only (flow rate) here i; weight = w.only (parts count) there i }
