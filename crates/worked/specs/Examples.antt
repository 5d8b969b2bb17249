-- Values of kinds, weights, rows, counts, plants and model files, worked by hand.
use Rattle.std.specs.Prelude.{◌≡◌, ◌↔◌, ℕ, zero, suc, ◌+◌, ◌<◌, ◌≤◌, List, [], ◌∷◌, ◌++◌, length, take, drop, map, Option, Result, Ok, Err, ℤ, pos, neg_ℤ, codes}
use Rattle.std.specs.Int.{w32, w64, to_be_bytes}
use Rattle.std.specs.Io.KnownBytes.{Appends}
use Prim.Native.String.{String}
use Rattle.kinds.specs.Capped.{top32}
use Rattle.kinds.specs.Named.{Flow, Delay, FaultSet, FirstFault, Parts, Scenarios}
use Rattle.kinds.specs.Words.{capped_word, number as count_of}
use Rattle.kinds.specs.Counting.{whole_numbers}
use Rattle.kinds.specs.Outs.{out_bridge}
use Rattle.kinds.specs.declared.values.OrOut.{OrOut}
use Rattle.kinds.specs.declared.values.OrOut.TheVariants.{Out, Working}
use Rattle.kinds.specs.contracts.flow.FlowPerformance.TheImpl as flow_kind
use Rattle.kinds.specs.contracts.delay.DelayPerformance.TheImpl as delay_kind
use Rattle.kinds.specs.contracts.fault_set.FaultSetPerformance.TheImpl as fault_set_kind
use Rattle.kinds.specs.contracts.first_fault.FirstFaultPerformance.TheImpl as first_kind
use Rattle.kinds.specs.contracts.parts.PartsWeight.TheImpl as parts_weight
use Rattle.kinds.specs.contracts.scenarios.ScenariosWeight.TheImpl as scenarios_weight
use Rattle.terms.specs.declared.term.Term.{Term}
use Rattle.terms.specs.Rows.{RowOf}
use Rattle.terms.specs.Combinations.{combinations}
use Rattle.terms.specs.Sums.{total_of, met_of}
use Rattle.terms.specs.declared.term.Way.TheVariants.{Series, Parallel}
use Rattle.terms.specs.Drawings.{Drawing, part, joined, bridge, one, more}
use Rattle.terms.specs.Enumeration.{but, performance_of, enumeration}
use Rattle.terms.specs.Readings.{ReadSame}
use Rattle.terms.specs.Counted.{true_combinations}
use Rattle.diagram.specs.declared.refusal.Refusal.TheVariants.{LongResult}
use Rattle.diagram.specs.Refusals.{number_of}
use Rattle.diagram.specs.Histories.{Making, added, joined_from, collecting, number, Reply}
use Rattle.diagram.specs.RightAnswers.{RightAnswer, RowOfNode}
use Rattle.files.specs.declared.limits.TheConstants.{LOOKED_AT}
use Rattle.files.specs.declared.fault.Fault.{Fault}
use Rattle.files.specs.declared.fault.Fault.TheVariants.{Model, Room}
use Rattle.diagram.specs.Makings.{drawn}
use Rattle.files.specs.Faults.{fault_text}
use Rattle.files.specs.ByModel.{Analysed, AnsweredForC}
use Rattle.files.specs.Printed.{PrintsAnswer}
use Rattle.files.specs.Reports.{Unreported, Put}
use Rattle.worked.specs.Plants.{plant_drawn, plant_redrawn}

-- the value of a number; no number below is past the top
abbrev pub flow : ℕ → Flow
flow = capped_word

abbrev delay : ℕ → Delay
delay = capped_word

abbrev faults : ℕ → FaultSet
faults = capped_word

abbrev fault : ℕ → FirstFault
fault = capped_word

abbrev pub parts : ℕ → Parts
parts = capped_word

abbrev pub scenarios : ℕ → Scenarios
scenarios = capped_word

abbrev service : ℕ → OrOut Flow
service n = Working (flow n)

-- states of flow and parts
infix 90 ◌at◌
abbrev pub ◌at◌ : ℕ → ℕ → Term Flow Parts
rate at count = record { performance = flow rate; weight = parts count }

-- the list has the row
abbrev pub HasRow : List (Term Flow Parts) → List (Term Flow Parts) → Type 0
HasRow = RowOf flow_kind.ghosts parts_weight.ghosts

abbrev pub pump_a : List (Term Flow Parts)
pump_a = 0 at 1 ∷ 3 at 9 ∷ []

abbrev pub pump_b : List (Term Flow Parts)
pump_b = 0 at 2 ∷ 2 at 8 ∷ []

abbrev pub pipe : List (Term Flow Parts)
pipe = 4 at 7 ∷ 0 at 3 ∷ []

abbrev pumps : List (Term Flow Parts)
pumps = 0 at 2 ∷ 2 at 8 ∷ 3 at 18 ∷ 5 at 72 ∷ []

abbrev pub plant : List (Term Flow Parts)
plant = 0 at 314 ∷ 2 at 56 ∷ 3 at 126 ∷ 4 at 504 ∷ []

-- parts 0 and 1 are the pumps, part 2 is the pipe
abbrev pub states : ℕ → List (Term Flow Parts)
states = but 0 pump_a (but 1 pump_b (λ _. pipe))

-- pump A at both places
abbrev twice : Drawing
twice = joined Parallel (more (one (part 0)) (part 0))

abbrev combinations_of : Drawing → List (Term Flow Parts)
combinations_of = enumeration flow_kind.ghosts parts_weight.ghosts states

-- a state that is sure
abbrev sure : {P : Type 0} → P → Term P Parts
sure p = record { performance = p; weight = parts 1 }

-- a valve that lets a flow of 1 through in so many parts, and nothing in so many
abbrev pub valve : ℕ → ℕ → List (Term Flow Parts)
valve opened closed = 1 at opened ∷ 0 at closed ∷ []

abbrev pub five_in_series : Drawing
five_in_series = joined Series (more (more (more (more (one (part 0)) (part 1)) (part 2)) (part 3)) (part 4))

-- of all the combinations of five such valves in series, so much meets a need of 1, of so much in all
abbrev FiveValves : ℕ → ℕ → ℕ → ℕ → Type 0
FiveValves opened closed met all =
    let every = enumeration flow_kind.ghosts parts_weight.ghosts (λ _. valve opened closed) five_in_series in
    (met_of flow_kind.ghosts parts_weight.ghosts (flow 1) every ≡ parts met) × (total_of parts_weight.ghosts every ≡ parts all)

-- the same in whole numbers that never stop
abbrev FiveValvesTruly : ℕ → ℕ → ℕ → ℕ → Type 0
FiveValvesTruly opened closed met all =
    let every = true_combinations flow_kind.ghosts count_of (λ _. valve opened closed) five_in_series in
    (met_of flow_kind.ghosts whole_numbers (flow 1) every ≡ met) × (total_of whole_numbers every ≡ all)

-- the first number, and by steps those after it, so many in all
abbrev pub by_steps : ℕ → ℕ → ℕ → List ℕ
by_steps first step zero = []
by_steps first step (suc n) = first ∷ by_steps (first + step) step n

-- a state of one part for each of these flows
abbrev pub one_each : List ℕ → List (Term Flow Parts)
one_each = map (λ rate. rate at 1)

-- the flows 0 to 7; 0, 8, .. 56; and 0, 8, .. 64
abbrev pub ones : List (Term Flow Parts)
ones = one_each (by_steps 0 1 8)

abbrev pub eights : List (Term Flow Parts)
eights = one_each (by_steps 0 8 8)

abbrev pub nine_eights : List (Term Flow Parts)
nine_eights = one_each (by_steps 0 8 9)

-- parts with these states, added, and then joined in parallel; the newest node comes first
abbrev pub two_joined : List (Term Flow Parts) → List (Term Flow Parts) → List (Making Flow Parts)
two_joined a b = joined_from Parallel (0 ∷ 1 ∷ []) ∷ added b ∷ added a ∷ []

abbrev pub three_joined : List (Term Flow Parts) → List (Term Flow Parts) → List (Term Flow Parts) → List (Making Flow Parts)
three_joined a b c = joined_from Parallel (0 ∷ 1 ∷ 2 ∷ []) ∷ added c ∷ added b ∷ added a ∷ []

-- after these nodes are made, r is the right answer to the collecting of node k
abbrev pub Collecting : List (Making Flow Parts) → ℕ → Reply Flow Parts → Type 0
Collecting nodes k r = RightAnswer flow_kind.ghosts parts_weight.ghosts (drawn nodes) r (collecting k)

-- after these nodes are made, this is the row of node k
abbrev pub NodeRow : List (Making Flow Parts) → ℕ → List (Term Flow Parts) → Type 0
NodeRow nodes k row = RowOfNode flow_kind.ghosts parts_weight.ghosts (drawn nodes) k row

-- a flow as a model file writes it, and a state
abbrev rate_bytes : ℕ → List ℕ
rate_bytes rate = to_be_bytes w32 0 ++ to_be_bytes w32 rate

abbrev state_bytes : ℕ → ℕ → List ℕ
state_bytes rate count = rate_bytes rate ++ to_be_bytes w64 count

-- the file `examples/plant.model`: model 1, and six records
abbrev pub plant_file : List ℕ
plant_file =
    1 ∷ 6
    ∷ codes "P" ++ 2 ∷ state_bytes 0 1 ++ state_bytes 3 9
    ++ codes "P" ++ 2 ∷ state_bytes 0 2 ++ state_bytes 2 8
    ++ codes "L" ++ 2 ∷ 0 ∷ 1
    ∷ codes "P" ++ 2 ∷ state_bytes 4 7 ++ state_bytes 0 3
    ++ codes "S" ++ 2 ∷ 2 ∷ 3
    ∷ codes "Q" ++ 2 ∷ rate_bytes 3 ++ rate_bytes 5

abbrev line : String → List ℕ
line text = codes text ++ 10 ∷ []

-- the file `examples/plant.report`
abbrev pub plant_report : List ℕ
plant_report =
    line "need 0 3 met 630 of 1000"
    ++ line "need 0 5 met 0 of 1000"
    ++ line "term 0 0 314"
    ++ line "term 0 2 56"
    ++ line "term 0 3 126"
    ++ line "term 0 4 504"

-- the file of the one byte 9
abbrev pub unlisted_file : List ℕ
unlisted_file = 9 ∷ []

-- each of these is what an operation of the kind, or of the weight, answers
pub record Examples : Type 0 where
  pub flows_in_series : flow_kind.ghosts.series (flow 3) (flow 5) ≡ flow 3
  pub flows_in_parallel : flow_kind.ghosts.parallel (flow 3) (flow 5) ≡ flow 8
  pub flow_stops_at_the_top : flow_kind.ghosts.parallel (flow top32) (flow 1) ≡ flow top32
  pub flow_over_a_bridge : flow_kind.ghosts.bridge (flow 1) (flow 4) (flow 10) (flow 2) (flow 9) ≡ flow 5
  pub delay_over_a_bridge : delay_kind.ghosts.bridge (delay 1) (delay 4) (delay 10) (delay 2) (delay 9) ≡ delay 3
  pub faults_over_a_bridge : fault_set_kind.ghosts.bridge (faults 1) (faults 2) (faults 0) (faults 4) (faults 1) ≡ faults 0
  pub healthy_then_faulty : first_kind.ghosts.series (fault 0) (fault 7) ≡ fault 7
  pub both_faulty : first_kind.ghosts.parallel (fault 4) (fault 7) ≡ fault 4
  pub one_healthy : first_kind.ghosts.parallel (fault 4) (fault 0) ≡ fault 0
  pub an_arm_out :
      out_bridge flow_kind.ghosts.series flow_kind.ghosts.parallel flow_kind.ghosts.bridge Out (service 4) (service 3) (service 9) (service 2) ≡ service 4
  pub likes_are_added : HasRow (3 at 4 ∷ 0 at 1 ∷ 3 at 5 ∷ []) (0 at 1 ∷ 3 at 9 ∷ [])
  pub nothing_is_left_out : HasRow (3 at 0 ∷ 0 at 2 ∷ []) (0 at 2 ∷ [])
  pub parts_stop_at_the_top : parts_weight.ghosts.product (parts 2147483648) (parts 2) ≡ parts top32
  pub scenarios_apart : scenarios_weight.ghosts.product (scenarios 3) (scenarios 12) ≡ scenarios_weight.ghosts.nothing
  pub no_term_of_scenarios_apart :
      RowOf flow_kind.ghosts scenarios_weight.ghosts
      (combinations scenarios_weight.ghosts flow_kind.ghosts.series (record { performance = flow 1; weight = scenarios 3 } ∷ []) (record { performance = flow 1; weight = scenarios 12 } ∷ []))
      []
  pub pumps_in_parallel : HasRow (combinations parts_weight.ghosts flow_kind.ghosts.parallel pump_a pump_b) pumps
  pub plant_in_series : HasRow (combinations parts_weight.ghosts flow_kind.ghosts.series pumps pipe) plant
  pub need_of_three : met_of flow_kind.ghosts parts_weight.ghosts (flow 3) plant ≡ parts 630
  pub need_of_five : met_of flow_kind.ghosts parts_weight.ghosts (flow 5) plant ≡ parts 0
  pub everything : total_of parts_weight.ghosts plant ≡ parts 1000

-- what follows for the plant drawn two ways, and for drawings of other kinds
pub record DrawnExamples : Type 0 where
  pub plant_by_enumeration : HasRow (combinations_of plant_drawn) plant
  pub redrawn_by_enumeration : HasRow (combinations_of plant_redrawn) plant
  pub redrawn_reads_the_same : ReadSame flow_kind.ghosts parts_weight.ghosts states plant_drawn states plant_redrawn
  pub one_pump_at_two_places : HasRow (combinations_of twice) (0 at 1 ∷ 6 at 9 ∷ [])
  pub a_combination_of_a_bridge :
      performance_of delay_kind.ghosts (bridge (part 0) (part 1) (part 2) (part 3) (part 4))
      (but 0 (sure (delay 1)) (but 1 (sure (delay 4)) (but 2 (sure (delay 10)) (but 3 (sure (delay 2)) λ _. sure (delay 9)))))
      ≡ delay 3
  pub a_combination_from_the_left :
      performance_of first_kind.ghosts (joined Series (more (one (part 0)) (part 1))) (but 0 (sure (fault 4)) λ _. sure (fault 7)) ≡ fault 4

-- five valves in series, where the engine's weights stop at the top, and where they do not
pub record CountedExamples : Type 0 where
  pub percents_stop_at_the_top : FiveValves 90 10 top32 top32
  pub true_percents : FiveValvesTruly 90 10 5904900000 10000000000
  pub only_the_total_stops : FiveValves 40 60 102400000 top32
  pub its_true_counts : FiveValvesTruly 40 60 102400000 10000000000
  pub tenths_do_not_stop : FiveValves 9 1 59049 100000
  pub true_tenths : FiveValvesTruly 9 1 59049 100000

-- rows of 64 terms, and more
pub record LongExamples : Type 0 where
  pub sixty_four_sums : NodeRow (two_joined ones eights) 2 (one_each (by_steps 0 1 64))
  pub sixty_four_terms : (r : Reply Flow Parts) → Collecting (two_joined ones eights) 2 r ↔ (r ≡ Ok (number 64))
  pub seventy_two_sums : NodeRow (two_joined ones nine_eights) 2 (one_each (by_steps 0 1 72))
  pub seventy_two_terms : (r : Reply Flow Parts) → Collecting (two_joined ones nine_eights) 2 r ↔ (r ≡ Err LongResult)
  pub long_result : number_of LongResult ≡ 12
  -- with a third part that is surely at the top, all is at the top, but the result on the way is too long
  pub at_the_top_in_the_end : NodeRow (three_joined ones nine_eights (one_each (top32 ∷ []))) 3 (top32 at 72 ∷ [])
  pub too_long_on_the_way : (r : Reply Flow Parts) → Collecting (three_joined ones nine_eights (one_each (top32 ∷ []))) 3 r ↔ (r ≡ Err LongResult)

-- a model file and its report, and one that names no model
pub record FileExamples : Type 0 where
  pub file_length : length plant_file ≡ 130
  pub report_length : length plant_report ≡ 99
  pub plant_analysed : (out : List ℕ) (r : Result ℕ Fault) (out' : List ℕ) → Analysed plant_file out r out' ↔ Put plant_report out r out'
  pub plant_in_a_long_output :
      (out : List ℕ) (r : Result ℕ Fault) (out' : List ℕ) → 99 ≤ length out →
      Analysed plant_file out r out' ↔ ((r ≡ Ok 99) × (out' ≡ plant_report ++ drop 99 out))
  pub plant_in_a_short_output :
      (out : List ℕ) (r : Result ℕ Fault) (out' : List ℕ) → length out < 99 → Analysed plant_file out r out' ↔ ((r ≡ Err Room) × (out' ≡ out))
  pub plant_printed : (old new : Option (List ℕ)) → PrintsAnswer (take LOOKED_AT plant_file) old new ↔ Appends old new plant_report
  pub unlisted : (out : List ℕ) (r : Result ℕ Fault) (out' : List ℕ) → Analysed unlisted_file out r out' ↔ Unreported out r out' Model
  pub unlisted_text : fault_text Model ≡ codes "fault 1 255 21"
  pub unlisted_printed : (old new : Option (List ℕ)) → PrintsAnswer (take LOOKED_AT unlisted_file) old new ↔ Appends old new (line "fault 1 255 21")
  pub unlisted_for_c :
      (out : List ℕ) (answer : ℤ) (out' : List ℕ) → AnsweredForC unlisted_file out answer out' ↔ ((answer ≡ neg_ℤ (pos 130837)) × (out' ≡ out))
