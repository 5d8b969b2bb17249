-- The model file of the plant, read and analysed.
use Rattle.std.proofs.Common.{◌≡◌, ◌≢◌, ◌↔◌, ℕ, ◌<◌, ◌≤◌, List, [], ◌∷◌, length, drop, All, Some, Result, refl, sym, subst, inl, inr, arith}
use borrow.Author.Count.{below_none, below_more}
use Rattle.std.specs.Fmt.{digits}
use Rattle.kinds.specs.Named.{Flow, Parts}
use Rattle.kinds.specs.contracts.flow.FlowPerformance.TheImpl as flow_kind
use Rattle.kinds.specs.contracts.parts.PartsWeight.TheImpl as parts_weight
use Rattle.kinds.specs.contracts.values.Rate.{the_row as rate}
use Rattle.kinds.specs.contracts.values.Count.{the_row as count}
use Rattle.kinds.specs.WordLaws.{word_same}
use Rattle.kinds.proofs.FlowLaws.{flow_laws}
use Rattle.kinds.proofs.PartsLaws.{parts_laws}
use Rattle.terms.specs.declared.term.Way.TheVariants.{Series, Parallel}
use Rattle.terms.specs.Stepwise.{running_drawings}
use Rattle.terms.specs.Enumeration.{enumeration}
use Rattle.diagram.specs.Histories.{Making, added, joined_from, bridged_from, History, made, making_of, drawing_of, states_of, Unused}
use Rattle.files.specs.contracts.named_words.WordFilePerformance.TheImpl.{ghosts as one_word}
use Rattle.files.specs.contracts.named_words.WordFileWeight.TheImpl.{ghosts as weight_word}
use Rattle.files.specs.WordLaws.{one_word_fits, one_word_tells, word_fits}
use Rattle.files.specs.declared.fault.Fault.{Fault}
use Rattle.files.specs.declared.limits.TheConstants.{LONGEST_REPORT}
use Rattle.files.specs.Contents.{Contents}
use Rattle.diagram.specs.declared.limits.TheConstants.{TERMS}
use Rattle.diagram.specs.InTurn.{Short}
use Rattle.diagram.specs.Makings.{drawn, TakesNext}
use Rattle.files.specs.Reading.{ValidContents}
use Rattle.files.specs.Analyses.{AnalysedAs}
use Rattle.files.specs.ByModel.{Analysed}
use Rattle.files.specs.Reports.{report_of, Put}
use Rattle.files.proofs.Bytes.{FileKind, FileWeighing}
use Rattle.files.proofs.KnownContents.{known_report}
use Rattle.worked.specs.Examples.{flow, pump_a, pump_b, pipe, plant, HasRow, plant_file, plant_report}
use Rattle.diagram.proofs.RunGoesOn.{yes, both_of, apart, neither, no_one, unused_on}
use Rattle.worked.proofs.Collecting.{FewEach, few_combinations}
use Rattle.worked.proofs.Computed.{row_by_computing}

words : FileKind (one_word rate)
words = record { fit = one_word_fits; tell = one_word_tells }

weighing : FileWeighing (weight_word count)
weighing = record { fits = word_fits; tells = word_same }

-- the nodes of the file, the newest first

abbrev Nodes : Type 0
Nodes = List (Making Flow Parts)

abbrev two_nodes : Nodes
two_nodes = added pump_b ∷ added pump_a ∷ []

abbrev pumps_joined : Nodes
pumps_joined = joined_from Parallel (0 ∷ 1 ∷ []) ∷ two_nodes

abbrev four_nodes : Nodes
four_nodes = added pipe ∷ pumps_joined

abbrev nodes : Nodes
nodes = joined_from Series (2 ∷ 3 ∷ []) ∷ four_nodes

pumps_unused : (c : ℕ) → Unused (drawn two_nodes) c
pumps_unused c = unused_on (drawn (added pump_a ∷ [])) c 1 (added pump_b) (unused_on [] c 0 (added pump_a) (λ k. no_one c) (no_one c)) (no_one c)

unused : (c : ℕ) → 0 ≢ c → 1 ≢ c → Unused (drawn four_nodes) c
unused c x y = unused_on (drawn pumps_joined) c 3 (added pipe) (unused_on (drawn two_nodes) c 2 (joined_from Parallel (0 ∷ 1 ∷ [])) (pumps_unused c) (neither x y)) (no_one c)

-- each is taken after those before it

abbrev Next : Nodes → Making Flow Parts → Type 0
Next = TakesNext flow_kind.ghosts parts_weight.ghosts

takes_pump_a : Next [] (added pump_a)
takes_pump_a = yes (omega arith) (yes (omega arith, omega arith) refl)

takes_pump_b : Next (added pump_a ∷ []) (added pump_b)
takes_pump_b = yes (omega arith) (yes (omega arith, omega arith) refl)

takes_pumps : Next two_nodes (joined_from Parallel (0 ∷ 1 ∷ []))
takes_pumps =
    let named : All (λ c. c < 2) (0 ∷ 1 ∷ []) = both_of (λ c. c < 2) (omega arith) (omega arith) in
    let free = both_of (Unused (drawn two_nodes)) (pumps_unused 0) (pumps_unused 1) in
    yes (omega arith) (yes (omega arith, omega arith) (yes named (yes free (yes (apart (λ e. omega (arith, e))) refl))))

takes_pipe : Next pumps_joined (added pipe)
takes_pipe = yes (omega arith) (yes (omega arith, omega arith) refl)

takes_plant : Next four_nodes (joined_from Series (2 ∷ 3 ∷ []))
takes_plant =
    let named : All (λ c. c < 4) (2 ∷ 3 ∷ []) = both_of (λ c. c < 4) (omega arith) (omega arith) in
    let free = both_of (Unused (drawn four_nodes)) (unused 2 (omega arith) (omega arith)) (unused 3 (omega arith) (omega arith)) in
    yes (omega arith) (yes (omega arith, omega arith) (yes named (yes free (yes (apart (λ e. omega (arith, e))) refl))))

abbrev contents : Contents Flow Parts
contents = record { nodes = nodes; demands = flow 3 ∷ flow 5 ∷ [] }

valid : ValidContents flow_kind.ghosts parts_weight.ghosts (one_word rate) (weight_word count) contents
valid = record {
  nodes = (omega arith, omega arith);
  demands = (omega arith, omega arith);
  taken = (((((tt, takes_pump_a), takes_pump_b), takes_pumps), takes_pipe), takes_plant);
}

abbrev h : History Flow Parts
h = drawn nodes

abbrev ShortHere : ℕ → Type 0
ShortHere = Short flow_kind.ghosts parts_weight.ghosts h

short_at : (k : ℕ) → ((a b c d e : ℕ) → making_of h k ≢ Some (bridged_from a b c d e)) →
    FewEach flow_laws parts_laws (states_of h) (running_drawings (drawing_of h k)) → ShortHere k
short_at k other few = (λ a b c d e is. absurd (other a b c d e is), few_combinations flow_laws parts_laws (states_of h) (drawing_of h k) few)

short : (k : ℕ) → k < made h → ShortHere k
short =
    let four : 4 ≤ TERMS = omega arith in
    let eight : 8 ≤ TERMS = omega arith in
    below_more ShortHere 4
    (below_more ShortHere 3
    (below_more ShortHere 2
    (below_more ShortHere 1
    (below_more ShortHere 0
    (below_none ShortHere)
    (short_at 0 (λ a b c d e is. cc is) tt))
    (short_at 1 (λ a b c d e is. cc is) tt))
    (short_at 2 (λ a b c d e is. cc is) (four, tt)))
    (short_at 3 (λ a b c d e is. cc is) tt))
    (short_at 4 (λ a b c d e is. cc is) (eight, tt))

report : List ℕ
report = report_of flow_kind.ghosts parts_weight.ghosts (one_word rate) (weight_word count) contents.demands plant

report_is : report ≡ plant_report
unfolding report digits
report_is = refl

few : length report ≤ LONGEST_REPORT
few = let enough : 99 ≤ LONGEST_REPORT = omega arith in subst (λ z. length z ≤ LONGEST_REPORT) (sym report_is) enough

last_row : HasRow (enumeration flow_kind.ghosts parts_weight.ghosts (states_of h) (drawing_of h 4)) plant
last_row = row_by_computing _ _ (refl, refl, (refl, refl, (refl, refl, (refl, refl, tt))))

module _ (out : List ℕ) (r : Result ℕ Fault) (out' : List ℕ) where
  reported : AnalysedAs flow_kind.ghosts parts_weight.ghosts (one_word rate) (weight_word count) out r out' (drop 1 plant_file) ↔ Put plant_report out r out'
  unfolding report
  reported =
      subst (λ z. AnalysedAs flow_kind.ghosts parts_weight.ghosts (one_word rate) (weight_word count) out r out' (drop 1 plant_file) ↔ Put z out r out') report_is
      (known_report flow_laws parts_laws words weighing contents valid short plant last_row few out r out')

  pub plant_reported : Analysed plant_file out r out' ↔ Put plant_report out r out'
  plant_reported = (λ x. reported.0 (as_one x), λ put. yes (inl refl) (inl (refl, reported.1 put)))
    where
      as_one : Analysed plant_file out r out' → AnalysedAs flow_kind.ghosts parts_weight.ghosts (one_word rate) (weight_word count) out r out' (drop 1 plant_file)
      as_one (inl (listed, inl x)) = x.1
      as_one (inl (listed, inr (inl x))) = absurd (omega (arith, x.0))
      as_one (inl (listed, inr (inr (inl x)))) = absurd (omega (arith, x.0))
      as_one (inl (listed, inr (inr (inr (inl x))))) = absurd (omega (arith, x.0))
      as_one (inl (listed, inr (inr (inr (inr (inl x)))))) = absurd (omega (arith, x.0))
      as_one (inl (listed, inr (inr (inr (inr (inr (inl x))))))) = absurd (omega (arith, x.0))
      as_one (inl (listed, inr (inr (inr (inr (inr (inr x))))))) = absurd (omega (arith, x.0))
      as_one (inr (other, gone)) = absurd (other (inl refl))
