-- A run of a diagram goes on, call by call: what its caller knows of each answer, from the promise over all runs.
use Rattle.std.proofs.Common.{◌≡◌, ◌≢◌, ℕ, zero, suc, ◌<◌, ◌≤◌, true, false, cond, ◌==◌, List, [], ◌∷◌, length, All, AllPairs, Contains, Some, Result, Ok, Err, sym, ◌∙◌, ap, refl, subst, inl, inr, arith}
use Rattle.std.proofs.lemmas.List.Elements.{All-from_recursion}
use Rattle.kinds.specs.declared.performance.Performance
use Rattle.kinds.specs.declared.weight.Weight
use Rattle.kinds.proofs.Lawful.{Kind, Weighing}
use Rattle.terms.specs.declared.term.Term.{Term}
use Rattle.terms.specs.declared.term.Way.{Way}
use Rattle.terms.specs.Rows.{RowOf, SameDistribution}
use Rattle.terms.specs.Sums.{total_of, met_of}
use Rattle.terms.specs.Enumeration.{enumeration}
use Rattle.terms.specs.Laws.{SummingKeeps}
use Rattle.diagram.specs.declared.limits.TheConstants.{NODES, CHILDREN, STORE}
use Rattle.diagram.specs.declared.refusal.Refusal.{Refusal}
use Rattle.diagram.specs.declared.refusal.Refusal.TheVariants.{WrongStates, LongResult}
use Rattle.diagram.specs.declared.node.Form.TheVariants.{Joined, Bridge}
use Rattle.diagram.specs.declared.table.Table.{Table}
use Rattle.diagram.specs.declared.diagram.Diagram.{Diagram}
use Rattle.diagram.specs.Refusals.{Asked}
use Rattle.diagram.specs.Shown.{records}
use Rattle.diagram.specs.Nodes.{EnoughStates}
use Rattle.diagram.specs.Store.{row_at}
use Rattle.diagram.specs.Calls.{Refused, Added, Joins, Restated, Collected, TellsAvailability}
use Rattle.diagram.specs.Histories.{Question, availability, Call, adding, joining, bridging, restating, collecting, asking, number, two_weights, Reply, History, Making, joined_from, named_by, made, making_of, drawing_of, states_of, children_of, IsPart, Unused, Answers}
use Rattle.diagram.specs.RightAnswers.{RightAnswer, RowOfNode, Tells, ArmsShort, ResultsShort}
use Rattle.diagram.specs.Runs.{as_reply, Performs, Replies, Run, next, AnswersRight}
pub use Rattle.diagram.proofs.Asking.{yes}
pub use Rattle.diagram.proofs.OneCall.{entry}
pub use Rattle.diagram.proofs.PassedOn.{ok_not_err, ok_same, err_same}
use Rattle.diagram.proofs.Promise.{run_right}
use Rattle.diagram.proofs.Questions.{current_question}

-- questions whose answer is known

pub granted : {q refused rest : Type 0} → q → Asked q refused rest → rest
granted q (inl x) = x.1
granted q (inr x) = absurd (x.0 q)

-- what follows from either answer
pub either_way : {q refused refused' rest rest' : Type 0} → (refused → refused') → (rest → rest') → Asked q refused rest → Asked q refused' rest'
either_way told on (inl x) = inl (x.0, on x.1)
either_way told on (inr x) = inr (x.0, told x.1)

-- something was answered, so the question has the answer yes
pub given : {A B q rest : Type 0} {a : A} {e : B} → Asked q (Ok a ≡ Err e) rest → q × rest
given (inl x) = x
given (inr x) = absurd (ok_not_err x.1)

-- what the rest would be is not so, so the question has the answer no
pub denied : {q refused rest : Type 0} → ¬ rest → Asked q refused rest → (¬ q) × refused
denied none (inl x) = absurd (none x.1)
denied none (inr x) = x

-- what was accepted was not refused
pub accepted : {A T q rest : Type 0} {t t' : Table} {s s' : List T} {why : Refusal} {a : A} → Asked q (Refused t s (Ok a) t' s' why) rest → q × rest
accepted (inl x) = x
accepted (inr x) = absurd (ok_not_err x.1.answer)

-- lists of two, of one and of none

pub both_of : {a b : ℕ} (Q : ℕ → Type 0) → Q a → Q b → All Q (a ∷ b ∷ [])
both_of {a} {b} Q x y = All-from_recursion Q (a ∷ b ∷ []) (x, (y, tt))

pub apart : {a b : ℕ} → a ≢ b → AllPairs {X = ℕ} ◌≢◌ (a ∷ b ∷ [])
apart n zero (suc zero) d l m = n
apart n i (suc (suc j)) d l m = absurd (omega (arith, m))
apart n (suc i) (suc zero) d l m = absurd (omega (arith, l))
apart n i zero d l m = absurd (omega (arith, l))

pub the_only : {X : Type 0} {x y : X} → Contains (x ∷ []) y → x ≡ y
the_only (zero, l, e) = e
the_only (suc k, l, e) = absurd (omega (arith, l))

pub no_one : (c : ℕ) → ¬ Contains [] c
no_one c x = omega (arith, x.1)

pub neither : {a b c : ℕ} → a ≢ c → b ≢ c → ¬ Contains (a ∷ b ∷ []) c
neither n m (zero, l, e) = n e
neither n m (suc zero, l, e) = m e
neither n m (suc (suc k), l, e) = omega (arith, l)

module _ {P W : Type 0} where
  -- what a reply tells was answered

  number_told : (r : Result ℕ Refusal) (n : ℕ) → ◌≡◌ {A = Reply P W} (as_reply number r) (Ok (number n)) → r ≡ Ok n
  number_told (Ok k) n e = ap Ok (cc e)
  number_told (Err why) n e = absurd (ok_not_err (sym e))

  two_told : (r : Result (W × W) Refusal) (met all : W) → ◌≡◌ {A = Reply P W} (as_reply (λ w. two_weights w.0 w.1) r) (Ok (two_weights met all)) → r ≡ Ok (met, all)
  two_told (Ok w) met all e = let m : w.0 ≡ met = cc e in let n : w.1 ≡ all = cc e in λ i. Ok (m i, n i)
  two_told (Err why) met all e = absurd (ok_not_err (sym e))

  refusal_told : (r : Result ℕ Refusal) (why : Refusal) → ◌≡◌ {A = Reply P W} (as_reply number r) (Err why) → r ≡ Err why
  refusal_told (Ok k) why e = absurd (ok_not_err e)
  refusal_told (Err x) why e = ap Err (cc e)

  -- a node that one call more does not name stays unused
  pub unused_on : (h : History P W) (c k : ℕ) (m : Making P W) → Unused h c → ¬ Contains (named_by (Some m)) c → (n : ℕ) → ¬ Contains (named_by (cond (k == n) (Some m) (making_of h n))) c
  unused_on h c k m before none n = elim (k == n) as (λ b. ¬ Contains (named_by (cond b (Some m) (making_of h n))) c) [ true ↦ none | false ↦ before n ]

module _ {P W : Type 0} (kind : Performance.Ghosts P) (weights : Weight.Ghosts W) where
  abbrev Terms : Type 0
  Terms = List (Term P W)

  -- what the records and the store tell of a node that answers is the row of all its combinations
  pub row_told : Kind kind → Weighing weights → (h : History P W) (d : Diagram P W) (s : Terms) (k : ℕ) → Run kind weights h d s → k < made h → Answers h k → RowOfNode kind weights h k (row_at (records d) s k)
  row_told laws weigh h d s k run node answers =
      let holds = (run_right kind weights laws weigh h d s run).1 in
      let there : k < (records d).count = omega (arith, node, holds.count) in
      holds.rows k there ((current_question kind weights h (records d) s d.sound holds k there).1 answers)

  -- a run that has come so far, and goes on with a call that is lent so many terms, the store as it was left
  module _ (promise : AnswersRight kind weights) (lent : ℕ) (roomy : STORE ≤ lent) {h : History P W} {d : Diagram P W} {s : Terms} (run : Run kind weights h d s) (long : length s ≡ lent) where
    -- the answer is right, and the run goes on
    pub answered : (call : Call P W) (d' : Diagram P W) (s' : Terms) (reply : Reply P W) → Performs kind weights call (records d) s reply (records d') s' →
        RightAnswer kind weights h reply call × Run kind weights (entry call lent reply ∷ h) d' s'
    answered call d' s' reply taken =
        let on = next call s s' reply run (omega (arith, roomy, long)) refl taken in
        let so = subst (λ n. Run kind weights (entry call n reply ∷ h) d' s') long on in
        (granted roomy (promise _ d' s' so).0, so)

    -- node n is made, or worked out with so many terms, and the run has gone on so
    abbrev Goes : Call P W → ℕ → Result ℕ Refusal → Diagram P W → Terms → Type 0
    Goes call n r d' s' = (r ≡ Ok n) × Run kind weights (entry call lent (Ok (number n)) ∷ h) d' s'

    goes : (call : Call P W) (n : ℕ) (r : Result ℕ Refusal) (d' : Diagram P W) (s' : Terms) → Run kind weights (entry call lent (as_reply number r) ∷ h) d' s' → ◌≡◌ {A = Reply P W} (as_reply number r) (Ok (number n)) → Goes call n r d' s'
    goes call n r d' s' on so = (number_told r n so, subst (λ z. Run kind weights (entry call lent z ∷ h) d' s') so on)

    -- a part has the next number, or is refused for its states
    pub after_adding : (states : Terms) (d' : Diagram P W) (s' : Terms) {r : Result ℕ Refusal} → Added kind weights (records d) s states r (records d') s' → made h < NODES →
        Asked (EnoughStates (length states)) (r ≡ Err WrongStates) (Goes (adding states) (made h) r d' s')
    after_adding states d' s' {r} x left =
        let said = answered (adding states) d' s' (as_reply number r) (r, x, refl) in
        either_way (refusal_told r _) (goes (adding states) _ r d' s' said.1) (granted left said.0)

    -- so has a node that is joined from other nodes, which no node uses yet
    module _ (left : made h < NODES) (named : List ℕ) (nodes : All (λ c. c < made h) named) (free : All (Unused h) named) (distinct : AllPairs {X = ℕ} ◌≢◌ named) where
      pub after_joining : (way : Way) (d' : Diagram P W) {r : Result ℕ Refusal} → Joins kind weights (records d) s (Joined way) named r (records d') →
          (2 ≤ length named) × (length named ≤ CHILDREN) → Goes (joining way named) (made h) r d' s
      after_joining way d' {r} x enough =
          let said = answered (joining way named) d' s (as_reply number r) (r, x, refl, refl) in
          goes (joining way named) _ r d' s said.1 (granted distinct (granted free (granted nodes (granted enough (granted left said.0)))))

      pub after_bridging : (a b c e f : ℕ) → named ≡ a ∷ b ∷ c ∷ e ∷ f ∷ [] → (d' : Diagram P W) {r : Result ℕ Refusal} → Joins kind weights (records d) s Bridge named r (records d') →
          Goes (bridging a b c e f) (made h) r d' s
      after_bridging a b c e f arms d' {r} x =
          let said = answered (bridging a b c e f) d' s (as_reply number r) (r, subst (λ z. Joins kind weights (records d) s Bridge z r (records d')) arms x, refl, refl) in
          let right = subst (λ z. All (λ c. c < made h) z × All (Unused h) z × AllPairs {X = ℕ} ◌≢◌ z) arms (nodes, free, distinct) in
          goes (bridging a b c e f) _ r d' s said.1 (granted right.2 (granted right.1 (granted right.0 (granted left said.0))))

    module _ (k : ℕ) (is_node : k < made h) where
      -- a part has the row of its new states, or is refused for them
      pub after_restating : (states : Terms) (d' : Diagram P W) (s' : Terms) {r : Result ℕ Refusal} → Restated kind weights (records d) s k states r (records d') s' → IsPart h k →
          Asked (EnoughStates (length states)) (r ≡ Err WrongStates) ((row : Terms) × RowOf kind weights states row × Goes (restating k states) (length row) r d' s')
      after_restating states d' s' {r} x part =
          let said = answered (restating k states) d' s' (as_reply number r) (r, x, refl) in
          either_way (refusal_told r _) (λ (row, of, so). (row, of, goes (restating k states) _ r d' s' said.1 so)) (granted part (granted is_node said.0))

      -- a joined node whose children answer has the row of its combinations, or is refused for a running result
      abbrev Worked : Result ℕ Refusal → Diagram P W → Terms → Type 0
      Worked r d' s' = Asked (ResultsShort kind weights h k) (r ≡ Err LongResult) ((row : Terms) × RowOfNode kind weights h k row × Goes (collecting k) (length row) r d' s')

      pub after_collecting : (d' : Diagram P W) (s' : Terms) {r : Result ℕ Refusal} → Collected kind weights (records d) s k r (records d') s' →
          ¬ IsPart h k → All (Answers h) (children_of h k) → ArmsShort kind weights h k → Worked r d' s'
      after_collecting d' s' {r} x no_part children arms =
          let said = answered (collecting k) d' s' (as_reply number r) (r, x, refl) in
          either_way (refusal_told r _) (λ (row, of, so). (row, of, goes (collecting k) _ r d' s' said.1 so)) (granted arms (granted children (granted no_part (granted is_node said.0))))

      -- so it is in series and in parallel, where there are no arms
      pub after_collecting_joined : (way : Way) (named : List ℕ) → making_of h k ≡ Some (joined_from way named) → All (Answers h) named →
          (d' : Diagram P W) (s' : Terms) {r : Result ℕ Refusal} → Collected kind weights (records d) s k r (records d') s' → Worked r d' s'
      after_collecting_joined way named joined children d' s' x =
          after_collecting d' s' x (λ p. let e = sym joined ∙ p.1 in absurd (cc)) (subst (λ m. All (Answers h) (named_by m)) (sym joined) children) (λ a b c d e p. let e = sym joined ∙ p in absurd (cc))

      -- a node that answers tells its row
      module _ (answers : Answers h k) where
        pub after_asking : (question : Question P) (reply : Reply P W) → Replies kind weights (records d) s k question reply → (row : Terms) × RowOfNode kind weights h k row × Tells kind weights row question reply
        after_asking question reply x = granted answers (granted is_node (answered (asking k question) d s reply (x, refl, refl)).0)

        -- and the sums over all its combinations
        pub sums_told : SummingKeeps kind weights → (all : Terms) → enumeration kind weights (states_of h) (drawing_of h k) ≡ all → (demand : P) (r : Result (W × W) Refusal) → TellsAvailability kind weights (records d) s k demand r →
            r ≡ Ok (met_of kind weights demand all, total_of weights all)
        sums_told summing all is demand r x =
            let so = after_asking (availability demand) (as_reply (λ w. two_weights w.0 w.1) r) (r, x, refl) in
            let sums = summing all so.0 (subst (λ z. SameDistribution kind weights z so.0) is so.1.same) in
            two_told r _ _ so.2 ∙ (λ i. Ok (sym (sums.1 demand) i, sym sums.0 i))
