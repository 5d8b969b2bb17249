-- What a diagram answers is the truth, stopped at the top once.
use Rattle.std.proofs.Common.{◌≡◌, ℕ, ◌<◌, List, length, get_or, Result, Ok, Err, inl, inr, refl, sym, ap, ◌∙◌, arith}
use Rattle.std.proofs.lemmas.List.{length-map, get_or-map, get_or_default}
use Rattle.kinds.specs.Capped.{capped}
use Rattle.kinds.specs.Counting.{whole_numbers, CountsTo}
use Rattle.kinds.specs.declared.performance.Performance
use Rattle.kinds.specs.declared.weight.Weight
use Rattle.terms.specs.declared.term.Term.{Term}
use Rattle.terms.specs.Sums.{total_of}
use Rattle.terms.specs.Counted.{reweighed}
use Rattle.kinds.proofs.Lawful.{Kind, Weighing}
use Rattle.terms.proofs.Counting.{CountSame, total_counted, met_counted, true_row, terms_unstopped, total_unstopped, met_unstopped}
use Rattle.diagram.specs.Histories.{Question, size, term, total, availability, Answer, asking, number, one_term, one_weight, two_weights, History, drawing_of, states_of}
use Rattle.diagram.specs.RightAnswers.{Tells, RowOfNode, RightAnswer, Right}
use Rattle.diagram.specs.Counted.{with_weights, WeightsStopOnce}
use Rattle.diagram.proofs.Promise.{answers_right}

inside : {A E : Type 0} {a b : A} → ◌≡◌ {A = Result A E} (Ok a) (Ok b) → a ≡ b
inside e = cc

not_both : {A E C : Type 0} {a : A} {e : E} → ◌≡◌ {A = Result A E} (Ok a) (Err e) → C
not_both e = let none : ⊥ = cc in absurd none

module _ {P W : Type 0} (kind : Performance.Ghosts P) {weights : Weight.Ghosts W} {top : ℕ} {count : W → ℕ} (counts : CountsTo top weights count) where
  as_long : (row : List (Term P W)) (truth : List (Term P ℕ)) → CountSame top count row truth → length row ≡ length truth
  as_long row truth same = sym (length-map row (reweighed count)) ∙ ap length same ∙ length-map truth (reweighed (capped top))

  -- what a row tells, the true row tells too, but for the stopping
  tells_stopped : (row : List (Term P W)) (truth : List (Term P ℕ)) → CountSame top count row truth → (question : Question P) (answer : Answer P W) → Tells kind weights row question (Ok answer) →
      (told : Answer P ℕ) × Tells kind whole_numbers truth question (Ok told) × (with_weights count answer ≡ with_weights (capped top) told)
  tells_stopped row truth same size answer e =
      (number (length truth), refl, ap (with_weights count) (inside e) ∙ ap number (as_long row truth same))
  tells_stopped row truth same (term i) answer (inl (within, (t, found, e))) =
      let long = as_long row truth same in
      let within' : i < length truth = omega (arith, within, long) in
      let d : Term P ℕ = reweighed count t in
      let u : Term P ℕ = get_or truth i d in
      let there : reweighed count t ≡ reweighed (capped top) u =
      ap (reweighed count) (sym found) ∙ sym (get_or-map (reweighed count) row i t d within) ∙ ap (λ z. get_or z i d) same ∙ get_or-map (reweighed (capped top)) truth i d d within' in
      (one_term u, inl (within', (u, get_or_default truth i u d within', refl)), ap (with_weights count) (inside e) ∙ ap one_term there)
  tells_stopped row truth same (term i) answer (inr (past, e)) = not_both e
  tells_stopped row truth same total answer e =
      (one_weight (total_of whole_numbers truth), refl, ap (with_weights count) (inside e) ∙ ap one_weight (total_counted counts row truth same))
  tells_stopped row truth same (availability demand) answer e =
      (two_weights _ _, refl, ap (with_weights count) (inside e) ∙ (λ i. two_weights (met_counted kind counts demand row truth same i) (total_counted counts row truth same i)))

-- what the true row tells is not stopped, where its total is below the top
tells_unstopped : {P : Type 0} (kind : Performance.Ghosts P) (top : ℕ) (truth : List (Term P ℕ)) → capped top (total_of whole_numbers truth) < top →
    (question : Question P) (told : Answer P ℕ) → Tells kind whole_numbers truth question (Ok told) → with_weights (capped top) told ≡ told
tells_unstopped kind top truth below size told e = ap (with_weights (capped top)) (inside e) ∙ sym (inside e)
tells_unstopped kind top truth below (term i) told (inl (within, (t, found, e))) =
    let same : reweighed (capped top) t ≡ t =
    ap (reweighed (capped top)) (sym found) ∙ sym (get_or-map (reweighed (capped top)) truth i t t within) ∙ ap (λ z. get_or z i t) (terms_unstopped top truth below) ∙ found in
    ap (with_weights (capped top)) (inside e) ∙ ap one_term same ∙ sym (inside e)
tells_unstopped kind top truth below (term i) told (inr (past, e)) = not_both e
tells_unstopped kind top truth below total told e = ap (with_weights (capped top)) (inside e) ∙ ap one_weight (total_unstopped top truth below) ∙ sym (inside e)
tells_unstopped kind top truth below (availability demand) told e =
    ap (with_weights (capped top)) (inside e) ∙ (λ i. two_weights (met_unstopped top truth below kind demand i) (total_unstopped top truth below i)) ∙ sym (inside e)

module _ {P W : Type 0} (kind : Performance.Ghosts P) (weights : Weight.Ghosts W) (laws : Kind kind) (weigh : Weighing weights) where
  -- what is answered rightly is told of the node's row
  row_told : (h : History P W) (k : ℕ) (question : Question P) (answer : Answer P W) → RightAnswer kind weights h (Ok answer) (asking k question) →
      (row : List (Term P W)) × RowOfNode kind weights h k row × Tells kind weights row question (Ok answer)
  row_told h k question answer (inl (made, (inl (answers, told)))) = told
  row_told h k question answer (inl (made, (inr (stale, e)))) = not_both e
  row_told h k question answer (inr (none, e)) = not_both e

  last_right : (h : History P W) (k lent : ℕ) (question : Question P) (answer : Answer P W) → Right kind weights h (record { call = asking k question; lent = lent; reply = Ok answer }) →
      RightAnswer kind weights h (Ok answer) (asking k question)
  last_right h k lent question answer (inl (roomy, right)) = right
  last_right h k lent question answer (inr (few, e)) = not_both e

  pub weights_stop : WeightsStopOnce kind weights
  weights_stop top count counts h d s k lent question answer run =
      let right = last_right h k lent question answer (answers_right kind weights laws weigh _ d s run).0 in
      let told = row_told h k question answer right in
      let truth = true_row kind counts laws weigh (states_of h) (drawing_of h k) told.0 told.1 in
      let answered = tells_stopped kind counts told.0 truth.0 truth.2 question answer told.2 in
      (truth.0, answered.0, truth.1, answered.1, answered.2, λ below. answered.2 ∙ tells_unstopped kind top truth.0 below question answered.0 answered.1)
