-- The promise over all runs.
use Rattle.std.proofs.Common.{◌≡◌, ℕ, ◌<◌, ◌≤◌, List, [], ◌∷◌, length, get_or, Result, Ok, Err, IsOkAnd, sym, ◌∙◌, ap, refl, subst, inl, inr, arith}
use Rattle.std.proofs.lemmas.Bool.{cases_lt}
use Rattle.std.proofs.lemmas.List.{get_or_default}
use Rattle.kinds.specs.declared.performance.Performance
use Rattle.kinds.specs.declared.weight.Weight
use Rattle.kinds.proofs.Lawful.{Kind, Weighing}
use Rattle.terms.specs.declared.term.Term.{Term}
use Rattle.terms.specs.Sums.{total_of, met_of}
use Rattle.terms.proofs.Canonical.{row_unique}
use Rattle.terms.proofs.Deciding.{reading_decides}
use Rattle.terms.proofs.Looping.{row_same}
use Rattle.diagram.specs.declared.limits.TheConstants.{STORE}
use Rattle.diagram.specs.declared.refusal.Refusal.{Refusal}
use Rattle.diagram.specs.declared.refusal.Refusal.TheVariants.{ShortStore, NoTerm}
use Rattle.diagram.specs.declared.diagram.Diagram.{Diagram}
use Rattle.diagram.specs.Refusals.{Asked}
use Rattle.diagram.specs.Records.{size_at}
use Rattle.diagram.specs.Store.{row_at}
use Rattle.diagram.specs.Calls.{Asks}
use Rattle.diagram.specs.Histories.{Question, size, term, total, availability, Call, adding, joining, bridging, restating, collecting, asking, Answer, number, one_term, one_weight, two_weights, Reply, Entry, History, drawing_of, states_of, CollectedSince, Answers}
use Rattle.diagram.specs.RightAnswers.{RightAnswer, Right, RightThroughout, RowOfNode, Tells}
use Rattle.diagram.specs.Runs.{as_reply, Performs, Run, start, next, lent_too_few, AnswersRight, AnswersAlike}
use Rattle.diagram.proofs.Collected.{none_or_some}
use Rattle.diagram.proofs.CollectedSince.{collecting_in}
use Rattle.diagram.proofs.HistoryFits.{blank_holds, same_places, holds_there}
use Rattle.diagram.proofs.PartsBelow.{none_twice}
use Rattle.diagram.proofs.PassedOn.{ok_not_err}
use Rattle.diagram.proofs.Questions.{HoldsAfter}
use Rattle.diagram.proofs.OneCall.{Known, After, idle_after, refused_idle, adding_right, joining_right, bridging_right, restating_right, collecting_right, asking_right}

module _ {P W : Type 0} (kind : Performance.Ghosts P) (weights : Weight.Ghosts W) (laws : Kind kind) (weigh : Weighing weights) where
  abbrev Terms : Type 0
  Terms = List (Term P W)

  tells_term : (row stored : Terms) (n i : ℕ) (reply : Reply P W) (r : Result (Term P W) Refusal) → row ≡ stored → length row ≡ n → reply ≡ as_reply one_term r →
      Asked (i < n) (r ≡ Err NoTerm) (IsOkAnd r (λ x. get_or stored i x ≡ x)) → Tells kind weights row (term i) reply
  tells_term row stored n i reply (Ok x) is long e (inl (q, found)) = inl (omega (arith, q, long), (x, ap (λ z. get_or z i x) is ∙ found, e))
  tells_term row stored n i reply (Err w) is long e (inl (q, found)) = absurd found
  tells_term row stored n i reply r is long e (inr (past, x)) = inr ((λ q. past (omega (arith, q, long))), e ∙ ap (as_reply one_term) x)

  -- a call that is lent enough is answered right, and all is as the longer history has it
  step : (h : History P W) (d d' : Diagram P W) (s s' : Terms) (call : Call P W) (reply : Reply P W) (lent : ℕ) →
      HoldsAfter kind weights h d.table s → Known kind weights h d.table → STORE ≤ length s → Performs kind weights call d.table s reply d'.table s' →
      RightAnswer kind weights h reply call × After kind weights h call lent reply d'.table s'
  step h d d' s s' (adding states) reply lent holds known roomy (r, a, e) =
      adding_right kind weights h d.table d'.table s s' d.sound d'.sound holds known lent laws weigh states reply r roomy a e
  step h d d' s s' (joining way children) reply lent holds known roomy (r, a, kept, e) =
      joining_right kind weights h d.table d'.table s s' d.sound d'.sound holds known lent way children reply r roomy kept a e
  step h d d' s s' (bridging a b c x y) reply lent holds known roomy (r, asked, kept, e) =
      bridging_right kind weights h d.table d'.table s s' d.sound d'.sound holds known lent a b c x y reply r roomy kept asked e
  step h d d' s s' (restating k states) reply lent holds known roomy (r, a, e) =
      restating_right kind weights h d.table d'.table s s' d.sound d'.sound holds known lent weigh k states reply r roomy a e
  step h d d' s s' (collecting k) reply lent holds known roomy (r, a, e) =
      collecting_right kind weights h d.table d'.table s s' d.sound d'.sound holds known lent laws weigh k reply r roomy a e
  step h d d' s s' (asking k size) reply lent holds known roomy ((r, a, e), same_t, same_s) =
      asking_right kind weights h d.table d'.table s s' d.sound d'.sound holds known lent k size reply r number _ roomy same_t same_s a e
      (λ row is long x. e ∙ ap (as_reply number) (x ∙ ap Ok (sym long)))
  step h d d' s s' (asking k (term i)) reply lent holds known roomy ((r, a, e), same_t, same_s) =
      asking_right kind weights h d.table d'.table s s' d.sound d'.sound holds known lent k (term i) reply r one_term _ roomy same_t same_s a e
      (λ row is long x. tells_term row (row_at d.table s k) (size_at d.table k) i reply r is long e x)
  step h d d' s s' (asking k total) reply lent holds known roomy ((r, a, e), same_t, same_s) =
      asking_right kind weights h d.table d'.table s s' d.sound d'.sound holds known lent k total reply r one_weight _ roomy same_t same_s a e
      (λ row is long x. e ∙ ap (as_reply one_weight) (x ∙ ap (λ z. Ok (total_of weights z)) (sym is)))
  step h d d' s s' (asking k (availability demand)) reply lent holds known roomy ((r, a, e), same_t, same_s) =
      asking_right kind weights h d.table d'.table s s' d.sound d'.sound holds known lent k (availability demand) reply r (λ w. two_weights w.0 w.1) _ roomy same_t same_s a e
      (λ row is long x. e ∙ ap (as_reply (λ w. two_weights w.0 w.1)) (x ∙ ap (λ z. Ok (met_of kind weights demand z, total_of weights z)) (sym is)))

  -- a call that is lent too few terms is refused with that, and nothing has changed
  too_few : (h : History P W) (d d' : Diagram P W) (s lent left : Terms) (call : Call P W) (reply : Reply P W) →
      HoldsAfter kind weights h d.table s → Known kind weights h d.table → length lent < STORE → Performs kind weights call d.table lent reply d'.table left →
      (reply ≡ Err ShortStore) × After kind weights h call (length lent) reply d'.table s
  too_few h d d' s lent left call reply holds known few x = let y = first call x in (y.0, after y.0 y.1)
    where
      short : ¬ (STORE ≤ length lent)
      short q = omega (arith, few, q)

      asked : {A : Type 0} (k : ℕ) (r : Result A Refusal) (to : A → Answer P W) (told_so : Type 0) → Asks kind weights d.table lent k r told_so → reply ≡ as_reply to r → reply ≡ Err ShortStore
      asked k r to told_so (inl (q, y)) e = absurd (short q)
      asked k r to told_so (inr (n, y)) e = e ∙ ap (as_reply to) y

      first : (call : Call P W) → Performs kind weights call d.table lent reply d'.table left → (reply ≡ Err ShortStore) × (d'.table ≡ d.table)
      first (adding states) (r, inl (q, a), e) = absurd (short q)
      first (adding states) (r, inr (n, y), e) = (e ∙ ap (as_reply number) y.answer, y.records)
      first (joining way children) (r, inl (q, a), kept, e) = absurd (short q)
      first (joining way children) (r, inr (n, y), kept, e) = (e ∙ ap (as_reply number) y.answer, y.records)
      first (bridging a b c x y) (r, inl (q, z), kept, e) = absurd (short q)
      first (bridging a b c x y) (r, inr (n, z), kept, e) = (e ∙ ap (as_reply number) z.answer, z.records)
      first (restating k states) (r, inl (q, a), e) = absurd (short q)
      first (restating k states) (r, inr (n, y), e) = (e ∙ ap (as_reply number) y.answer, y.records)
      first (collecting k) (r, inl (q, a), e) = absurd (short q)
      first (collecting k) (r, inr (n, y), e) = (e ∙ ap (as_reply number) y.answer, y.records)
      first (asking k size) ((r, a, e), same_t, same_s) = (asked k r number _ a e, same_t)
      first (asking k (term i)) ((r, a, e), same_t, same_s) = (asked k r one_term _ a e, same_t)
      first (asking k total) ((r, a, e), same_t, same_s) = (asked k r one_weight _ a e, same_t)
      first (asking k (availability demand)) ((r, a, e), same_t, same_s) = (asked k r (λ w. two_weights w.0 w.1) _ a e, same_t)

      after : reply ≡ Err ShortStore → d'.table ≡ d.table → After kind weights h call (length lent) reply d'.table s
      after is records =
          subst (λ z. After kind weights h call (length lent) z d'.table s) (sym is)
          (idle_after kind weights h d.table d'.table s s d.sound d'.sound holds known (length lent) call (Err ShortStore) (refused_idle kind weights call (length lent) ShortStore) records (λ j b. refl))

  -- every entry of a run is right, and the run leaves what its history has
  pub run_right : (h : History P W) (d : Diagram P W) (s : Terms) → Run kind weights h d s → RightThroughout kind weights h × HoldsAfter kind weights h d.table s × Known kind weights h d.table
  run_right _ d s (start (inl (roomy, none))) = (tt, blank_holds kind weights (CollectedSince []) nothing_since d.table s none, λ e k i. absurd (omega (arith, i.1)))
    where
      nothing_since : (k : ℕ) → ¬ CollectedSince {P = P} {W = W} [] k
      nothing_since k c = let i = collecting_in [] k c in omega (arith, i.1.1)
  run_right _ d s (start (inr (n, e))) = absurd (ok_not_err e)
  run_right _ d' s' (next {h = h} {d = d} {s = s} call lent left reply run roomy same x) =
      let before = run_right h d s run in
      let now = step h d d' lent s' call reply (length lent) (holds_there d.sound s lent (same_places s lent same) before.1) before.2 roomy x in
      ((inl (roomy, now.0), before.0), now.1.0, now.1.1)
  run_right _ d' s (lent_too_few {h = h} {d = d} call lent left reply run few x) =
      let before = run_right h d s run in
      let now = too_few h d d' s lent left call reply before.1 before.2 few x in
      ((inr ((λ q. omega (arith, few, q)), now.0), before.0), now.1.0, now.1.1)

  pub answers_right : AnswersRight kind weights
  answers_right h d s run = (run_right h d s run).0

  -- one row has one answer to each question
  one_answer : (row : Terms) (question : Question P) (reply reply' : Reply P W) → Tells kind weights row question reply → Tells kind weights row question reply' → reply ≡ reply'
  one_answer row size reply reply' x y = x ∙ sym y
  one_answer row (term i) reply reply' (inl (q, (t, found, e))) (inl (q', (t', found', e'))) =
      e ∙ ap (λ z. Ok (one_term z)) (sym found ∙ get_or_default row i t t' q ∙ found') ∙ sym e'
  one_answer row (term i) reply reply' (inl (q, x)) (inr (n, e)) = absurd (n q)
  one_answer row (term i) reply reply' (inr (n, e)) (inl (q, x)) = absurd (n q)
  one_answer row (term i) reply reply' (inr (n, e)) (inr (n', e')) = e ∙ sym e'
  one_answer row total reply reply' x y = x ∙ sym y
  one_answer row (availability demand) reply reply' x y = x ∙ sym y

  -- what answers is a node
  is_node : (h : History P W) (d : Diagram P W) (s : Terms) (k : ℕ) → HoldsAfter kind weights h d.table s → Answers h k → k < d.table.count
  is_node h d s k holds (inl p) = elim (cases_lt k d.table.count) [ inl b ↦ b | inr past ↦ absurd (none_or_some (holds.none_past k past) p.1) ]
  is_node h d s k holds (inr c) = holds.since_made k c

  -- a node that answers, asked next, tells its row
  asked_row : (h : History P W) (d : Diagram P W) (s : Terms) (k lent : ℕ) (question : Question P) (reply : Reply P W) → STORE ≤ lent → Answers h k → HoldsAfter kind weights h d.table s →
      Right kind weights h (record { call = asking k question; lent = lent; reply = reply }) → (row : Terms) × RowOfNode kind weights h k row × Tells kind weights row question reply
  asked_row h d s k lent question reply roomy answers holds (inr (n, e)) = absurd (n roomy)
  asked_row h d s k lent question reply roomy answers holds (inl (q, inr (n, e))) = let b = is_node h d s k holds answers in absurd (n (omega (arith, b, holds.count)))
  asked_row h d s k lent question reply roomy answers holds (inl (q, inl (low, inr (n, e)))) = absurd (n answers)
  asked_row h d s k lent question reply roomy answers holds (inl (q, inl (low, inl (up, told_so)))) = told_so

  before : (e : Entry P W) (h : History P W) (d : Diagram P W) (s : Terms) → Run kind weights (e ∷ h) d s → (d₀ : Diagram P W) × (s₀ : Terms) × Run kind weights h d₀ s₀
  before _ h d s (next {d = d₀} {s = s₀} call lent left reply run roomy same x) = (d₀, s₀, run)
  before _ h d s (lent_too_few {d = d₀} call lent left reply run few x) = (d₀, s, run)

  pub answers_alike : AnswersAlike kind weights
  answers_alike h h' d d' s s' m n lent lent' question reply reply' roomy roomy' run run' answers answers' reads =
      let b = before _ h d s run in
      let b' = before _ h' d' s' run' in
      let holds = (run_right h b.0 b.1 b.2).1 in
      let holds' = (run_right h' b'.0 b'.1 b'.2).1 in
      let x = asked_row h b.0 b.1 m lent question reply roomy answers holds (run_right _ d s run).0.0 in
      let x' = asked_row h' b'.0 b'.1 n lent' question reply' roomy' answers' holds' (run_right _ d' s' run').0.0 in
      let once = none_twice b.0.sound holds.drawn m (is_node h b.0 b.1 m holds answers) in
      let once' = none_twice b'.0.sound holds'.drawn n (is_node h' b'.0 b'.1 n holds' answers') in
      let same = row_unique laws weigh _ x.0 x'.0 x.1 (row_same laws weigh _ _ x'.0 (reading_decides laws weigh (states_of h) (states_of h') (drawing_of h m) (drawing_of h' n) once once' reads) x'.1) in
      one_answer x.0 question reply reply' x.2 (subst (λ z. Tells kind weights z question reply') (sym same) x'.2)
