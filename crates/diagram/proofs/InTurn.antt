-- Joined nodes collected in turn, after any run: what the first refusal is, and which rows are left.
use Rattle.std.proofs.Common.{◌≡◌, ◌≢◌, ℕ, ◌+◌, ◌<◌, ◌≤◌, List, ◌∷◌, length, All, Result, Ok, Err, sym, ◌∙◌, ap, refl, subst, inl, inr, arith}
use borrow.Author.Count.{below_more}
use Rattle.kinds.specs.declared.performance.Performance
use Rattle.kinds.specs.declared.weight.Weight
use Rattle.kinds.proofs.Lawful.{Kind, Weighing}
use Rattle.terms.specs.declared.term.Term.{Term}
use Rattle.terms.specs.Drawings.{part}
use Rattle.terms.specs.Enumeration.{enumeration}
use Rattle.diagram.specs.declared.diagram.Diagram.{Diagram}
use Rattle.diagram.specs.declared.limits.TheConstants.{STORE}
use Rattle.diagram.specs.declared.node.Form.TheVariants.{Part}
use Rattle.diagram.specs.declared.node.Status.TheVariants.{UpToDate}
use Rattle.diagram.specs.declared.refusal.Refusal.{Refusal}
use Rattle.diagram.specs.declared.refusal.Refusal.TheVariants.{LongArm, LongResult}
use Rattle.diagram.specs.declared.refusal.RefusedAt.{RefusedAt}
use Rattle.diagram.specs.Refusals.{Asked}
use Rattle.diagram.specs.declared.table.Table.{Table}
use Rattle.diagram.specs.Calls.{Collected}
use Rattle.diagram.specs.Changes.{NodeCollected}
use Rattle.diagram.specs.Histories.{collecting, number, Reply, Entry, History, made, drawing_of, children_of, IsPart, Answers}
use Rattle.diagram.specs.InTurn.{CollectedTo, none_yet, past_part, one_more, InTurn, CollectsInTurn, Short, NotShort, FirstAnswer, Leaves, CollectsAll}
use Rattle.diagram.specs.Records.{form_at, status_at, children_at}
use Rattle.diagram.specs.RightAnswers.{RightAnswer, RowOfNode, ArmsShort, ResultsShort}
use Rattle.diagram.specs.Runs.{as_reply, Run, next}
use Rattle.diagram.specs.Shown.{records}
use Rattle.diagram.specs.Store.{Kept}
use Rattle.diagram.proofs.Drawn.{drawn_form}
use Rattle.diagram.proofs.Promise.{run_right}
use Rattle.diagram.proofs.Questions.{HoldsAfter, part_question, children_same}
use Rattle.diagram.proofs.CollectedSince.{since_now, since_kept}
use Rattle.diagram.proofs.RunGoesOn.{granted, given, accepted, ok_not_err, ok_same}
use Rattle.diagram.proofs.Standing.{rows_stand, kept_same, kept_on, kept_more, collected_kept, collecting_refused}

module _ {P W : Type 0} (kind : Performance.Ghosts P) (weights : Weight.Ghosts W) (d : Diagram P W) (s : List (Term P W)) where
  -- whatever diagram it is: once the joined ones of the first n nodes are collected, these are up to date
  abbrev Current : Diagram P W → ℕ → Type 0
  Current d' n = ((records d').count ≡ (records d).count) × ((k : ℕ) → k < n → status_at (records d') k ≡ UpToDate)

  pub current_to : {n : ℕ} {d' : Diagram P W} {s' : List (Term P W)} → n ≤ (records d).count → CollectedTo kind weights d s n d' s' → Current d' n
  current_to few none_yet = (refl, λ k l. absurd (omega (arith, l)))
  current_to few (past_part {n} {d'} c is) =
      let before = current_to (omega (arith, few)) c in
      let there : n < (records d').count = omega (arith, few, before.0) in
      (before.0, below_more (λ k. status_at (records d') k ≡ UpToDate) n before.1 ((d'.sound.at n there).own.part_is_up_to_date is))
  current_to few (one_more {n} {size} {d'} {d''} c x) =
      let before = current_to (omega (arith, few)) c in
      let there : n < (records d').count = omega (arith, few, before.0) in
      let made = (node_collected x) in (
        made.number ∙ before.0,
        below_more (λ k. status_at (records d'') k ≡ UpToDate) n
            (λ k l. ap (λ node. node.status) (made.others k (omega (arith, l, there)) (λ e. omega (arith, e, l))) ∙ before.1 k l)
            (ap (λ node. node.status) made.collected),
      )
    where
      node_collected : {t t' : Table} {s s' : List (Term P W)} {k size : ℕ} → Collected kind weights t s k (Ok size) t' s' → NodeCollected t t' k size
      node_collected x =
          let it = (accepted (accepted (accepted (accepted (accepted x).1).1).1).1).1 in
          elim it [
            | inl (fit, y) ↦ subst (NodeCollected _ _ _) (ok_same (sym y.2)) y.3
            | inr (long, y) ↦ absurd (ok_not_err y.answer)
          ]

  -- what collecting in turn keeps of a store, whatever it answers
  kept_to : {n : ℕ} {d' : Diagram P W} {s' : List (Term P W)} → CollectedTo kind weights d s n d' s' → Kept (λ j. j < n) s s'
  kept_to none_yet = kept_same refl
  kept_to (past_part c is) = kept_more (λ j l. omega (arith, l)) (kept_to c)
  kept_to (one_more {n} {size} c x) = kept_on (kept_more (λ j l. omega (arith, l)) (kept_to c)) (collected_kept kind weights {free = λ j. j < n + 1} (Ok size) (omega arith) x)

  pub kept_in_turn : (d' : Diagram P W) (s' : List (Term P W)) (r : Result (Unit {0}) RefusedAt) → CollectsInTurn kind weights d s r d' s' → Kept (λ j. j < (records d).count) s s'
  kept_in_turn d' s' r (inr (short, x)) = kept_same x.2
  kept_in_turn d' s' (Ok _) (inl (roomy, x)) = kept_to x.0
  kept_in_turn d' s' (Err at) (inl (roomy, (between, left, c, node, joined, x))) = kept_on (kept_more (λ j l. omega (arith, l, node)) (kept_to c)) (collecting_refused kind weights x)

module _ {P W : Type 0} (kind : Performance.Ghosts P) (weights : Weight.Ghosts W) (laws : Kind kind) (weigh : Weighing weights) where
  abbrev Terms : Type 0
  Terms = List (Term P W)

  module _ (h : History P W) where
    -- after more calls all is as before them, and the first n nodes are short enough and answer
    record Through (n : ℕ) (calls : History P W) : Type 0 where
      first : FirstAnswer kind weights h n calls
      short : (j : ℕ) → j < n → Short kind weights h j

    abbrev entry : ℕ → ℕ → Reply P W → Entry P W
    entry k lent reply = record { call = collecting k; lent = lent; reply = reply }

    -- an answer keeps through a collecting
    answers_on : (calls : History P W) (j k lent : ℕ) (reply : Reply P W) → Answers calls j → Answers (entry k lent reply ∷ calls) j
    answers_on calls j k lent reply (inl p) = inl p
    answers_on calls j k lent reply (inr c) = inr (since_kept (entry k lent reply) calls j refl (λ p states is. absurd (cc)) c)

    first_on : (n : ℕ) (calls : History P W) (k lent : ℕ) (reply : Reply P W) → FirstAnswer kind weights h n calls → FirstAnswer kind weights h n (entry k lent reply ∷ calls)
    first_on n calls k lent reply f =
        record { nodes = f.nodes; makings = f.makings; drawings = f.drawings; states = f.states; answer = λ j l. answers_on calls j k lent reply (f.answer j l) }

    through_more : (n : ℕ) (calls : History P W) → FirstAnswer kind weights h n calls → ((j : ℕ) → j < n → Short kind weights h j) → Short kind weights h n → Answers calls n → Through (n + 1) calls
    through_more n calls f short now answers = record {
      first = record { nodes = f.nodes; makings = f.makings; drawings = f.drawings; states = f.states; answer = below_more (Answers calls) n f.answer answers };
      short = below_more (Short kind weights h) n short now;
    }

    part_short : (n : ℕ) → IsPart h n → drawing_of h n ≡ part n → Short kind weights h n
    part_short n p d = (
      λ a b c d e is. absurd (let z = sym p.1 ∙ is in cc),
      λ row x. let i = rw d at x in absurd (omega (arith, i.1.1)),
    )

    module _ (d : Diagram P W) (s : Terms) (run : Run kind weights h d s) (roomy : STORE ≤ length s) where
      record Reached (n : ℕ) (d' : Diagram P W) (s' : Terms) : Type 0 where
        calls : History P W
        so_far : Run kind weights calls d' s'
        through : Through n calls
        long : length s' ≡ length s
        kept : Kept (λ j. j < n) s s'

      holds : (calls : History P W) (d' : Diagram P W) (s' : Terms) → Run kind weights calls d' s' → HoldsAfter kind weights calls (records d') s'
      holds calls d' s' so_far = (run_right kind weights laws weigh calls d' s' so_far).1

      -- a collecting more: the run goes on, and its answer is right
      module _ {n : ℕ} {d' : Diagram P W} {s' s'' : Terms} (at : Reached n d' s') (d'' : Diagram P W) (r : Result ℕ Refusal) (x : Collected kind weights (records d') s' n r (records d'') s'') where
        goes_on : Run kind weights (entry n (length s') (as_reply number r) ∷ at.calls) d'' s''
        goes_on = next (collecting n) s' s'' (as_reply number r) at.so_far (omega (arith, roomy, at.long)) refl (r, x, refl)

        right : RightAnswer kind weights at.calls (as_reply number r) (collecting n)
        right = granted (omega (arith, roomy, at.long)) (run_right kind weights laws weigh _ d'' s'' goes_on).0.0

      reached : {n : ℕ} {d' : Diagram P W} {s' : Terms} → n ≤ made h → CollectedTo kind weights d s n d' s' → Reached n d' s'
      reached few none_yet = record {
        calls = h;
        so_far = run;
        through = record { first = record { nodes = refl; makings = refl; drawings = refl; states = refl; answer = λ j l. absurd (omega (arith, l)) }; short = λ j l. absurd (omega (arith, l)) };
        long = refl;
        kept = kept_same refl;
      }
      reached few (past_part {n} {d'} {s'} c is) =
          let at = reached (omega (arith, few)) c in
          let f = at.through.first in
          let so = holds at.calls d' s' at.so_far in
          let node : n < (records d').count = omega (arith, few, f.nodes, so.count) in
          let p = (part_question kind weights at.calls (records d') s' d'.sound so n node).0 is in
          let drawn : drawn_form (form_at (records d') n) n (children_at (records d') n) (drawing_of at.calls) ≡ part n = ap (λ form. drawn_form form n (children_at (records d') n) (drawing_of at.calls)) is in
          let here : drawing_of h n ≡ part n = ap (λ g. g n) (sym f.drawings) ∙ so.drawn n node ∙ drawn in
          record {
            calls = at.calls;
            so_far = at.so_far;
            through = through_more n at.calls f at.through.short (part_short n (p.0, ap (λ g. g n) (sym f.makings) ∙ p.1) here) (inl p);
            long = at.long;
            kept = kept_more (λ j l. omega (arith, l)) at.kept;
          }
      reached few (one_more {n} {size} {d'} {d''} {s'} {s''} c x) =
          let at = reached (omega (arith, few)) c in
          let f = at.through.first in
          let said = given (given (given (given (right at d'' (Ok size) x)).1).1).1 in
          let arms : ArmsShort kind weights h n = rw (f.makings, f.drawings, f.states) at said.0 in
          let results : ResultsShort kind weights h n = rw (f.drawings, f.states) at (given said.1).0 in
          let kept = collected_kept kind weights {free = λ j. j < n + 1} (Ok size) (omega arith) x in
          record {
            calls = entry n (length s') (Ok (number size)) ∷ at.calls;
            so_far = goes_on at d'' (Ok size) x;
            through = through_more n _ (first_on n at.calls n (length s') (Ok (number size)) f) at.through.short (arms, results) (inr (since_now _ at.calls n refl));
            long = kept.as_long ∙ at.long;
            kept = kept_on (kept_more (λ j l. omega (arith, l)) at.kept) kept;
          }

      leaves : (n : ℕ) (calls : History P W) (d' : Diagram P W) (s' : Terms) → n ≤ made h → Run kind weights calls d' s' → FirstAnswer kind weights h n calls → Kept (λ j. j < n) s s' → Leaves kind weights h n s d' s'
      leaves n calls d' s' few so_far f kept = (
        rows_stand kind weights laws weigh calls d' s s' so_far
            (λ k is. (omega (arith, is.0, f.nodes), elim is.1 [ inl p ↦ inl (p.0, ap (λ g. g k) f.makings ∙ p.1) | inr l ↦ f.answer k l ], λ i. enumeration kind weights (f.states i) (f.drawings i k)))
            (kept_more (λ j l. (omega (arith, l, few), inr l)) kept),
        (calls, so_far, f),
      )

      stopped : {k : ℕ} {why : Refusal} {between d' : Diagram P W} {left s' : Terms} → k < made h → CollectedTo kind weights d s k between left → form_at (records between) k ≢ Part →
          Collected kind weights (records between) left k (Err why) (records d') s' → ((j : ℕ) → j < k → Short kind weights h j) × NotShort kind weights h k why × Leaves kind weights h k s d' s'
      stopped {k} {why} {between} {d'} {left} {s'} node c joined x =
          let at = reached (omega (arith, node)) c in
          let f = at.through.first in
          let so = holds at.calls between left at.so_far in
          let there : k < (records between).count = omega (arith, node, f.nodes, so.count) in
          let no_part : ¬ IsPart at.calls k = λ p. joined ((part_question kind weights at.calls (records between) left between.sound so k there).1 p) in
          let below : All (λ c. c < k) (children_of at.calls k) = subst (All (λ c. c < k)) (sym (children_same kind weights at.calls (records between) left between.sound so k there)) (between.sound.at k there).own.children_below in
          let asked = granted (λ j i u. f.answer _ (below j i u)) (granted no_part (granted (omega (arith, node, f.nodes)) (right at d' (Err why) x))) in (
            at.through.short,
            long (rw (f.makings, f.drawings, f.states) at asked),
            leaves k _ d' s' (omega (arith, node)) (goes_on at d' (Err why) x) (first_on k at.calls k (length left) (Err why) f) (kept_on at.kept (collecting_refused kind weights x)),
          )
        where
          err_same : {why why' : Refusal} → ◌≡◌ {A = Reply P W} (Err why) (Err why') → why ≡ why'
          err_same {why} e = cc e

          long : Asked (ArmsShort kind weights h k) (◌≡◌ {A = Reply P W} (Err why) (Err LongArm)) (Asked (ResultsShort kind weights h k) (◌≡◌ {A = Reply P W} (Err why) (Err LongResult)) ((row : Terms) × RowOfNode kind weights h k row × ◌≡◌ {A = Reply P W} (Err why) (Ok (number (length row))))) → NotShort kind weights h k why
          long (inr (n, is)) = inl (n, err_same is)
          long (inl (a, inr (n, is))) = inr (a, n, err_same is)
          long (inl (a, inl (b, (row, of, is)))) = absurd (cc)

  turned : (d d' : Diagram P W) (s s' : Terms) (r : Result (Unit {0}) RefusedAt) → InTurn kind weights d s r d' s' → CollectsAll kind weights d s r d' s'
  turned d d' s s' (Ok _) (c, current) h run roomy =
      let all : (records d).count ≡ made h = (holds h d s run roomy h d s run).count in
      let at = reached h d s run roomy (omega arith) (subst (λ n. CollectedTo kind weights d s n d' s') all c) in
      inr (at.through.short, (refl, leaves h d s run roomy (made h) at.calls d' s' (omega arith) at.so_far at.through.first at.kept))
  turned d d' s s' (Err at) (between, left, c, node, joined, x) h run roomy =
      let all = (holds h d s run roomy h d s run).count in
      let it = stopped h d s run roomy (omega (arith, node, all)) c joined x in
      inl (at.node, at.refusal, omega (arith, node, all), it.0, it.1, (refl, it.2))

  -- so it is after every run
  pub in_runs : (d d' : Diagram P W) (s s' : Terms) (r : Result (Unit {0}) RefusedAt) → CollectsInTurn kind weights d s r d' s' → CollectsAll kind weights d s r d' s'
  in_runs d d' s s' r x h run roomy = turned d d' s s' r (granted roomy x) h run roomy
