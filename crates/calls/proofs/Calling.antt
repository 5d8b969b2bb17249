-- The text of an answer is that of the reply.
use Rattle.std.proofs.Common.{◌≡◌, ℕ, List, [], ◌∷◌, ◌++◌, Option, Some, None, Result, Ok, Err, IfOk, decimal, ap, sym, subst, ◌∙◌, inl, inr, arith, unwrap_or}
use Rattle.std.specs.Borrow.{Bor}
use Rattle.std.proofs.lemmas.Str.Pattern.{IsSplitOnceResult, split_parts}
use Rattle.kinds.specs.Named.{Parts}
use Rattle.kinds.specs.Words.{number}
use Rattle.kinds.specs.contracts.parts.PartsWeight.TheImpl.{ghosts as parts}
use Rattle.kinds.specs.declared.performance.Performance
use Rattle.terms.specs.declared.term.Term.{Term}
use Rattle.diagram.specs.declared.diagram.Diagram.{Diagram}
use Rattle.diagram.specs.declared.refusal.Refusal.{Refusal}
use Rattle.diagram.specs.Histories as histories
use Rattle.diagram.specs.Histories.{Call, Reply, one_term, one_weight, two_weights}
use Rattle.diagram.specs.Runs.{as_reply, Performs}
use Rattle.diagram.specs.Shown.{records}
use Rattle.calls.specs.declared.written.Written
use Rattle.calls.specs.Numbers.{WritesNumbers}
use Rattle.calls.specs.Played.{AnswerText, weights_answer_text, term_answer_text, name_of, numbers_of, reply_text, NameFirst, CallMade, CallMadeAs}

-- what follows from what an Ok says
pub after : {A E : Type 0} {p q : A → Type 0} (r : Result A E) → ((x : A) → p x → q x) → IfOk r p → IfOk r q
after (Ok x) f h = f x h
after (Err e) f h = tt

module _ {P : Type 0} (written : Written.Ghosts P) where
  pub number_answer : (r : Result ℕ Refusal) (text : List ℕ) → AnswerText (λ n. Some (decimal n)) r text → text ≡ reply_text written (as_reply histories.number r)
  number_answer (Ok n) text h = h
  number_answer (Err why) text h = h

  pub weight_answer : (r : Result Parts Refusal) (text : List ℕ) → AnswerText (λ w. Some (decimal (number w))) r text → text ≡ reply_text written (as_reply one_weight r)
  weight_answer (Ok w) text h = h
  weight_answer (Err why) text h = h

  pub term_answer : (r : Result (Term P Parts) Refusal) (text : List ℕ) → text ≡ term_answer_text written r → text ≡ reply_text written (as_reply one_term r)
  term_answer (Ok t) text h = h
  term_answer (Err why) text h = h

  pub weights_answer : (r : Result (Parts × Parts) Refusal) (text : List ℕ) → text ≡ weights_answer_text r → text ≡ reply_text written (as_reply (λ w. two_weights w.0 w.1) r)
  weights_answer (Ok x) text h = h
  weights_answer (Err why) text h = h

-- a text is cut at its first blank, if it has one
pub name_first : (text : List ℕ) (r : Option (Bor (List ℕ) × Bor (List ℕ))) (whole x : Bor (List ℕ) × Bor (List ℕ)) → IsSplitOnceResult 32 text r → x ≡ unwrap_or r whole → whole.0.now ≡ text → whole.1.now ≡ [] → NameFirst text x.0.now x.1.now
name_first text (Some cut) whole x is same all none = inl ((split_parts 32 text (Some cut) is (omega arith)).0 ∙ (λ i. (sym same i).0.now ++ (32 ∷ (sym same i).1.now)))
name_first text None whole x is same all none = inr (sym (ap (λ z. z.0.now) same ∙ all), ap (λ z. z.1.now) same ∙ none)

module _ {P : Type 0} (written : Written.Ghosts P) (kind : Performance.Ghosts P) where
  abbrev Terms : Type 0
  Terms = List (Term P Parts)

  -- a call that was performed, and answered so
  pub called : {X E : Type 0} (name numbers : List ℕ) (d : Diagram P Parts) (s : Terms) (d' : Diagram P Parts) (s' : Terms) (call : Call P Parts) (reply : Reply P Parts)
      (r : Result X E) (text : X → List ℕ) → name ≡ name_of written call → numbers ≡ numbers_of written call → Performs kind parts call (records d) s reply (records d') s' →
      IfOk r (λ x. text x ≡ reply_text written reply) → IfOk r (λ x. CallMade written kind name numbers d s (text x) d' s')
  called name numbers d s d' s' call reply (Ok x) text is_name are_numbers performs h = (call, reply, is_name, are_numbers, h, performs)
  called name numbers d s d' s' call reply (Err e) text is_name are_numbers performs h = tt

  -- what was called by name was called as the text asks
  pub asked_as : {X E : Type 0} (line name rest numbers : List ℕ) (d : Diagram P Parts) (s : Terms) (d' : Diagram P Parts) (s' : Terms) (r : Result X E) (text : X → List ℕ) →
      NameFirst line name rest → WritesNumbers rest numbers → IfOk r (λ x. CallMade written kind name numbers d s (text x) d' s') → IfOk r (λ x. CallMadeAs written kind line d s (text x) d' s')
  asked_as line name rest numbers d s d' s' (Ok x) text first are (call, reply, is_name, are_numbers, h, performs) =
      (call, reply, (rest, subst (λ z. NameFirst line z rest) is_name first, subst (WritesNumbers rest) are_numbers are), h, performs)
  asked_as line name rest numbers d s d' s' (Err e) text first are h = tt
