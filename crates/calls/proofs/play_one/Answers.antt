-- A sequence is cut at its first line's end, and the name before it tells the kind.
use Rattle.std.proofs.Common.{List, ℕ, ◌∷◌, ◌++◌, Some, None, ap, ◌∙◌, inl, inr, refl, arith}
use Rattle.std.proofs.lemmas.Str.Pattern.{split_parts}
use Rattle.calls.proofs.Calling.{after}
use Rattle.calls.proofs.play_one.Goals as goal

pub returns-in_default : goal.returns-in_default
returns-in_default c = inl (split_parts 10 c.args.sequence.now None c.in_default.ensures.cases (omega arith), refl)

pub returns-in-flow : goal.returns-in-flow
returns-in-flow c =
    let cut = split_parts 10 c.args.sequence.now (Some (c.in-Some.kind, c.in-Some.calls)) c.in-Some.ensures.cases (omega arith) in
    let text = cut.0 ∙ ap (λ (z : List ℕ). z ++ (10 ∷ c.in-Some.calls.now)) c.in-flow.is in
    after c.play.result (λ n played. inr (c.in-Some.calls.now, inl (text, played))) c.play.ensures

pub returns-in-first : goal.returns-in-first
returns-in-first c =
    let cut = split_parts 10 c.args.sequence.now (Some (c.in-Some.kind, c.in-Some.calls)) c.in-Some.ensures.cases (omega arith) in
    let text = cut.0 ∙ ap (λ (z : List ℕ). z ++ (10 ∷ c.in-Some.calls.now)) c.in-first.is in
    after c.play-in-first.result (λ n played. inr (c.in-Some.calls.now, inr (inl (text, played)))) c.play-in-first.ensures

pub returns-in-delay : goal.returns-in-delay
returns-in-delay c =
    let cut = split_parts 10 c.args.sequence.now (Some (c.in-Some.kind, c.in-Some.calls)) c.in-Some.ensures.cases (omega arith) in
    let text = cut.0 ∙ ap (λ (z : List ℕ). z ++ (10 ∷ c.in-Some.calls.now)) c.in-delay.is in
    after c.play-in-delay.result (λ n played. inr (c.in-Some.calls.now, inr (inr (inl (text, played))))) c.play-in-delay.ensures

pub returns-in-text : goal.returns-in-text
returns-in-text c =
    let cut = split_parts 10 c.args.sequence.now (Some (c.in-Some.kind, c.in-Some.calls)) c.in-Some.ensures.cases (omega arith) in
    let text = cut.0 ∙ ap (λ (z : List ℕ). z ++ (10 ∷ c.in-Some.calls.now)) c.in-text.is in
    after c.play-in-text.result (λ n played. inr (c.in-Some.calls.now, inr (inr (inr (inl (text, played)))))) c.play-in-text.ensures

pub returns-in-grade : goal.returns-in-grade
returns-in-grade c =
    let cut = split_parts 10 c.args.sequence.now (Some (c.in-Some.kind, c.in-Some.calls)) c.in-Some.ensures.cases (omega arith) in
    let text = cut.0 ∙ ap (λ (z : List ℕ). z ++ (10 ∷ c.in-Some.calls.now)) c.in-grade.is in
    after c.play-in-grade.result (λ n played. inr (c.in-Some.calls.now, inr (inr (inr (inr (text, played)))))) c.play-in-grade.ensures
