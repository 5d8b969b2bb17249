use Rattle.std.proofs.Common.{◌≡◌, ℕ, List, ◌++◌, IfOk, subst, codes, string_bytes, Some, ap, sym, ◌∙◌, refl, inl, inr, length-take, arith}
use Rattle.std.specs.Borrow.{Bor}
use Rattle.std.proofs.lemmas.Str.Pattern.{split_text_parts}
use Rattle.calls.proofs.Playing.{Lent, stripped, line_played}
use Rattle.calls.proofs.play.play_line.Goals as goal
use Rattle.calls.proofs.play.play_line.Goals.{in-Some-strip_prefix, in-None}

pub returns : goal.returns
returns g c =
    let cut = split_text_parts (codes " = ") c.args.line.now (Some (c.in-Some.asked, c.in-Some.wanted)) c.in-Some.ensures.cases in
    let lent : Lent c.in-Some.asked.now c.match-strip_prefix.len.0.now c.match-strip_prefix.len.1 = elim c.match-strip_prefix.branch [
      | in-Some-strip_prefix w ↦
          let rest = w.in-Some-strip_prefix.asked.now in
          inl (
            stripped (codes "short ") c.in-Some.asked.now rest w.in-Some-strip_prefix.ensures.cases ∙ ap (λ (x : Bor (List ℕ) × ℕ). codes "short " ++ x.0.now) (sym w.len-is),
            ap (λ (x : Bor (List ℕ) × ℕ). x.1) w.len-is,
          )
      | in-None w ↦ inr (ap (λ (x : Bor (List ℕ) × ℕ). x.0.now) w.len-is, ap (λ (x : Bor (List ℕ) × ℕ). x.1) w.len-is)
    ] in
    line_played g.P.Written g.P.Performance c.args.line.now c.in-Some.asked.now c.in-Some.wanted.now c.match-strip_prefix.len.0.now (string_bytes c.in_ok-said.said) c.match-strip_prefix.len.1
    c.args.diagram.now c.call.new.diagram c.args.store.now c.call.new.store _ c.compare_answer.result cut lent c.if-store-len.false c.in_ok-said.ensures (let long = simp length-take at c.call.auto.store in omega (arith, long, c.if-store-len.false)) refl
    (subst (λ (z : List ℕ). IfOk c.compare_answer.result (λ x. z ≡ c.in-Some.wanted.now)) c.as_str.ensures.value c.compare_answer.ensures)
