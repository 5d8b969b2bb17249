-- What `==` calls the same is the same: terms, rows, needs and answers.
use Rattle.std.proofs.Common.{◌≡◌, ◌≤◌, Bool, true, false, ◌&&◌, ◌==◌, List, [], ◌∷◌, sym, refl}
use Rattle.std.proofs.Math.Bridge.{le_prop}
use Rattle.std.proofs.lemmas.Bool.{true≢false, eqb-true}
use Rattle.std.specs.Cmp.Lexicographic.{pointwise}
use mathlib.Core.HLevel.{is_prop→PathP}
use Rattle.kinds.specs.Named.{Flow, Parts}
use Rattle.kinds.specs.declared.word.Word.{Word}
use Rattle.kinds.specs.WordLaws.{word_same}
use Rattle.terms.specs.declared.term.Term.{Term}
use Rattle.diagram.specs.declared.limits.TheConstants.{TERMS}
use Rattle.worked.specs.declared.answers.RowAndNeeds.{RowAndNeeds}
use Rattle.worked.specs.declared.answers.CopiedRow.{CopiedRow}
use Rattle.worked.specs.declared.lines.Need.{Need}
use Rattle.worked.specs.contracts.answers.RowAndNeedsPartialEq.TheImpl as answers_eq
use Rattle.worked.specs.contracts.answers.CopiedRowPartialEq.TheImpl as row_eq
use Rattle.worked.specs.contracts.lines.NeedPartialEq.TheImpl as need_eq

-- what `==` asks of two terms
abbrev flow_term_eq : Term Flow Parts → Term Flow Parts → Bool
flow_term_eq a b = (a.performance.bits == b.performance.bits && true) && (a.weight.bits == b.weight.bits && true)

-- both tests say yes
each : (a b : Bool) → (a && b) ≡ true → (a ≡ true) × (b ≡ true)
each true true e = (refl, refl)
each true false e = absurd (true≢false (sym e))
each false b e = absurd (true≢false (sym e))

pointwise_same : {X : Type 0} {eq : X → X → Bool} → ((x y : X) → eq x y ≡ true → x ≡ y) → (xs ys : List X) → pointwise eq xs ys ≡ true → xs ≡ ys
pointwise_same same [] [] e = refl
pointwise_same same [] (y ∷ ys) e = absurd (true≢false (sym e))
pointwise_same same (x ∷ xs) [] e = absurd (true≢false (sym e))
pointwise_same {eq = eq} same (x ∷ xs) (y ∷ ys) e =
    let both = each (eq x y) (pointwise eq xs ys) e in
    let first = same x y both.0 in
    let rest = pointwise_same same xs ys both.1 in
    λ i. first i ∷ rest i

word_is : {Of : Type 0} (a b : Word Of) → (a.bits == b.bits && true) ≡ true → a ≡ b
word_is a b e = word_same a b (eqb-true a.bits b.bits (each (a.bits == b.bits) true e).0)

term_same : (a b : Term Flow Parts) → flow_term_eq a b ≡ true → a ≡ b
term_same a b e =
    let one = each (a.performance.bits == b.performance.bits && true) _ e in
    let performance = word_is a.performance b.performance one.0 in
    let weight = word_is a.weight b.weight one.1 in
    λ i. record { performance = performance i; weight = weight i }

need_same : (a b : Need) → need_eq.ghosts.eq a b ≡ true → a ≡ b
need_same a b e =
    let one = each (a.demand.bits == b.demand.bits && true) _ e in
    let two = each (a.met.bits == b.met.bits && true) _ one.1 in
    let demand = word_is a.demand b.demand one.0 in
    let met = word_is a.met b.met two.0 in
    let all = word_is a.all b.all two.1 in
    λ i. record { demand = demand i; met = met i; all = all i }

row_same : (a b : CopiedRow) → row_eq.ghosts.eq a b ≡ true → a ≡ b
row_same a b e =
    let one = each (pointwise flow_term_eq a.terms b.terms) _ e in
    let terms = pointwise_same term_same a.terms b.terms one.0 in
    let len = eqb-true a.len b.len one.1 in
    λ i. record { terms = terms i; len = len i; fits = is_prop→PathP (λ i. len i ≤ TERMS) (λ i. le_prop {n = len i} {m = TERMS}) a.fits b.fits i }

pub answers_same : (a b : RowAndNeeds) → answers_eq.ghosts.eq a b ≡ true → a ≡ b
answers_same a b e =
    let one = each (row_eq.ghosts.eq a.row b.row) _ e in
    let two = each (need_eq.ghosts.eq a.three b.three) _ one.1 in
    let three = each (need_eq.ghosts.eq a.four b.four) _ two.1 in
    let row = row_same a.row b.row one.0 in
    let first = need_same a.three b.three two.0 in
    let second = need_same a.four b.four three.0 in
    let third = need_same a.five b.five three.1 in
    λ i. record { row = row i; three = first i; four = second i; five = third i }
