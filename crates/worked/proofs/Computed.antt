-- Rows found by computing.
use Rattle.std.proofs.Common.{◌≡◌, ℕ, List, [], ◌∷◌, refl, ap, ◌∙◌, subst}
use mathlib.Core.List.Permᴰ
use Rattle.kinds.specs.Named.{Flow, Parts}
use Rattle.kinds.specs.contracts.flow.FlowPerformance.TheImpl as flow_kind
use Rattle.kinds.specs.contracts.parts.PartsWeight.TheImpl as parts_weight
use Rattle.kinds.proofs.FlowLaws.{flow_laws}
use Rattle.kinds.proofs.PartsLaws.{parts_laws}
use Rattle.kinds.specs.WordLaws.{word_same}
use Rattle.terms.specs.declared.term.Term.{Term}
use Rattle.terms.proofs.Canonical.{canon, canon_row}
use Rattle.terms.specs.declared.term.Way.TheVariants.{Series, Parallel}
use Rattle.terms.specs.Rows.{weight_at}
use Rattle.terms.specs.Combinations.{ordered}
use Rattle.terms.specs.Drawings.{part, joined, one, more}
use Rattle.terms.specs.Readings.{reading, ReadSame}
use Rattle.terms.proofs.Equivalence.{equal_distributions, same_itself, same_trans}
use Rattle.terms.proofs.Redrawing.{in_any_order, replaced}
use Rattle.worked.specs.Examples.{HasRow, states}
use Rattle.worked.specs.Plants.{plant_drawn, plant_redrawn}

-- the lists show the same numbers
abbrev pub Alike : List (Term Flow Parts) → List (Term Flow Parts) → Type 0
Alike [] [] = Unit {0}
Alike [] (y ∷ ys) = ⊥
Alike (x ∷ xs) [] = ⊥
Alike (x ∷ xs) (y ∷ ys) = (x.performance.bits ≡ y.performance.bits) × (x.weight.bits ≡ y.weight.bits) × Alike xs ys

alike_same : (xs ys : List (Term Flow Parts)) → Alike xs ys → xs ≡ ys
alike_same [] [] h = refl
alike_same [] (y ∷ ys) h = absurd h
alike_same (x ∷ xs) [] h = absurd h
alike_same (x ∷ xs) (y ∷ ys) h =
    let p = word_same x.performance y.performance h.0 in
    let w = word_same x.weight y.weight h.1 in
    ap (λ z. z ∷ xs) (ap (λ z. record { performance = z; weight = x.weight }) p ∙ ap (λ z. record { performance = y.performance; weight = z }) w)
    ∙ ap (λ zs. y ∷ zs) (alike_same xs ys h.2)

pub row_by_computing : (ts r : List (Term Flow Parts)) → Alike (canon flow_kind.ghosts parts_weight.ghosts ts) r → HasRow ts r
row_by_computing ts r h = subst (HasRow ts) (alike_same _ r h) (canon_row flow_laws parts_laws ts)

-- the numbers of a list, one after the other
abbrev numbers : List (Term Flow Parts) → List ℕ
numbers [] = []
numbers (t ∷ ts) = t.performance.bits ∷ t.weight.bits ∷ numbers ts

numbers_same : (xs ys : List (Term Flow Parts)) → numbers xs ≡ numbers ys → xs ≡ ys
numbers_same [] [] h = refl
numbers_same [] (y ∷ ys) h = let none : ⊥ = cc in absurd none
numbers_same (x ∷ xs) [] h = let none : ⊥ = cc in absurd none
numbers_same (x ∷ xs) (y ∷ ys) h =
    let p : x.performance.bits ≡ y.performance.bits = cc in
    let w : x.weight.bits ≡ y.weight.bits = cc in
    let rest : numbers xs ≡ numbers ys = cc in
    let same : x ≡ y = λ i. record { performance = word_same x.performance y.performance p i; weight = word_same x.weight y.weight w i } in
    λ i. same i ∷ numbers_same xs ys rest i

-- a long row, by its numbers
pub row_by_numbers : (ts r : List (Term Flow Parts)) → numbers (canon flow_kind.ghosts parts_weight.ghosts ts) ≡ numbers r → HasRow ts r
row_by_numbers ts r h = subst (HasRow ts) (numbers_same _ r h) (canon_row flow_laws parts_laws ts)

-- the pumps exchanged, then what stands in series exchanged
pub redrawn_same : ReadSame flow_kind.ghosts parts_weight.ghosts states plant_drawn states plant_redrawn
redrawn_same =
    let equality = equal_distributions flow_kind.ghosts parts_weight.ghosts in
    let counts = ordered flow_kind.ghosts in
    let at = λ (n : ℕ). weight_at flow_kind.ghosts parts_weight.ghosts (states n) in
    let pumps = joined Parallel (more (one (part 0)) (part 1)) in
    let exchanged = joined Parallel (more (one (part 1)) (part 0)) in
    same_trans equality counts (reading at plant_drawn) (reading at (joined Series (more (one (part 2)) pumps))) (reading at plant_redrawn)
    (in_any_order equality counts at Series refl (more (one pumps) (part 2)) (more (one (part 2)) pumps) (Permᴰ.swap refl refl))
    (replaced equality counts at at Series (one (part 2)) (one (part 2)) pumps exchanged
    (same_itself equality counts (reading at (joined Series (one (part 2)))))
    (in_any_order equality counts at Parallel refl (more (one (part 0)) (part 1)) (more (one (part 1)) (part 0)) (Permᴰ.swap refl refl)))
