-- What a collecting answers, from what was worked out.
use Rattle.std.proofs.Common.{◌≡◌, ℕ, ◌≤◌, List, length, take, drop, Option, Some, None, Result, Ok, Err, IsErrAnd, sym, ◌∙◌, ap, refl, subst, arith, inl, inr, is_some, ok_or, ◌*◌, ◌+◌, ◌-◌}
use Rattle.std.proofs.lemmas.Bool.{true≢false}
use Rattle.std.proofs.lemmas.List.{length-take}
use Rattle.kinds.specs.declared.performance.Performance
use Rattle.kinds.specs.declared.weight.Weight
use Rattle.terms.specs.declared.term.Term.{Term}
use Rattle.diagram.specs.declared.limits.TheConstants.{TERMS}
use Rattle.diagram.specs.declared.refusal.Refusal.{Refusal}
use Rattle.diagram.specs.declared.refusal.Refusal.TheVariants.{LongResult}
use Rattle.diagram.specs.declared.table.Table.{Table}
use Rattle.diagram.specs.Changes.{NodeCollected}
use Rattle.diagram.specs.Store.{places_of, StandsAt, row_at, RowPut}
use Rattle.diagram.specs.Results.{joining_of, RowOfDrawing, ResultsFit}
use Rattle.diagram.specs.WorkingOut.{NodeWorkedOut}
use Rattle.diagram.specs.Calls.{TooLong}
use Rattle.diagram.specs.Refusals.{Asked}
use Rattle.diagram.proofs.Asking.{err_is}
use Rattle.diagram.proofs.PassedOn.{err_same}

pub width : (k : ℕ) → TERMS * k + TERMS - TERMS * k ≡ TERMS
width k = omega arith

-- a row that stands at a node has room there
pub stands_short : {T : Type 0} (k : ℕ) (row store : List T) → StandsAt k row store → length row ≤ TERMS
stands_short k row store e =
    let places = drop (TERMS * k) store in
    let cut : length (places_of k store) ≤ TERMS = omega (arith, ap (λ n. length (take n places)) (width k), length-take TERMS places) in
    omega (arith, ap length e, length-take (length row) (places_of k store), cut)

pub none_or_some : {A : Type 0} {n : Option A} {a : A} → n ≡ None → n ≡ Some a → ⊥
none_or_some p q = true≢false (ap is_some (sym q ∙ p))

abbrev TheErr : Refusal → Result ℕ Refusal
TheErr e = Err e

module _ {P W : Type 0} (kind : Performance.Ghosts P) (weights : Weight.Ghosts W) (t : Table) (k : ℕ) (before after : List (Term P W)) where
  abbrev Told : Result ℕ Refusal → Table → Type 0
  Told r t' =
      Asked (ResultsFit kind weights (row_at t before) (joining_of t k)) (TooLong t before r t' after)
      ((row : List (Term P W)) × RowOfDrawing kind weights (row_at t before) (joining_of t k) row × (r ≡ Ok (length row)) × NodeCollected t t' k (length row) × RowPut k row before after)

  pub too_long : {n : Option ℕ} {r : Result ℕ Refusal} → NodeWorkedOut kind weights t k before after n → n ≡ None → {given : Refusal} → IsErrAnd r (λ e. e ≡ given) → TheErr given ≡ ok_or n LongResult → Told r t
  too_long worked is_none is_err told =
      let x = subst (NodeWorkedOut kind weights t k before after) is_none worked in
      inr (x.0, record { answer = err_is is_err (err_same (told ∙ ap (λ o. ok_or o LongResult) is_none)); records = refl; store = x.1 })

  pub small : {n : Option ℕ} {size : ℕ} → NodeWorkedOut kind weights t k before after n → n ≡ Some size → size ≤ TERMS
  small worked there =
      let made = (subst (NodeWorkedOut kind weights t k before after) there worked).1 in
      omega (arith, made.2, stands_short k made.0 after made.3.stands)

  pub collected : {n : Option ℕ} {size : ℕ} {t' : Table} → NodeWorkedOut kind weights t k before after n → n ≡ Some size → NodeCollected t t' k size → Told (Ok size) t'
  collected {t' = t'} worked there c =
      let x = subst (NodeWorkedOut kind weights t k before after) there worked in
      let made = x.1 in
      inl (x.0, (made.0, made.1, ap Ok made.2, subst (NodeCollected t t' k) made.2 c, made.3))
