-- Answers to questions, from the tests that the code makes.
use Rattle.std.proofs.Common.{◌≡◌, ◌↔◌, ℕ, ◌<◌, ◌≤◌, Bool, leb, ltb, inl, inr, IsTrue, IsFalse, List, Result, Ok, Err, IsErrAnd, refl, ap, ◌∙◌, arith}
use Rattle.std.proofs.lemmas.Bool.{leb-true, leb-false, ltb-true, ltb-false, iff_false}
use Rattle.diagram.specs.declared.refusal.Refusal.{Refusal}
use Rattle.diagram.specs.declared.table.Table.{Table}
use Rattle.diagram.specs.Refusals.{Asked}
use Rattle.diagram.specs.Calls.{Refused}

module _ {question refused rest : Type 0} where
  pub yes : question → rest → Asked question refused rest
  yes q r = inl (q, r)

  pub no : (¬ question) → refused → Asked question refused rest
  no n r = inr (n, r)

pub at_least : {m n : ℕ} → IsTrue (leb m n) → m ≤ n
at_least {m} {n} = leb-true m n

pub below : {m n : ℕ} → IsTrue (ltb m n) → m < n
below {m} {n} = ltb-true m n

pub not_at_least : {m n : ℕ} → IsFalse (leb m n) → ¬ (m ≤ n)
not_at_least {m} {n} few enough = omega (arith, leb-false m n few, enough)

pub not_below : {m n : ℕ} → IsFalse (ltb m n) → ¬ (m < n)
not_below {m} {n} high low = omega (arith, ltb-false m n high, low)

pub so : {b : Bool} {q : Type 0} → (IsTrue b ↔ q) → IsTrue b → q
so h = h.0

pub not_so : {b : Bool} {q : Type 0} → (IsTrue b ↔ q) → IsFalse b → ¬ q
not_so = iff_false

pub err_is : {A : Type 0} {r : Result A Refusal} {given why : Refusal} → IsErrAnd r (λ e. e ≡ given) → given ≡ why → r ≡ Err why
err_is {r = Err e} same told = ap Err (same ∙ told)
err_is {r = Ok a} same told = absurd same

-- what a refusal leaves, where nothing is written
pub refused : {T A : Type 0} {t : Table} {s : List T} {r : Result A Refusal} {given why : Refusal} → IsErrAnd r (λ e. e ≡ given) → given ≡ why → Refused t s r t s why
refused {r = Err e} same told = record { answer = ap Err (same ∙ told); records = refl; store = refl }
refused {r = Ok a} same told = absurd same

-- what the answer to the questions of a node hands on
module _ {roomy node current U : Type 0} {r : Result U Refusal} {u : U} {a b d : Refusal} (asked : Asked roomy (r ≡ Err a) (Asked node (r ≡ Err b) (Asked current (r ≡ Err d) (r ≡ Ok u)))) where
  pub answered : {w : U} → r ≡ Ok w → roomy × node × current
  answered told = elim asked [
    | inl (q, inl (n, inl (s, e))) ↦ (q, n, s)
    | inl (q, inl (n, inr (s, e))) ↦ absurd (cc)
    | inl (q, inr (n, e)) ↦ absurd (cc)
    | inr (q, e) ↦ absurd (cc)
  ]

  pub goes_on : {w : U} {no_room no_node stale rest : Type 0} → r ≡ Ok w → rest → Asked roomy no_room (Asked node no_node (Asked current stale rest))
  goes_on told rest = let q = answered told in yes q.0 (yes q.1 (yes q.2 rest))

  pub handed_on : {e : Refusal} {A rest : Type 0} {r' : Result A Refusal} → r ≡ Err e → r' ≡ Err e → Asked roomy (r' ≡ Err a) (Asked node (r' ≡ Err b) (Asked current (r' ≡ Err d) rest))
  handed_on told same = elim asked [
    | inl (q, inl (n, inl (s, e))) ↦ absurd (cc)
    | inl (q, inl (n, inr (s, e))) ↦ yes q (yes n (no s (cc)))
    | inl (q, inr (n, e)) ↦ yes q (no n (cc))
    | inr (q, e) ↦ no q (cc)
  ]
