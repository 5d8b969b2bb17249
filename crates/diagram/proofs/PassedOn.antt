-- Answers that are passed on by `?`, as they are or with each of their errors turned into another.
use Rattle.std.proofs.Common.{◌≡◌, Result, Ok, Err, is_ok, MatchResult, IfErr, IsErrAnd, sym, ◌∙◌, ap, refl, subst}
use Rattle.std.proofs.lemmas.Bool.{true≢false}

module _ {A B : Type 0} where
  pub ok_not_err : {a : A} {e : B} → Ok a ≡ Err e → ⊥
  ok_not_err e = true≢false (ap is_ok e)

  pub ok_same : {a b : A} → ◌≡◌ {A = Result A B} (Ok a) (Ok b) → a ≡ b
  ok_same {a = a} e = cc e

  pub err_same : {e f : B} → ◌≡◌ {A = Result A B} (Err e) (Err f) → e ≡ f
  err_same {e = e} p = cc p

module _ {A E F : Type 0} where
  pub passed : {r : Result A E} {q : Result A F} {a : A} (Turned : E → F → Type 0) → MatchResult r (λ a. q ≡ Ok a) (λ e. IsErrAnd q (Turned e)) → q ≡ Ok a → r ≡ Ok a
  passed {r = Ok b} Turned x e = ap Ok (ok_same (sym x ∙ e))
  passed {r = Err b} {q = Ok c} Turned x e = absurd x
  passed {r = Err b} {q = Err f} Turned x e = absurd (ok_not_err (sym e))

  pub turned : {r : Result A E} {q : Result A F} {f : F} (Turned : E → F → Type 0) → MatchResult r (λ a. q ≡ Ok a) (λ e. IsErrAnd q (Turned e)) → q ≡ Err f → (e : E) × (r ≡ Err e) × Turned e f
  turned {r = Ok b} Turned x e = absurd (ok_not_err (sym x ∙ e))
  turned {r = Err b} {q = Ok c} Turned x e = absurd x
  turned {r = Err b} {q = Err g} Turned x e = (b, refl, subst (Turned b) (err_same e) x)

module _ {A E : Type 0} where
  pub passed_on : {r : Result A E} {why : E} → IsErrAnd r (λ e. e ≡ why) → r ≡ Err why
  passed_on {r = Ok a} e = absurd e
  passed_on {r = Err f} e = ap Err e

  -- what is so of an error is so of what is passed on
  pub so_passed_on : (P : E → Type 0) (r : Result A E) (why : E) → IsErrAnd r (λ e. e ≡ why) → P why → IfErr r P
  so_passed_on P (Ok a) why same x = absurd same
  so_passed_on P (Err e) why same x = subst P (sym same) x
