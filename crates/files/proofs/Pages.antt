-- Text after text on a page, the figures in it, and what becomes of a page in the output.
use Rattle.std.proofs.Common.{◌≡◌, ℕ, ◌+◌, ◌^◌, ◌/◌, ◌%◌, ◌<◌, ◌≤◌, List, [], ◌∷◌, ◌++◌, length, Option, Some, None, Ok, ok_or, inl, inr, ap, sym, refl, ◌∙◌, append_assoc, append-nil, length-append, arith}
use Rattle.std.proofs.lemmas.Fmt.{decimal_digit, decimal_step, length-decimal-le}
use Rattle.files.specs.declared.page.Page.{Page}
use Rattle.files.specs.declared.fault.Fault.TheVariants.{Room}
use Rattle.files.specs.Reports.{figure, Put}
use Rattle.files.specs.Pages.{written, Wrote, Copied}

pub nothing : (p : Page) → Wrote p [] p
nothing p = record { text = sym (append-nil (written p)); len = omega arith }

infixl 10 ◌and_then◌
pub ◌and_then◌ : {p q r : Page} {a b : List ℕ} → Wrote p a q → Wrote q b r → Wrote p (a ++ b) r
◌and_then◌ {p} {q} {r} {a} {b} h k = record { text = k.text ∙ ap (λ l. l ++ b) h.text ∙ append_assoc (written p) a b; len = omega (arith, h.len, k.len, length-append a b) }

pub same : {p q : Page} {a b : List ℕ} → a ≡ b → Wrote p a q → Wrote p b q
same e h = rw (← e) h

-- a number of one digit
pub one_digit : (n : ℕ) → n < 10 → figure n ≡ (48 + n % 10) ∷ []
one_digit n few = decimal_digit n few ∙ ap (λ d. (48 + d) ∷ []) (let e : n ≡ n % 10 = omega arith in e)

-- a number of more: the digits before the last, and the last
pub last_digit : (n : ℕ) → 10 ≤ n → n < 2 ^ 32 → figure n ≡ figure (n / 10) ++ (48 + n % 10) ∷ []
last_digit n more small = decimal_step n more (omega arith)

pub one_longer : (n : ℕ) → 10 ≤ n → n < 2 ^ 32 → length (figure n) ≡ length (figure (n / 10)) + 1
one_longer n more small = ap length (last_digit n more small) ∙ length-append (figure (n / 10)) _

pub ten_digits : (n : ℕ) → n < 2 ^ 32 → length (figure n) ≤ 10
ten_digits n small = length-decimal-le 10 n (omega arith) (omega arith) (omega arith)

-- a page first in the output is a report put there, and one without room is refused
pub copied_put : (text out : List ℕ) (n : Option ℕ) (out' : List ℕ) → Copied text out n out' → Put text out (ok_or n Room) out'
copied_put text out (Some n) out' (all, roomy, first) = inl (roomy, (ap Ok all, first))
copied_put text out None out' (short, stays) = inr (λ roomy. omega arith, record { answer = refl; output = stays })
