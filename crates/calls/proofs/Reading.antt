-- One number, and one state, at a time.
use Rattle.std.proofs.Common.{◌≡◌, ℕ, ◌-◌, ◌<◌, ◌≤◌, List, [], ◌∷◌, ◌++◌, length, take, drop, get_or, ap, sym, subst, ◌∙◌, refl, append_assoc, append-nil, arith}
use Rattle.std.specs.List.{flat_map}
use Rattle.std.proofs.lemmas.List.{take_all}
use Rattle.std.proofs.lemmas.Grind.{flat_map-append}
use Rattle.kinds.specs.Named.{Parts}
use Rattle.kinds.specs.Words.{number}
use Rattle.terms.specs.declared.term.Term.{Term}
use Rattle.calls.specs.declared.written.Written
use Rattle.calls.specs.Numbers.{FirstWord, WritesNumber, WritesNumbers}
use Rattle.calls.specs.Played.{state_numbers}

-- what is left to read writes what comes after what was found
abbrev pub LeftAfter : List ℕ → List ℕ → List ℕ → Type 0
LeftAfter text rest found = (ns : List ℕ) → WritesNumbers rest ns → WritesNumbers text (found ++ ns)

pub none_yet : (text rest found : List ℕ) → found ≡ [] → rest ≡ text → LeftAfter text rest found
none_yet text rest found none is ns h = subst (λ l. WritesNumbers text (l ++ ns)) (sym none) (subst (λ z. WritesNumbers z ns) is h)

pub one_more : (text before rest found after word : List ℕ) (n : ℕ) → LeftAfter text before found → FirstWord before word rest → WritesNumber word n → after ≡ found ++ (n ∷ []) → LeftAfter text rest after
one_more text before rest found after word n left first writes is ns h =
    subst (WritesNumbers text) (sym (ap (λ l. l ++ ns) is ∙ append_assoc found (n ∷ []) ns)) (left (n ∷ ns) (word, rest, first, writes, h))

pub all_found : (text rest found : List ℕ) → LeftAfter text rest found → WritesNumbers rest [] → WritesNumbers text found
all_found text rest found left none = subst (WritesNumbers text) (append-nil found) (left [] none)

pub three : (ns : List ℕ) → 3 ≤ length ns → length ns < 4 → ns ≡ get_or ns 0 0 ∷ get_or ns 1 0 ∷ get_or ns 2 0 ∷ []
three [] h k = absurd (omega (arith, h))
three (a ∷ []) h k = absurd (omega (arith, h))
three (a ∷ b ∷ []) h k = absurd (omega (arith, h))
three (a ∷ b ∷ c ∷ []) h k = refl
three (a ∷ b ∷ c ∷ d ∷ ns) h k = absurd (omega (arith, k))

module _ {P : Type 0} (written : Written.Ghosts P) where
  -- three numbers more are a state
  pub one_state : (numbers before rest three_numbers : List ℕ) (found after : List (Term P Parts)) (t : Term P Parts) →
      flat_map (state_numbers written) found ++ before ≡ numbers → before ≡ three_numbers ++ rest → 3 ≤ length three_numbers → length three_numbers < 4 →
      written.words t.performance ≡ (get_or three_numbers 0 0, get_or three_numbers 1 0) → number t.weight ≡ get_or three_numbers 2 0 → after ≡ found ++ (t ∷ []) →
      flat_map (state_numbers written) after ++ rest ≡ numbers
  one_state numbers before rest ns found after t so cut long short words weight is =
      let state : state_numbers written t ≡ ns = (λ i. (words i).0 ∷ (words i).1 ∷ weight i ∷ []) ∙ sym (three ns long short) in
      let f = state_numbers written in
      ap (λ l. flat_map f l ++ rest) is ∙ ap (λ l. l ++ rest) (flat_map-append f found (t ∷ [])) ∙ append_assoc (flat_map f found) (f t) rest
      ∙ ap (λ l. flat_map f found ++ (l ++ rest)) state ∙ ap (λ l. flat_map f found ++ l) (sym cut) ∙ so

pub one : (ns : List ℕ) → 1 ≤ length ns → length ns < 2 → ns ≡ get_or ns 0 0 ∷ []
one [] h k = absurd (omega (arith, h))
one (a ∷ []) h k = refl
one (a ∷ b ∷ ns) h k = absurd (omega (arith, k))

pub two : (ns : List ℕ) → 2 ≤ length ns → length ns < 3 → ns ≡ get_or ns 0 0 ∷ get_or ns 1 0 ∷ []
two [] h k = absurd (omega (arith, h))
two (a ∷ []) h k = absurd (omega (arith, h))
two (a ∷ b ∷ []) h k = refl
two (a ∷ b ∷ c ∷ ns) h k = absurd (omega (arith, k))

pub five : (ns : List ℕ) → 5 ≤ length ns → length ns < 6 → ns ≡ get_or ns 0 0 ∷ get_or ns 1 0 ∷ get_or ns 2 0 ∷ get_or ns 3 0 ∷ get_or ns 4 0 ∷ []
five [] h k = absurd (omega (arith, h))
five (a ∷ []) h k = absurd (omega (arith, h))
five (a ∷ b ∷ []) h k = absurd (omega (arith, h))
five (a ∷ b ∷ c ∷ []) h k = absurd (omega (arith, h))
five (a ∷ b ∷ c ∷ d ∷ []) h k = absurd (omega (arith, h))
five (a ∷ b ∷ c ∷ d ∷ e ∷ []) h k = refl
five (a ∷ b ∷ c ∷ d ∷ e ∷ f ∷ ns) h k = absurd (omega (arith, k))

-- nothing is left
pub no_more : (found rest all : List ℕ) → found ++ rest ≡ all → length rest ≡ 0 → found ≡ all
no_more found [] all is none = sym (append-nil found) ∙ is
no_more found (n ∷ rest) all is none = absurd (omega (arith, none))

pub first_and_rest : (ns : List ℕ) → 1 ≤ length ns → ns ≡ get_or ns 0 0 ∷ take (length ns - 1) (drop 1 ns)
first_and_rest [] h = absurd (omega (arith, h))
first_and_rest (n ∷ ns) h = ap (λ l. n ∷ l) (sym (take_all (length (n ∷ ns) - 1) ns (omega arith)))
