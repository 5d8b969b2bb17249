-- The text of a row, one term more.
use Rattle.std.proofs.Common.{◌≡◌, ℕ, ◌+◌, ◌<◌, List, [], ◌∷◌, ◌++◌, length, get_or, take, sym, refl, ap, ◌∙◌, append_assoc, append-nil}
use Rattle.std.proofs.lemmas.List.{take_more}
use Rattle.kinds.specs.Named.{Flow, Parts}
use Rattle.terms.specs.declared.term.Term.{Term}
use Rattle.worked.specs.Lines.{term_text, row_text}

row_text_append : (ts us : List (Term Flow Parts)) → row_text (ts ++ us) ≡ row_text ts ++ row_text us
row_text_append [] us = refl
row_text_append (t ∷ ts) us =
    let text = term_text t in
    ap (λ z. text ++ z) (row_text_append ts us) ∙ sym (append_assoc text (row_text ts) (row_text us))

pub row_text_more : (name : List ℕ) (row : List (Term Flow Parts)) (i : ℕ) (t : Term Flow Parts) → i < length row → t ≡ get_or row i t → name ++ row_text (take (i + 1) row) ≡ (name ++ row_text (take i row)) ++ term_text t
row_text_more name row i t h e =
    let text = term_text t in
    ap (λ ts. name ++ row_text ts) (take_more row i t h ∙ ap (λ z. take i row ++ z ∷ []) (sym e))
    ∙ ap (λ z. name ++ z) (row_text_append (take i row) (t ∷ []) ∙ ap (λ z. row_text (take i row) ++ z) (append-nil text))
    ∙ sym (append_assoc name (row_text (take i row)) text)
