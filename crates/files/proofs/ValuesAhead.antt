-- Values read one after the other from the front of some bytes.
use Rattle.std.proofs.Common.{◌≡◌, ℕ, ◌<◌, List, [], ◌∷◌, ◌++◌, length, flat_map, ◌∙◌, sym, ap, arith}
use Rattle.std.proofs.lemmas.List.{append_assoc, append-nil}
use Rattle.std.proofs.lemmas.List.Concat.{flat_map-append}
use Rattle.files.specs.Contents.{Ahead}
use Rattle.files.specs.Analysing.{ManyAhead}
use Rattle.files.proofs.Bytes.{Once}

module _ {V : Type 0} (write : V → List ℕ) where
  -- one value more is read
  pub one_more : (vs : List V) (v : V) (bytes rest after : List ℕ) → bytes ≡ flat_map write vs ++ rest → rest ≡ write v ++ after → bytes ≡ flat_map write (vs ++ v ∷ []) ++ after
  one_more vs v bytes rest after so_far next =
      so_far ∙ ap (λ z. flat_map write vs ++ z) next ∙ sym (append_assoc (flat_map write vs) (write v) after)
      ∙ ap (λ z. (flat_map write vs ++ z) ++ after) (sym (append-nil (write v))) ∙ ap (λ z. z ++ after) (sym (flat_map-append write vs (v ∷ [])))

  module _ (once : Once write) where
    -- if more values are written than are read, one is written at the front of the rest
    still_ahead : (vs ws : List V) (xs ys : List ℕ) → length vs < length ws → flat_map write vs ++ xs ≡ flat_map write ws ++ ys → Ahead write xs
    still_ahead vs [] xs ys l e = absurd (omega (arith, l))
    still_ahead [] (w ∷ ws) xs ys l e = (w, flat_map write ws ++ ys, e ∙ append_assoc (write w) (flat_map write ws) ys)
    still_ahead (v ∷ vs) (w ∷ ws) xs ys l e =
        let moved = sym (append_assoc (write v) (flat_map write vs) xs) ∙ e ∙ append_assoc (write w) (flat_map write ws) ys in
        still_ahead vs ws xs ys (omega (arith, l)) (once v w (flat_map write vs ++ xs) (flat_map write ws ++ ys) moved).1

    -- so if the next is missing, so many are not there
    pub too_few : (vs : List V) (n : ℕ) (bytes rest : List ℕ) → bytes ≡ flat_map write vs ++ rest → length vs < n → ¬ Ahead write rest → ¬ ManyAhead write n bytes
    too_few vs n bytes rest so_far fewer missing (ws, others, all, e) = missing (still_ahead vs ws rest others (omega (arith, fewer, all)) (sym so_far ∙ e))
