-- What f gives for each item of a list, one after the other.
use Rattle.std.proofs.Common.{◌≡◌, ℕ, ◌+◌, ◌<◌, List, [], ◌∷◌, ◌++◌, length, get_or, take, sym, refl, ap, ◌∙◌, append_assoc, append-nil}
use Rattle.std.proofs.lemmas.List.{take_more}
use Rattle.terms.specs.Combinations.{each}

pub each_append : {A B : Type 0} (xs ys : List A) (f : A → List B) → each (xs ++ ys) f ≡ each xs f ++ each ys f
each_append [] ys f = refl
each_append (x ∷ xs) ys f = ap (λ z. f x ++ z) (each_append xs ys f) ∙ sym (append_assoc (f x) (each xs f) (each ys f))

-- one item more
pub each_next : {A B : Type 0} (xs : List A) (f : A → List B) (i : ℕ) (x : A) → i < length xs → x ≡ get_or xs i x → each (take (i + 1) xs) f ≡ each (take i xs) f ++ f x
each_next xs f i x within read =
    ap (λ z. each z f) (take_more xs i x within ∙ ap (λ z. take i xs ++ z ∷ []) (sym read))
    ∙ each_append (take i xs) (x ∷ []) f
    ∙ ap (λ z. each (take i xs) f ++ z) (append-nil (f x))

pub each_single : {A : Type 0} (xs : List A) → each xs (λ x. x ∷ []) ≡ xs
each_single [] = refl
each_single (x ∷ xs) = ap (λ z. x ∷ z) (each_single xs)

pub each_cong : {A B : Type 0} (xs : List A) (f g : A → List B) → ((x : A) → f x ≡ g x) → each xs f ≡ each xs g
each_cong [] f g e = refl
each_cong (x ∷ xs) f g e = ap (λ z. z ++ each xs f) (e x) ∙ ap (λ z. g x ++ z) (each_cong xs f g e)

pub each_each : {A B C : Type 0} (xs : List A) (f : A → List B) (g : B → List C) → each (each xs f) g ≡ each xs (λ x. each (f x) g)
each_each [] f g = refl
each_each (x ∷ xs) f g = each_append (f x) (each xs f) g ∙ ap (λ z. each (f x) g ++ z) (each_each xs f g)

-- first one item for each, then a list for each of those
pub each_through : {A B C : Type 0} (xs : List A) (f : A → B) (g : B → List C) → each (each xs λ x. f x ∷ []) g ≡ each xs (λ x. g (f x))
each_through xs f g = each_each xs (λ x. f x ∷ []) g ∙ each_cong xs (λ x. each (f x ∷ []) g) (λ x. g (f x)) (λ x. append-nil (g (f x)))
