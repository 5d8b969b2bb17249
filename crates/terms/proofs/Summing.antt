-- Sums over lists of terms.
use Rattle.std.proofs.Common.{◌≡◌, ℕ, ◌+◌, ◌<◌, List, [], ◌∷◌, ◌++◌, length, get_or, take, sym, refl, ap, ◌∙◌}
use Rattle.std.proofs.lemmas.List.{take_more}
use Rattle.kinds.specs.declared.weight.Weight
use Rattle.terms.specs.declared.term.Term.{Term}
use Rattle.terms.specs.Rows.{sum_over}
use Rattle.terms.specs.Combinations.{term, each}
use Rattle.kinds.proofs.Lawful.{Weighing}

-- what a term gives adds up with its weight
pub record Additive {P W : Type 0} (weights : Weight.Ghosts W) (gives : Term P W → W) : Type 0 where
  pub none : (p : P) → gives (term p weights.nothing) ≡ weights.nothing
  pub more : (p : P) (u v : W) → gives (term p (weights.sum u v)) ≡ weights.sum (gives (term p u)) (gives (term p v))

-- a function of weights that adds up
pub record Linear {W : Type 0} (weights : Weight.Ghosts W) (f : W → W) : Type 0 where
  pub none : f weights.nothing ≡ weights.nothing
  pub more : (u v : W) → f (weights.sum u v) ≡ weights.sum (f u) (f v)

module _ {W : Type 0} {weights : Weight.Ghosts W} (w : Weighing weights) where
  infixr 50 ◌⊕◌
  infixl 60 ◌⊗◌
  abbrev ◌⊕◌ : W → W → W
  u ⊕ v = weights.sum u v

  abbrev ◌⊗◌ : W → W → W
  u ⊗ v = weights.product u v

  abbrev total : {X : Type 0} → (Term X W → W) → List (Term X W) → W
  total = sum_over weights

  pub neutral_right : (a : W) → a ⊕ weights.nothing ≡ a
  neutral_right a = w.sum_comm a weights.nothing ∙ w.neutral a

  pub left_comm : (a b c : W) → a ⊕ (b ⊕ c) ≡ b ⊕ (a ⊕ c)
  left_comm a b c = sym (w.sum_assoc a b c) ∙ ap (λ z. z ⊕ c) (w.sum_comm a b) ∙ w.sum_assoc b a c

  exchange : (a b c d : W) → (a ⊕ b) ⊕ (c ⊕ d) ≡ (a ⊕ c) ⊕ (b ⊕ d)
  exchange a b c d = w.sum_assoc a b (c ⊕ d) ∙ ap (λ z. a ⊕ z) (left_comm b c d) ∙ sym (w.sum_assoc a c (b ⊕ d))

  absorbs_right : (a : W) → a ⊗ weights.nothing ≡ weights.nothing
  absorbs_right a = w.product_comm a weights.nothing ∙ w.absorbs a

  distributes_left : (a b c : W) → (a ⊕ b) ⊗ c ≡ a ⊗ c ⊕ b ⊗ c
  distributes_left a b c =
      w.product_comm (a ⊕ b) c ∙ w.distributes c a b ∙ ap (λ z. z ⊕ c ⊗ b) (w.product_comm c a) ∙ ap (λ z. a ⊗ c ⊕ z) (w.product_comm c b)

  -- linear functions

  pub linear_itself : Linear weights (λ u. u)
  linear_itself = record { none = refl; more = λ u v. refl }

  pub linear_times : (f : W → W) → Linear weights f → (b : W) → Linear weights (λ u. f u ⊗ b)
  linear_times f l b = record {
    none = ap (λ z. z ⊗ b) l.none ∙ w.absorbs b;
    more = λ u v. ap (λ z. z ⊗ b) (l.more u v) ∙ distributes_left (f u) (f v) b;
  }

  pub linear_scaled : (f : W → W) → Linear weights f → (a : W) → Linear weights (λ u. a ⊗ f u)
  linear_scaled f l a = record {
    none = ap (λ z. a ⊗ z) l.none ∙ absorbs_right a;
    more = λ u v. ap (λ z. a ⊗ z) (l.more u v) ∙ w.distributes a (f u) (f v);
  }

  -- a term's performance and weight may change before it gives, if the weight does so linearly
  pub additive_through : {X Y : Type 0} (gives : Term Y W → W) → Additive weights gives → (p : X → Y) (f : W → W) → Linear weights f → Additive weights (λ t. gives (term (p t.performance) (f t.weight)))
  additive_through gives a p f l = record {
    none = λ x. ap (λ z. gives (term (p x) z)) l.none ∙ a.none (p x);
    more = λ x u v. ap (λ z. gives (term (p x) z)) (l.more u v) ∙ a.more (p x) (f u) (f v);
  }

  -- sums

  module _ {X : Type 0} where
    pub sum_append : (gives : Term X W → W) (xs ys : List (Term X W)) → total gives (xs ++ ys) ≡ total gives xs ⊕ total gives ys
    sum_append gives [] ys = sym (w.neutral (total gives ys))
    sum_append gives (x ∷ xs) ys = ap (λ z. gives x ⊕ z) (sum_append gives xs ys) ∙ sym (w.sum_assoc (gives x) (total gives xs) (total gives ys))

    pub sum_cong : (f g : Term X W → W) (xs : List (Term X W)) → ((t : Term X W) → f t ≡ g t) → total f xs ≡ total g xs
    sum_cong f g [] e = refl
    sum_cong f g (x ∷ xs) e = ap (λ z. z ⊕ total f xs) (e x) ∙ ap (λ z. g x ⊕ z) (sum_cong f g xs e)

    pub sum_nothing : (xs : List (Term X W)) → total (λ _. weights.nothing) xs ≡ weights.nothing
    sum_nothing [] = refl
    sum_nothing (x ∷ xs) = w.neutral _ ∙ sum_nothing xs

    sum_both : (f g : Term X W → W) (xs : List (Term X W)) → total (λ t. f t ⊕ g t) xs ≡ total f xs ⊕ total g xs
    sum_both f g [] = sym (w.neutral weights.nothing)
    sum_both f g (x ∷ xs) = ap (λ z. (f x ⊕ g x) ⊕ z) (sum_both f g xs) ∙ exchange (f x) (g x) (total f xs) (total g xs)

  -- a double sum may be taken in either order
  pub sum_swap : {X Y : Type 0} (g : Term X W → Term Y W → W) (xs : List (Term X W)) (ys : List (Term Y W)) → total (λ x. total (g x) ys) xs ≡ total (λ y. total (λ x. g x y) xs) ys
  sum_swap g [] ys = sym (sum_nothing ys)
  sum_swap g (x ∷ xs) ys = ap (λ z. total (g x) ys ⊕ z) (sum_swap g xs ys) ∙ sym (sum_both (g x) (λ y. total (λ t. g t y) xs) ys)

  -- the sum over what each x gives a list for
  pub sum_each : {X Y : Type 0} (gives : Term Y W → W) (xs : List (Term X W)) (f : Term X W → List (Term Y W)) → total gives (each xs f) ≡ total (λ x. total gives (f x)) xs
  sum_each gives [] f = refl
  sum_each gives (x ∷ xs) f = sum_append gives (f x) (each xs f) ∙ ap (λ z. total gives (f x) ⊕ z) (sum_each gives xs f)

  pub sum_one : {Y : Type 0} (gives : Term Y W → W) (t : Term Y W) → total gives (t ∷ []) ≡ gives t
  sum_one gives t = neutral_right (gives t)

  -- a sum over a second list is additive where each of its summands is
  pub additive_sum : {X Y : Type 0} (g : Term X W → Term Y W → W) (ys : List (Term Y W)) → ((y : Term Y W) → Additive weights (λ x. g x y)) → Additive weights (λ x. total (g x) ys)
  additive_sum g ys a = record {
    none = λ p. sum_cong (g (term p weights.nothing)) (λ _. weights.nothing) ys (λ y. (a y).none p) ∙ sum_nothing ys;
    more = λ p u v.
        sum_cong (g (term p (u ⊕ v))) (λ y. g (term p u) y ⊕ g (term p v) y) ys (λ y. (a y).more p u v)
        ∙ sum_both (g (term p u)) (g (term p v)) ys;
  }

-- one term more in a running sum
pub sum_more : {P W : Type 0} {weights : Weight.Ghosts W} (w : Weighing weights) (gives : Term P W → W) (ts : List (Term P W)) (i : ℕ) (t : Term P W) → i < length ts → t ≡ get_or ts i t → sum_over weights gives (take (i + 1) ts) ≡ weights.sum (sum_over weights gives (take i ts)) (gives t)
sum_more {weights = weights} w gives ts i t in_List read =
    ap (sum_over weights gives) (take_more ts i t in_List ∙ ap (λ z. take i ts ++ z ∷ []) (sym read))
    ∙ sum_append w gives (take i ts) (t ∷ [])
    ∙ ap (λ z. weights.sum (sum_over weights gives (take i ts)) z) (sum_one w gives t)
