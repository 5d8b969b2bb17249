-- Which model a file names.
use Rattle.std.proofs.Common.{◌≡◌, ◌⊎◌, ℕ, ◌+◌, ◌<◌, ◌≤◌, inl, inr, arith}
use Rattle.files.specs.Models.{OfModel, some_model, each_model}

-- What is so of the model that is named is so of each, wherever its number is the one that is named: shown from the last model on.
module _ (named : ℕ) where
  pub record From (n : ℕ) (Named Each : Type 0) : Type 0 where
    pub up : Named → n ≤ named
    pub none : named < n → Each
    pub each : Named → Each

  pub last : (n : ℕ) {A B : Type 0} → (A → B) → From n ((named ≡ n) × A) (named ≡ n → B)
  last n f = record { up = λ x. omega (arith, x.0); none = λ l e. absurd (omega (arith, l, e)); each = λ x e. f x.1 }

  pub one_more : (n : ℕ) {A B C D : Type 0} → (A → B) → From (n + 1) C D → From n (((named ≡ n) × A) ⊎ C) ((named ≡ n → B) × D)
  one_more n {A} {B} {C} {D} f more = record { up = up; none = none; each = each }
    where
      up : ((named ≡ n) × A) ⊎ C → n ≤ named
      up (inl x) = omega (arith, x.0)
      up (inr y) = omega (arith, more.up y)

      none : named < n → (named ≡ n → B) × D
      none l = (λ e. absurd (omega (arith, l, e)), more.none (omega (arith, l)))

      each : ((named ≡ n) × A) ⊎ C → (named ≡ n → B) × D
      each (inl x) = (λ e. f x.1, more.none (omega (arith, x.0)))
      each (inr y) = (λ e. absurd (omega (arith, e, more.up y)), more.each y)

-- so what is said of the model with some number is so of each that has it
pub each_of_some : (Says : OfModel) (named : ℕ) → some_model (λ number P W kind weights file_kind file_weights. (named ≡ number) × Says number P W kind weights file_kind file_weights) →
    each_model (λ number P W kind weights file_kind file_weights. named ≡ number → Says number P W kind weights file_kind file_weights)
each_of_some Says named x =
    let all =
    one_more named 1 (λ a. a) (one_more named 2 (λ a. a) (one_more named 3 (λ a. a) (one_more named 4 (λ a. a) (one_more named 5 (λ a. a) (one_more named 6 (λ a. a) (last named 7 (λ a. a))))))) in
    all.each x
