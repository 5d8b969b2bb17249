-- What a limited reader gives is the front of what its inner reader has left.
use Rattle.std.proofs.Common.{◌≡◌, ℕ, List, [], ◌++◌, take, None, Some, Option, IfSome, subst}
use Rattle.std.specs.Option.{option_map}
use Rattle.std.specs.Io.Take.{take_remaining}
use Rattle.std.specs.declared.io.traits.Take.{Take}

front : (left : Option (List ℕ)) (n : ℕ) (all : List ℕ) → IfSome (option_map (take n) left) (λ xs. all ≡ xs) → IfSome left (λ xs. all ≡ take n xs)
front None n all h = tt
front (Some xs) n all h = h

pub front_read : {R : Type 0} (remaining : R → Option (List ℕ)) (t : Take R) (input : R) (n : ℕ) (old all : List ℕ) → t.inner ≡ input → t.limit ≡ n → old ≡ [] → IfSome (take_remaining remaining t) (λ xs. all ≡ old ++ xs) → IfSome (remaining input) (λ xs. all ≡ take n xs)
front_read remaining t input n old all inner limit empty h =
    let of_input = subst (λ r. IfSome (option_map (take t.limit) (remaining r)) (λ xs. all ≡ old ++ xs)) inner h in
    let limited = subst (λ m. IfSome (option_map (take m) (remaining input)) (λ xs. all ≡ old ++ xs)) limit of_input in
    front (remaining input) n all (subst (λ o. IfSome (option_map (take n) (remaining input)) (λ xs. all ≡ o ++ xs)) empty limited)
