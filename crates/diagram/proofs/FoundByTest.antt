-- A child of a node, by its place and by a test.
use Rattle.std.proofs.Common.{ℕ, List, true, Contains, ◌≡◌, ◌==◌}
use Rattle.std.proofs.lemmas.Bool.{eqb-true}
use Rattle.std.proofs.lemmas.Map.Views.{list_any-from_Contains, Contains-from_any}
use Rattle.std.specs.Cmp.{nat_eq_equiv}
use Rattle.std.specs.List.{list_any}

pub test_finds : (q : ℕ) (ks : List ℕ) → Contains ks q → list_any (λ c. q == c) ks ≡ true
test_finds = list_any-from_Contains nat_eq_equiv

pub found_by_test : (q : ℕ) (ks : List ℕ) → list_any (λ c. q == c) ks ≡ true → Contains ks q
found_by_test = Contains-from_any eqb-true
