-- From user to user up, and from child to child down: the same nodes lie between.
use Rattle.std.proofs.Common.{ℕ, ◌<◌, Contains, arith}
use Rattle.std.proofs.lemmas.List.Elements.{All-contains}
use Rattle.diagram.specs.declared.table.Table.{Table}
use Rattle.diagram.specs.Records.{Sound, Uses, children_at, NodeBeneath, child, deeper}
use Rattle.diagram.proofs.FoundByTest.{test_finds, found_by_test}

-- j is a user of k, or a user of such a one, and so on
pub data Above (t : Table) : ℕ → ℕ → Type 0 where
  user : {k u : ℕ} → Uses t k u → Above t k u
  higher : {k u j : ℕ} → Uses t k u → Above t u j → Above t k j

pub above_then : {t : Table} {k u j : ℕ} → Above t k u → Uses t u j → Above t k j
above_then (user h) e = higher h (user e)
above_then (higher h a) e = higher h (above_then a e)

beneath_then : {children : ℕ → _} {j u k : ℕ} → NodeBeneath children j u → Contains (children u) k → NodeBeneath children j k
beneath_then (child c) e = deeper c (child e)
beneath_then (deeper c b) e = deeper c (beneath_then b e)

module _ {t : Table} (s : Sound t) where
  pub child_is_below : {k c : ℕ} → k < t.count → Contains (children_at t k) c → c < k
  child_is_below {k} {c} h e = All-contains (λ c. c < k) (children_at t k) c (s.at k h).own.children_below e

  pub beneath_from_above : {k j : ℕ} → k < t.count → Above t k j → NodeBeneath (children_at t) j k
  beneath_from_above {k} h (user {u = u} e) = child (found_by_test k (children_at t u) ((s.at k h).user_names u e))
  beneath_from_above {k} h (higher {u = u} e a) =
      beneath_then (beneath_from_above ((s.at k h).user_above u e).1 a) (found_by_test k (children_at t u) ((s.at k h).user_names u e))

  pub above_from_beneath : {j k : ℕ} → j < t.count → NodeBeneath (children_at t) j k → Above t k j
  above_from_beneath {j} {k} h (child e) = user ((s.at j h).children_used k (test_finds k (children_at t j) e))
  above_from_beneath {j} {k} h (deeper {c = c} e b) =
      let low = child_is_below h e in
      above_then (above_from_beneath (omega (arith, low, h)) b) ((s.at j h).children_used c (test_finds c (children_at t j) e))
