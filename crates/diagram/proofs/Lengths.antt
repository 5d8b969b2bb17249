-- A row is no longer than its list.
use Rattle.std.proofs.Common.{ℕ, suc, ◌≤◌, List, [], ◌∷◌, length, Option, Some, None, IsSome, arith, rules}
use Rattle.kinds.specs.declared.performance.Performance
use Rattle.kinds.specs.declared.weight.Weight
use Rattle.kinds.proofs.Lawful.{Kind, Weighing}
use Rattle.terms.specs.declared.term.Term.{Term}
use Rattle.terms.specs.Rows.{RowOf}
use Rattle.terms.specs.Merging.{Merges}
use Rattle.terms.proofs.Canonical.{by_cases, by_test, put_in, merge_in, canon, canon_row, row_unique}

module _ {P W : Type 0} (kind : Performance.Ghosts P) (weights : Weight.Ghosts W) where
  put_in_shorter : (t : Term P W) (r : List (Term P W)) → length (put_in kind weights t r) ≤ suc (length r)
  put_in_shorter t [] = omega arith
  put_in_shorter t (x ∷ xs) =
      by_cases (kind.compared x.performance t.performance)
      (λ e. rw e (let h = put_in_shorter t xs in omega arith))
      (λ e. rw e (omega arith))
      (λ e. rw e (omega arith))

  merge_in_shorter : (t : Term P W) (r : List (Term P W)) → length (merge_in kind weights t r) ≤ suc (length r)
  merge_in_shorter t r = by_test (weights.is_nothing t.weight) (λ e. rw e (omega arith)) (λ e. rw e (put_in_shorter t r))

  canon_shorter : (ts : List (Term P W)) → length (canon kind weights ts) ≤ length ts
  canon_shorter [] = omega arith
  canon_shorter (t ∷ ts) =
      let h = canon_shorter ts in
      let k = merge_in_shorter t (canon kind weights ts) in
      omega arith

module _ {P W : Type 0} {kind : Performance.Ghosts P} {weights : Weight.Ghosts W} (k : Kind kind) (w : Weighing weights) where
  pub row_no_longer : (ts r : List (Term P W)) → RowOf kind weights ts r → length r ≤ length ts
  row_no_longer ts r h = rw (row_unique k w ts r _ h (canon_row k w ts)) (canon_shorter kind weights ts)

  -- so in as many places it always finds room
  pub has_room : (ts room : List (Term P W)) (r : Option ℕ) → length ts ≤ length room → Merges kind weights ts room r → IsSome r
  has_room ts room None fits m = absurd (omega (arith, row_no_longer ts m.0 m.1, m.2))
  has_room ts room (Some n) fits m = search rules
