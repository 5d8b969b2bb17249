-- The lines that are printed of a node, as bytes, and when a node tells them.
use Rattle.std.specs.Prelude.{◌≡◌, ℕ, ◌<◌, ◌≤◌, List, length, ◌++◌, codes, decimal, Result, IsOkAnd}
use Rattle.terms.specs.declared.term.Term.{Term}
use Rattle.terms.specs.Sums.{total_of, met_of}
use Rattle.diagram.specs.declared.limits.TheConstants.{STORE}
use Rattle.diagram.specs.declared.refusal.Refusal.{Refusal}
use Rattle.diagram.specs.declared.node.Status.TheVariants.{UpToDate}
use Rattle.diagram.specs.declared.table.Table.{Table}
use Rattle.diagram.specs.Calls.{Asks}
use Rattle.diagram.specs.Records.{status_at}
use Rattle.diagram.specs.Store.{row_at}
use Rattle.grades.specs.contracts.grade_kind.GradePerformance.TheImpl.{ghosts as grade_kind}
use Rattle.grades.specs.contracts.batches_weight.BatchesWeight.TheImpl.{ghosts as batches_weight}
use Rattle.grades.specs.declared.answers.Share.{Share}
use Rattle.grades.specs.declared.batches.Batches.{Batches}
use Rattle.grades.specs.declared.grade.Grade.{Grade}
use Rattle.grades.specs.BatchesWeight.{how_many}
use Rattle.grades.specs.GradeKind.{grade_number}

abbrev pub share_text : Grade → Batches → Batches → List ℕ
share_text grade met all = codes "grade " ++ (decimal (grade_number grade) ++ (codes " or better: " ++ (decimal (how_many met) ++ (codes " of " ++ (decimal (how_many all) ++ codes " batches")))))

-- what of a row is of this grade or better
abbrev pub text_of_share : Grade → List (Term Grade Batches) → List ℕ
text_of_share grade row = share_text grade (met_of grade_kind batches_weight grade row) (total_of batches_weight row)

module _ (t : Table) (s : List (Term Grade Batches)) (k : ℕ) where
  -- node k of a diagram with these records tells its share of a grade, after the questions that are put before its availability
  abbrev pub ShareOrRefusal : Grade → Result Share Refusal → Type 0
  ShareOrRefusal grade r = Asks grade_kind batches_weight t s k r (IsOkAnd r (λ share. share_text share.grade share.met share.all ≡ text_of_share grade (row_at t s k)))

  -- no question about node k is refused, but for a term that its row does not have
  pub record Answering : Type 0 where
    pub roomy : STORE ≤ length s
    pub node : k < t.count
    pub up_to_date : status_at t k ≡ UpToDate
