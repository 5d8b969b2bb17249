-- A plant read from a model file.
use Rattle.std.specs.Prelude.{ℕ, List, Ok}
use Rattle.terms.specs.declared.term.Term.{Term}
use Rattle.diagram.specs.InTurn.{CollectsInTurn, CollectsAll}
use Rattle.files.specs.declared.model_file.ModelFile.{ModelFile}
use Rattle.files.specs.Contents.{Contents}
use Rattle.files.specs.Reading.{ContentsRead}
use Rattle.grades.specs.contracts.grade_kind.GradePerformance.TheImpl.{ghosts as grade_kind}
use Rattle.grades.specs.contracts.batches_weight.BatchesWeight.TheImpl.{ghosts as batches_weight}
use Rattle.grades.specs.contracts.words.GradeFilePerformance.TheImpl.{ghosts as file_grades}
use Rattle.grades.specs.contracts.words.BatchesFileWeight.TheImpl.{ghosts as file_batches}
use Rattle.grades.specs.declared.batches.Batches.{Batches}
use Rattle.grades.specs.declared.grade.Grade.{Grade}

-- these are the bytes of a file, from the number of its records on
abbrev pub IsModelFile : List ℕ → Type 0
IsModelFile bytes = (c : Contents Grade Batches) × ContentsRead grade_kind batches_weight file_grades file_batches bytes (Ok c)

-- every joined node is collected, one after the other, and all are up to date; so, after whatever calls, all nodes answer
abbrev pub NodesCollected : ModelFile Grade Batches → List (Term Grade Batches) → ModelFile Grade Batches → List (Term Grade Batches) → Type 0
NodesCollected m s m' s' = CollectsInTurn grade_kind batches_weight m.diagram s (Ok tt) m'.diagram s' × CollectsAll grade_kind batches_weight m.diagram s (Ok tt) m'.diagram s'
