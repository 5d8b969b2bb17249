use Rattle.std.proofs.Common.{◌≡◌, ℕ, Option, Some, None, sym, ◌∙◌, arith}
use Rattle.files.specs.Finding.{Found}
use Rattle.grades.specs.declared.grade.Grade.{Grade}
use Rattle.grades.specs.GradeKind.{grade_number}
use Rattle.grades.proofs.words.GradeFilePerformance.of_words.Goals as goal

-- the grade of the second word is what the two words write
of_second : (first second n : ℕ) (r : Option Grade) → 0 ≡ first → n ≡ second → Found (λ g. grade_number g ≡ n) r → Found (λ g. (0 ≡ first) × (grade_number g ≡ second)) r
of_second first second n (Some g) zero same h = (zero, h ∙ same)
of_second first second n None zero same h = λ g x. h g (x.1 ∙ sym same)

pub returns-in-Ok : goal.returns-in-Ok
returns-in-Ok c = of_second c.args.first c.args.second _ c.new.result (omega arith) c.in-Ok.ensures.1 c.new.ensures
