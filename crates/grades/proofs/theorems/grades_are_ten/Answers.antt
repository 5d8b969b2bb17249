use Rattle.grades.specs.GradeLaws.{ten_grades}
use Rattle.grades.proofs.theorems.grades_are_ten.Goals as goal

pub returns : goal.returns
returns c = ten_grades
