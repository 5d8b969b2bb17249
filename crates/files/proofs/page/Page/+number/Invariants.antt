-- The number is shorter by its last digit in the call.
use Rattle.files.proofs.page.Page.+number.Given as goal

abbrev pub decreases-number : goal.decreases-number
decreases-number l = l.n
