-- The number is short.
use Rattle.std.proofs.Common.{arith}
use Rattle.files.proofs.Pages.{ten_digits}
use Rattle.files.proofs.page.Page.figure.Goals as goal

pub number-requires : goal.number-requires
number-requires c = omega (arith, ten_digits c.args.n (omega arith))

pub returns-clause-short : goal.returns-clause-short
returns-clause-short c = ten_digits c.args.n (omega arith)
