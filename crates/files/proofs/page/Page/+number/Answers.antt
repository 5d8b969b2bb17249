-- The last digit comes after the digits before it, if there are any.
use Rattle.std.proofs.Common.{length, sym, ap, arith}
use Rattle.files.proofs.Pages.{◌and_then◌, same, one_digit, last_digit, one_longer}
use Rattle.files.proofs.page.Page.+number.Goals as goal
use Rattle.files.proofs.page.Page.+number.Goals.{then-n-ge10, else-n-ge10}

pub number-requires : goal.number-requires
number-requires t c = (omega arith, omega (arith, one_longer c.args.n c.if-n-ge10.true (omega arith)))

pub push-requires : goal.push-requires
push-requires t c = elim c.if-n-ge10.branch [
  | then-n-ge10 w ↦ rw w.self-is (omega (arith, one_longer c.args.n w.if-n-ge10.true (omega arith)))
  | else-n-ge10 w ↦ rw w.self-is (omega (arith, ap length (one_digit c.args.n w.if-n-ge10.false)))
]

pub returns : goal.returns
returns t c = record {
  wrote = elim c.if-n-ge10.branch [
    | then-n-ge10 w ↦ same (sym (last_digit c.args.n w.if-n-ge10.true (omega arith))) (w.number.ensures.wrote and_then (rw w.self-is at c.push.ensures.wrote))
    | else-n-ge10 w ↦ same (sym (one_digit c.args.n w.if-n-ge10.false)) (rw w.self-is at c.push.ensures.wrote)
  ];
}
