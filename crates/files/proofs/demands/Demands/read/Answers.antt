use Rattle.std.proofs.Common.{rules, refl, arith}
use Rattle.files.proofs.ModelFiles.{two_first, all_demands, left_over}
use Rattle.files.proofs.demands.Demands.read.Goals as goal

pub returns-then-body-count-2 : goal.returns-then-body-count-2
returns-then-body-count-2 g c =
    let (demands, rest, many, is) = c.if-not-begin_with.ensures.0 (search rules) in
    let few = c.if-not-may_be_demands.ensures.0 (search rules) in
    let first = two_first c.args.bytes.now (omega arith) in
    left_over g.P.FilePerformance demands rest (omega (arith, few, many), omega (arith, few, many)) (cc) is (omega (arith, many, c.if-body-count-2.true))

pub returns : goal.returns
returns g c =
    let (demands, rest, many, is) = c.if-not-begin_with.ensures.0 (search rules) in
    let few = c.if-not-may_be_demands.ensures.0 (search rules) in
    let first = two_first c.args.bytes.now (omega arith) in
    all_demands g.P.FilePerformance demands rest (omega (arith, few, many), omega (arith, few, many)) (cc) is (omega (arith, many, c.if-body-count-2.false)) _ refl
