use Rattle.std.proofs.lemmas.Bool.{false≢true}
use Rattle.diagram.proofs.LoopOverNodes.{stands_twice, apart_more}
use Rattle.diagram.proofs.table.are_distinct.Goals as goal

pub returns-then-contains : goal.returns-then-contains
returns-then-contains c =
    let twice = c.if-contains.ensures.cases in
    (λ e. absurd (false≢true e), λ apart. absurd (stands_twice c.args.children.now c.loop-i.i c.loop-i-test.true twice.0 twice.1 twice.2 apart))

pub loop-i-preserved : goal.loop-i-preserved
loop-i-preserved c = apart_more c.args.children.now c.loop-i.i c.loop-i-test.true c.loop-i.invariant c.if-contains.ensures.cases
