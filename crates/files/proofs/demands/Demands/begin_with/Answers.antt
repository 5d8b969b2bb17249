use Rattle.std.proofs.Common.{[], ◌∷◌, ◌++◌, arith}
use Rattle.std.proofs.lemmas.List.{length_push}
use Rattle.files.specs.Contents.{performance_bytes}
use Rattle.files.proofs.Bytes.{file_kind_of, performance_once, performance_at}
use Rattle.files.proofs.ValuesAhead.{one_more, too_few}
use Rattle.files.proofs.demands.Demands.begin_with.Goals as goal

pub returns-in_default : goal.returns-in_default
returns-in_default g c =
    let (demands, many, e) = c.loop-i.invariant in
    let short = too_few (performance_bytes g.P.FilePerformance) (performance_once (file_kind_of g.met.P.FilePerformance)) demands _ _ _ e (omega (arith, many)) c.in_default.ensures.none in
    (λ t. absurd (cc), λ ahead. absurd (short ahead))

pub loop-i-preserved : goal.loop-i-preserved
loop-i-preserved g c =
    let (demands, many, e) = c.loop-i.invariant in
    let p = c.in-Some.field-0 in
    let here = performance_at g.P.FilePerformance c.args.self.now.bytes.now c.loop-i.i p c.in-Some.ensures.some in
    (demands ++ p ∷ [], omega (arith, length_push demands p, many), one_more (performance_bytes g.P.FilePerformance) demands p _ _ _ e here)
