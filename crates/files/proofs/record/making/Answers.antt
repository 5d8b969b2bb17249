use Rattle.std.proofs.Common.{◌≡◌, ◌∷◌, ◌-◌, length, take, drop, Ok, refl, arith}
use Rattle.std.proofs.lemmas.List.{take_rest}
use Rattle.files.specs.Contents.{bridge_letter}
use Rattle.files.proofs.ModelFiles.{two_first}
use Rattle.files.proofs.OneNode.{five_first, bridge_read}
use Rattle.files.proofs.record.making.Goals as goal

pub returns-else-count-ne-ARMS : goal.returns-else-count-ne-ARMS
returns-else-count-ne-ARMS g c =
    let body = take (length c.args.bytes.now - 2) (drop 2 c.args.bytes.now) in
    let first = two_first c.args.bytes.now (omega arith) in
    let named = five_first body (omega (arith, c.in-len5-up.len_at_least)) in
    let all : c.args.bytes.now ≡ bridge_letter ∷ c.from-count.result ∷ body = cc in
    bridge_read g.P.FilePerformance g.W.FileWeight (Ok _) c.args.k c.from.result c.from-in-66.result c.from-in-66-2.result c.from-in-66-3.result c.from-in-66-4.result c.from-count.result
    c.args.bytes.now body (drop 5 body) all (omega arith) (cc) (refl, take_rest body 5)
