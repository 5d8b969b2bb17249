use Rattle.std.proofs.Common.{rules, ℕ, ◌≤◌, List, length, Bor, sym, refl, subst, arith}
use Rattle.diagram.specs.declared.limits.TheConstants.{STORE}
use Rattle.diagram.specs.Calls.{Made}
use Rattle.diagram.specs.Shown.{records}
use Rattle.files.specs.Reading.{MayBeRecords}
use Rattle.diagram.proofs.PassedOn.{passed}
use Rattle.files.proofs.ModelFiles.{counted, counts, uncounted, nodes_refused, last_refused, all_read}
use Rattle.files.proofs.ManyNodes.{roomy_of}
use Rattle.files.proofs.read.read_contents.Goals.{In_ok-diagram}
use Rattle.files.proofs.read.read_contents.Goals as goal

-- there is a diagram, so the store is long enough
made_over : (g : _) → (c : In_ok-diagram g) → STORE ≤ length c.args.store.now
made_over g c =
    roomy_of g.P.Performance g.W.Weight c.in_ok-diagram.diagram c.args.store.now (subst (Made records c.args.store.now) (passed _ c.map_err.ensures.cases c.in_ok-diagram.was) c.new.ensures.made)

pub returns-in_default-clause-read : goal.returns-in_default-clause-read
returns-in_default-clause-read g c =
    let roomy = made_over g (goal.at.returns-in_default-clause-read g c).In_ok-diagram in
    uncounted g.P.Performance g.W.Weight g.P.FilePerformance g.W.FileWeight c.args.bytes.now c.args.store.now roomy c.args.store.now (λ x. omega (arith, counts c.args.bytes.now x, c.in_default.len_below))

pub returns-then-not-may_be_records-clause-read : goal.returns-then-not-may_be_records-clause-read
returns-then-not-may_be_records-clause-read g c =
    let roomy = made_over g (goal.at.returns-then-not-may_be_records-clause-read g c).In_ok-diagram in
    uncounted g.P.Performance g.W.Weight g.P.FilePerformance g.W.FileWeight c.args.bytes.now c.args.store.now roomy c.args.store.now (λ x. let may = c.if-not-may_be_records.ensures.1 (subst MayBeRecords (sym c.from.ensures) (counts c.args.bytes.now x).1) in absurd (cc))

pub returns-in_err-last : goal.returns-in_err-last
returns-in_err-last g c =
    let roomy = made_over g (goal.at.returns-in_err-last g c).In_ok-diagram in
    let is = counted c.args.bytes.now c.in-len1-up.len_at_least (subst MayBeRecords c.from.ensures (c.if-not-may_be_records.ensures.0 (search rules))) in
    let so = nodes_refused g.P.Performance g.W.Weight g.P.FilePerformance g.W.FileWeight c.args.bytes.now c.args.store.now roomy c.draw_nodes.new.store is {X = Bor (List ℕ)} (λ x. x.now) c.draw_nodes.new.diagram
    c.in_err-last.field-0.0 c.from_residual-in_err-last.ensures.1 c.in_err-last.ensures.drawn in
    record { read = so.0; left = so.1 }

pub returns-in_err-demands : goal.returns-in_err-demands
returns-in_err-demands g c =
    let roomy = made_over g (goal.at.returns-in_err-demands g c).In_ok-diagram in
    let is = counted c.args.bytes.now c.in-len1-up.len_at_least (subst MayBeRecords c.from.ensures (c.if-not-may_be_records.ensures.0 (search rules))) in
    let so = last_refused g.P.Performance g.W.Weight g.P.FilePerformance g.W.FileWeight c.args.bytes.now c.args.store.now roomy c.draw_nodes.new.store is {X = Bor (List ℕ)} (λ x. x.now) c.draw_nodes.new.diagram c.in_ok-last.last c.in_ok-last.ensures.drawn
    c.in_err-demands.field-0.0 c.from_residual-in_err-demands.ensures.1 c.in_err-demands.ensures in
    record { read = so.0; left = so.1 }

pub returns : goal.returns
returns g c =
    let roomy = made_over g (goal.at.returns g c).In_ok-diagram in
    let is = counted c.args.bytes.now c.in-len1-up.len_at_least (subst MayBeRecords c.from.ensures (c.if-not-may_be_records.ensures.0 (search rules))) in
    let so = all_read g.P.Performance g.W.Weight g.P.FilePerformance g.W.FileWeight c.args.bytes.now c.args.store.now roomy c.draw_nodes.new.store is {X = Bor (List ℕ)} (λ x. x.now) c.draw_nodes.new.diagram c.in_ok-last.last c.in_ok-last.ensures.drawn
    _ refl refl c.in_ok-demands.ensures in
    record { read = so.0; left = so.1 }
