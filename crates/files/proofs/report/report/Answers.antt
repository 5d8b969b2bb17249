-- The report of a node that answers: a page of lines, put in the output.
use Rattle.std.proofs.Common.{arith}
use Rattle.kinds.proofs.Lawful.{lawful_kind, lawful_weight}
use Rattle.diagram.specs.Shown.{records}
use Rattle.diagram.specs.Store.{row_at}
use Rattle.files.proofs.Pages.{◌and_then◌, copied_put}
use Rattle.diagram.proofs.RunGoesOn.{row_told}
use Rattle.files.proofs.Shown.{node_answers}
use Rattle.files.proofs.report.report.Goals as goal

pub returns-in_err-needs-clause-reported : goal.returns-in_err-needs-clause-reported
returns-in_err-needs-clause-reported g c = λ h demands roomy run node answers is few.
    let a = node_answers (lawful_kind g.met.P.Performance) (lawful_weight g.met.W.Weight) h c.args.diagram.now c.args.store.now c.args.k run roomy node answers in
    let wrote = (c.needs.ensures.wrote demands is few a).0 in
    let failed = c.in_err-needs.was in
    absurd (cc)

pub returns-in_err-terms-clause-reported : goal.returns-in_err-terms-clause-reported
returns-in_err-terms-clause-reported g c = λ h demands roomy run node answers is few.
    let a = node_answers (lawful_kind g.met.P.Performance) (lawful_weight g.met.W.Weight) h c.args.diagram.now c.args.store.now c.args.k run roomy node answers in
    let wrote = (c.terms.ensures.wrote a).0 in
    let failed = c.in_err-terms.was in
    absurd (cc)

pub returns-clause-reported : goal.returns-clause-reported
returns-clause-reported g c = λ h demands roomy run node answers is few.
    let a = node_answers (lawful_kind g.met.P.Performance) (lawful_weight g.met.W.Weight) h c.args.diagram.now c.args.store.now c.args.k run roomy node answers in
    let page = (c.needs.ensures.wrote demands is few a).1 and_then (c.terms.ensures.wrote a).1 in
    let put = copied_put _ c.args.output.now c.copy_to.result c.copy_to.new.output c.copy_to.ensures in (
      row_at (records c.args.diagram.now) c.args.store.now c.args.k,
      row_told g.P.Performance g.W.Weight (lawful_kind g.met.P.Performance) (lawful_weight g.met.W.Weight) h c.args.diagram.now c.args.store.now c.args.k run node answers,
      omega (arith, page.len, c.terms.ensures.short, c.needs.ensures.short, c.new-page.ensures.empty),
      rw c.ok_or.ensures.value (rw (page.text, c.new-page.ensures.blank) at put),
    )
