-- The lines of so many terms are on the page.
use Rattle.std.proofs.Common.{◌+◌, ◌*◌, ◌≤◌}
use Rattle.files.specs.declared.limits.TheConstants.{TERM_LINE}
use Rattle.diagram.specs.Shown.{records}
use Rattle.diagram.specs.Store.{row_at}
use Rattle.files.specs.Reports.{state_line}
use Rattle.files.specs.Analysing.{NodeAnswers}
use Rattle.files.proofs.Lines.{Lines}
use Rattle.files.proofs.report.terms.Given as goal

abbrev pub invariant-loop-i : goal.invariant-loop-i
invariant-loop-i g l = record {
  short : l.page.len ≤ l.fn.page.len + TERM_LINE * l.i;
  lines :
      NodeAnswers (records l.diagram) l.store l.k →
      Lines (state_line g.P.Performance g.W.Weight g.P.FilePerformance g.W.FileWeight) (row_at (records l.diagram) l.store l.k) l.i l.fn.page l.page;
}
