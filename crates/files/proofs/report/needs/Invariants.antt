-- So many demands are read, and their lines are on the page.
use Rattle.std.proofs.Common.{◌≡◌, ◌+◌, ◌*◌, ◌≤◌, List, drop, flat_map}
use Rattle.files.specs.declared.limits.TheConstants.{NEED_LINE, DEMAND_BYTES}
use Rattle.diagram.specs.Shown.{records}
use Rattle.diagram.specs.Store.{row_at}
use Rattle.files.specs.Contents.{performance_bytes}
use Rattle.files.specs.Reports.{demand_line}
use Rattle.files.specs.Analysing.{NodeAnswers}
use Rattle.files.proofs.Lines.{Lines}
use Rattle.files.proofs.report.needs.Given as goal

abbrev pub invariant-loop-i : goal.invariant-loop-i
invariant-loop-i g l = record {
  short : l.page.len ≤ l.fn.page.len + NEED_LINE * l.i;
  lines :
      NodeAnswers (records l.diagram) l.store l.k → (ds : List g.row.P.Denot) → l.demands.bytes.now ≡ flat_map (performance_bytes g.P.FilePerformance) ds →
      (drop (DEMAND_BYTES * l.i) l.demands.bytes.now ≡ flat_map (performance_bytes g.P.FilePerformance) (drop l.i ds))
      × Lines (demand_line g.P.Performance g.W.Weight g.P.FilePerformance g.W.FileWeight (row_at (records l.diagram) l.store l.k)) ds l.i l.fn.page l.page;
}
