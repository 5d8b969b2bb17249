-- The lines of the demands, one after the other.
use Rattle.std.proofs.Common.{refl, arith}
use Rattle.diagram.specs.Shown.{records}
use Rattle.diagram.specs.Store.{row_at}
use Rattle.files.specs.Reports.{demand_line}
use Rattle.files.proofs.Bytes.{file_kind_of, performance_at}
use Rattle.files.proofs.Lines.{no_line, one_more, all_lines, next_one, none_left}
use Rattle.files.proofs.report.needs.Goals as goal

pub loop-i-init : goal.loop-i-init
loop-i-init g c = record { short = omega arith; lines = λ a ds is. (is, no_line) }

pub loop-i-preserved : goal.loop-i-preserved
loop-i-preserved g c = record {
  short = let now = c.need.ensures.short in let before = c.loop-i.invariant.short in omega arith;
  lines = λ a ds is.
      let line = demand_line g.P.Performance g.W.Weight g.P.FilePerformance g.W.FileWeight (row_at (records c.args.diagram.now) c.args.store.now c.args.k) in
      let so = c.loop-i.invariant.lines a ds is in
      let here = performance_at g.P.FilePerformance c.args.demands.now.bytes.now c.loop-i.i c.in-Some.demand c.in-Some.ensures.some in
      let next = next_one (file_kind_of g.met.P.FilePerformance) ds c.loop-i.i _ so.0 c.in-Some.demand _ here in
      (next.2, one_more {line = line} c.in-Some.demand next.0 next.1 so.1 (c.need.ensures.wrote a).1);
}

pub returns-in_default-clause-wrote : goal.returns-in_default-clause-wrote
returns-in_default-clause-wrote g c = λ ds is few a.
    let line = demand_line g.P.Performance g.W.Weight g.P.FilePerformance g.W.FileWeight (row_at (records c.args.diagram.now) c.args.store.now c.args.k) in
    let so = c.loop-i.invariant.lines a ds is in
    (refl, all_lines {line = line} (none_left (file_kind_of g.met.P.FilePerformance) ds c.loop-i.i _ so.0 c.in_default.ensures.none) so.1)

pub returns-clause-wrote : goal.returns-clause-wrote
returns-clause-wrote g c = λ ds is few a.
    let line = demand_line g.P.Performance g.W.Weight g.P.FilePerformance g.W.FileWeight (row_at (records c.args.diagram.now) c.args.store.now c.args.k) in
    (refl, all_lines {line = line} (omega (arith, few, c.loop-i-test.false)) (c.loop-i.invariant.lines a ds is).1)
