use Rattle.std.proofs.Common.{rules, Err, ◌∙◌, ap, refl, arith}
use Rattle.diagram.proofs.PassedOn.{passed, turned, passed_on}
use Rattle.files.proofs.Analysing.{stops_reading, stops_collecting, reports, nodes_read, fault_left, analysed_left}
use Rattle.kinds.proofs.Lawful.{lawful_kind, lawful_weight}
use Rattle.files.proofs.Counted.{over_counts}
use Rattle.files.proofs.analysis.analyse_as.Goals as goal

pub returns-in_err-model-clause-analysed : goal.returns-in_err-model-clause-analysed
returns-in_err-model-clause-analysed g c =
    stops_reading g.P.Performance g.W.Weight g.P.FilePerformance g.W.FileWeight c.args.bytes.now c.args.store.now c.read.new.store c.args.output.now c.from_residual.result c.args.output.now
    c.in_err-model.field-0.0 c.in_err-model.ensures.read (record { answer = passed_on c.from_residual.ensures.1; output = refl })

pub returns-in_err-model-clause-left : goal.returns-in_err-model-clause-left
returns-in_err-model-clause-left g c =
    fault_left g.P.Performance g.W.Weight g.P.FilePerformance g.W.FileWeight c.args.bytes.now c.args.store.now c.read.new.store c.in_err-model.ensures.reads_one_way c.in_err-model.field-0.0 c.in_err-model.ensures.read c.in_err-model.ensures.left

pub returns-in_err-map_err-clause-analysed : goal.returns-in_err-map_err-clause-analysed
returns-in_err-map_err-clause-analysed g c =
    let (at, is, told) = turned _ c.map_err.ensures.cases c.in_err-map_err.was in
    let gone = passed_on c.from_residual-in_err-map_err.ensures.1 ∙ ap Err (search rules) in
    stops_collecting g.P.Performance g.W.Weight g.P.FilePerformance g.W.FileWeight c.args.bytes.now c.args.store.now c.read.new.store c.in_ok-model.ensures.reads_back c.in_ok-model.model c.in_ok-model.ensures.read
    c.in_ok-model.ensures.left c.collect_all.result c.collect_all.new.self c.collect_all.new.store c.collect_all.ensures.in_runs c.args.output.now _ c.args.output.now
    at is (record { answer = gone; output = refl })

pub returns-in_err-map_err-clause-left : goal.returns-in_err-map_err-clause-left
returns-in_err-map_err-clause-left g c =
    analysed_left g.P.Performance g.W.Weight g.P.FilePerformance g.W.FileWeight c.args.bytes.now c.args.store.now c.read.new.store c.in_ok-model.ensures.reads_back c.in_ok-model.model c.in_ok-model.ensures.read
    c.in_ok-model.ensures.left c.collect_all.result c.collect_all.new.self c.collect_all.new.store c.collect_all.ensures.in_runs c.in_ok-model.ensures.reads_one_way

pub overflow_sub-last : goal.overflow_sub-last
overflow_sub-last g c =
    let many = nodes_read g.P.Performance g.W.Weight g.P.FilePerformance g.W.FileWeight c.args.bytes.now c.args.store.now c.read.new.store c.in_ok-model.ensures.reads_back c.in_ok-model.model c.in_ok-model.ensures.read in
    omega (arith, many)

pub returns-clause-analysed : goal.returns-clause-analysed
returns-clause-analysed g c =
    reports g.P.Performance g.W.Weight g.P.FilePerformance g.W.FileWeight c.args.bytes.now c.args.store.now c.read.new.store c.in_ok-model.ensures.reads_back c.in_ok-model.model c.in_ok-model.ensures.read
    c.in_ok-model.ensures.left c.collect_all.result c.collect_all.new.self c.collect_all.new.store c.collect_all.ensures.in_runs c.args.output.now c.report.result c.report.new.output
    (passed _ c.map_err.ensures.cases c.in_ok-map_err.was) c.report.ensures.reported

pub returns-clause-left : goal.returns-clause-left
returns-clause-left g c =
    analysed_left g.P.Performance g.W.Weight g.P.FilePerformance g.W.FileWeight c.args.bytes.now c.args.store.now c.read.new.store c.in_ok-model.ensures.reads_back c.in_ok-model.model c.in_ok-model.ensures.read
    c.in_ok-model.ensures.left c.collect_all.result c.collect_all.new.self c.collect_all.new.store c.collect_all.ensures.in_runs c.in_ok-model.ensures.reads_one_way

pub returns-in_err-model-clause-counted : goal.returns-in_err-model-clause-counted
returns-in_err-model-clause-counted g c =
    over_counts g.P.Performance g.W.Weight g.P.FilePerformance g.W.FileWeight (lawful_kind g.met.P.Performance) (lawful_weight g.met.W.Weight)
    c.args.store.now c.args.output.now c.from_residual.result c.args.output.now c.args.bytes.now (returns-in_err-model-clause-analysed g c)

pub returns-in_err-map_err-clause-counted : goal.returns-in_err-map_err-clause-counted
returns-in_err-map_err-clause-counted g c =
    over_counts g.P.Performance g.W.Weight g.P.FilePerformance g.W.FileWeight (lawful_kind g.met.P.Performance) (lawful_weight g.met.W.Weight)
    c.args.store.now c.args.output.now _ c.args.output.now c.args.bytes.now (returns-in_err-map_err-clause-analysed g c)

pub returns-clause-counted : goal.returns-clause-counted
returns-clause-counted g c =
    over_counts g.P.Performance g.W.Weight g.P.FilePerformance g.W.FileWeight (lawful_kind g.met.P.Performance) (lawful_weight g.met.W.Weight)
    c.args.store.now c.args.output.now c.report.result c.report.new.output c.args.bytes.now (returns-clause-analysed g c)
