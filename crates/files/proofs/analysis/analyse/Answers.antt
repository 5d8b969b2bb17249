use Rattle.files.proofs.analysis.analyse.Goals as goal

pub returns-clause-counted : goal.returns-clause-counted
returns-clause-counted c = c.reports_count_truly.ensures c.args.model.now c.args.output.now _ _ c.analyse_named.ensures.analysed
