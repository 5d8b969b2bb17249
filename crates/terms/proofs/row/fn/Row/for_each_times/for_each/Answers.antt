use Rattle.terms.proofs.row.fn.Row.for_each_times.for_each.Goals as goal

pub returns : goal.returns
returns g c = λ gives grows. rw (← c.scaled.ensures) (grows _ _ _ _ c.step.ensures)
