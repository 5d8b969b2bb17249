use Rattle.std.proofs.Common.{inl, inr}
use Rattle.diagram.proofs.PassedOn.{so_passed_on}
use Rattle.worked.proofs.plant.Drawn.collect.Goals as goal

pub returns-in_err-collect-clause-refused : goal.returns-in_err-collect-clause-refused
returns-in_err-collect-clause-refused g c = so_passed_on _ _ _ c.from_residual.ensures.1 (inl c.in_err-collect.ensures)

pub returns-in_err-collect-2-clause-refused : goal.returns-in_err-collect-2-clause-refused
returns-in_err-collect-2-clause-refused g c =
    so_passed_on _ _ _ c.from_residual-in_err-collect-2.ensures.1 (inr (c.collect.new.self, c.collect.new.store, c.in_ok-collect.field-0, c.in_ok-collect.ensures, c.in_err-collect-2.ensures))

pub returns-clause-collected : goal.returns-clause-collected
returns-clause-collected g c =
    (c.collect.new.self, c.collect.new.store, c.in_ok-collect.field-0, c.in_ok-collect-2.field-0, c.in_ok-collect.ensures, c.in_ok-collect-2.ensures)
