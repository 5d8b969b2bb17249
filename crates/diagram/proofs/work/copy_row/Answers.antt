use Rattle.std.proofs.Common.{◌+◌, ◌-◌, ◌*◌, length, take, drop, ap, ◌∙◌, arith}
use Rattle.std.proofs.lemmas.List.{length-drop, length-take, take_all}
use Rattle.diagram.specs.declared.limits.TheConstants.{TERMS}
use Rattle.diagram.proofs.StoreWrites.{stands, others_kept}
use Rattle.diagram.proofs.work.copy_row.Goals as goal

pub returns-clause-stands : goal.returns-clause-stands
returns-clause-stands g c = stands c.args.k _ c.args.rows.now c.copy_from_slice.new.self (omega arith) (omega arith) (omega arith) c.args.row.now (omega arith) (ap (take (length c.args.row.now)) c.copy_from_slice.ensures.after ∙ take_all (length c.args.row.now) c.args.row.now (omega arith))

pub returns-clause-others : goal.returns-clause-others
returns-clause-others g c = others_kept c.args.k _ c.args.rows.now c.copy_from_slice.new.self (omega arith) (omega arith) (omega arith)

pub copy_from_slice-requires : goal.copy_from_slice-requires
copy_from_slice-requires g c = omega (arith, length-take (TERMS * c.args.k + length c.args.row.now - TERMS * c.args.k) (drop (TERMS * c.args.k) c.args.rows.now), length-drop (TERMS * c.args.k) c.args.rows.now)
