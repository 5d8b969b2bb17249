-- The lines of the terms, one after the other.
use Rattle.std.proofs.Common.{◌≡◌, ◌≤◌, Ok, refl, arith}
use Rattle.diagram.specs.declared.limits.TheConstants.{TERMS}
use Rattle.diagram.specs.Shown.{records}
use Rattle.diagram.specs.Records.{size_at}
use Rattle.diagram.proofs.RunGoesOn.{granted}
use Rattle.diagram.proofs.PassedOn.{passed}
use Rattle.files.proofs.Lines.{one_more, all_lines}
use Rattle.files.proofs.Shown.{sized, row_long, tells}
use Rattle.files.proofs.report.terms.Goals as goal
use Rattle.files.proofs.report.terms.Goals.{In_ok-size}

-- the size that is told is that in the record, and small
small : (g : _) → (c : In_ok-size g) → (c.in_ok-size.size ≡ size_at (records c.args.diagram.now) c.args.k) × (c.in_ok-size.size ≤ TERMS)
small g c =
    let told : c.size.result ≡ Ok c.in_ok-size.size = passed _ c.map_err.ensures.cases c.in_ok-size.was in
    sized c.args.store.now c.args.k c.in_ok-size.size c.args.diagram.now.sound (rw (told, c.from.ensures) at c.size.ensures)

pub loop-i-preserved : goal.loop-i-preserved
loop-i-preserved g c = record {
  short = let now = c.term-in-loop-i.ensures in let before = c.loop-i.invariant.short in omega (arith, now.wrote.len, now.short);
  lines = λ a.
      let many = small g (goal.at.loop-i-preserved g c).In_ok-size in
      let told : c.term.result ≡ Ok c.in_ok-t.t = passed _ c.map_err-in-loop-i.ensures.cases c.in_ok-t.was in
      one_more c.in_ok-t.t (omega (arith, many.0, row_long c.args.diagram.now.sound a))
      (granted (omega (arith, many.0)) (tells a (rw (told, c.from-in-loop-i.ensures) at c.term.ensures)))
      (c.loop-i.invariant.lines a)
      (rw (c.high.ensures, c.low.ensures, c.word.ensures) at c.term-in-loop-i.ensures.wrote);
}

pub returns-clause-wrote : goal.returns-clause-wrote
returns-clause-wrote g c = λ a. let many = small g (goal.at.returns-clause-wrote g c).In_ok-size in (refl, all_lines (omega (arith, many.0, row_long c.args.diagram.now.sound a)) (c.loop-i.invariant.lines a))
