use Rattle.std.proofs.Common.{IfOk, Result, Ok, Err, subst}
use Rattle.kinds.specs.contracts.flow.FlowPerformance.TheImpl as flow_kind
use Rattle.diagram.specs.Shown.{records}
use Rattle.diagram.specs.Store.{row_at}
use Rattle.worked.specs.Plants.{RowAsDrawn, plant_redrawn}
use Rattle.worked.proofs.flows.second_drawing.Goals as goal

if_ok_then : {A E : Type 0} {P Q : A → Type 0} (r : Result A E) → ((a : A) → P a → Q a) → IfOk r P → IfOk r Q
if_ok_then (Ok a) more x = more a x
if_ok_then (Err e) more x = tt

pub returns : goal.returns
returns c =
    let drawn = c.in_ok-drawn.drawn in
    let row = row_at (records drawn.diagram) c.redraw.new.store drawn.nodes.plant in
    let is_row = subst (λ r. IfOk r (λ d. RowAsDrawn flow_kind.ghosts c.args.parts.now plant_redrawn (row_at (records d.diagram) c.redraw.new.store d.nodes.plant))) c.in_ok-drawn.ensures c.redraw.ensures.row in
    if_ok_then c.show_answers.result (λ a x. (row, is_row, x)) c.show_answers.ensures
