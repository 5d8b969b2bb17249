use Rattle.std.proofs.Common.{◌∷◌, string_bytes, flat_map, get_or, ap, sym, subst, ◌∙◌, refl}
use Rattle.terms.specs.declared.term.Way.TheVariants.{Series, Parallel}
use Rattle.diagram.specs.Histories.{adding, joining, bridging, restating, number}
use Rattle.diagram.specs.Runs.{as_reply}
use Rattle.calls.specs.Numbers.{WritesNumbers}
use Rattle.calls.specs.Played.{state_numbers}
use Rattle.calls.proofs.Reading.{five, first_and_rest}
use Rattle.calls.proofs.Calling.{after, name_first, called, asked_as, number_answer}
use Rattle.calls.proofs.play.call.Goals as goal

pub returns-in-add-default : goal.returns-in-add-default
returns-in-add-default g c =
    asked_as g.P.Written g.P.Performance c.args.line.now c.unwrap_or.result.0.now c.unwrap_or.result.1.now c.as_slice-states.result.now c.args.diagram.now c.args.store.now c.add.new.self c.add.new.store c.answer_text.result string_bytes
    (name_first c.args.line.now c.split_once.result _ c.unwrap_or.result c.split_once.ensures.cases c.unwrap_or.ensures refl refl)
    (subst (WritesNumbers c.unwrap_or.result.1.now) (sym c.as_slice-states.ensures.value) c.in_ok-numbers.ensures)
    (called g.P.Written g.P.Performance c.unwrap_or.result.0.now c.as_slice-states.result.now c.args.diagram.now c.args.store.now c.add.new.self c.add.new.store
    (adding c.deref.result.now) (as_reply number c.add.result) c.answer_text.result string_bytes c.in-add-default.is-add-0 (sym c.in_ok-states-in-add-default.ensures ∙ ap (flat_map (state_numbers g.P.Written)) (sym c.deref.ensures.value))
    (c.add.result, c.add.ensures, refl) (after c.answer_text.result (λ said. number_answer g.P.Written c.add.result (string_bytes said)) c.answer_text.ensures))

pub returns-in-restate-len1-up : goal.returns-in-restate-len1-up
returns-in-restate-len1-up g c =
    asked_as g.P.Written g.P.Performance c.args.line.now c.unwrap_or.result.0.now c.unwrap_or.result.1.now c.as_slice-states.result.now c.args.diagram.now c.args.store.now c.restate.new.self c.restate.new.store c.answer_text-in-restate-len1-up.result string_bytes
    (name_first c.args.line.now c.split_once.result _ c.unwrap_or.result c.split_once.ensures.cases c.unwrap_or.ensures refl refl)
    (subst (WritesNumbers c.unwrap_or.result.1.now) (sym c.as_slice-states.ensures.value) c.in_ok-numbers.ensures)
    (called g.P.Written g.P.Performance c.unwrap_or.result.0.now c.as_slice-states.result.now c.args.diagram.now c.args.store.now c.restate.new.self c.restate.new.store
    (restating (get_or c.as_slice-states.result.now 0 0) c.deref-in-restate-len1-up.result.now) (as_reply number c.restate.result) c.answer_text-in-restate-len1-up.result string_bytes c.in-restate-len1-up.is-restate-0 (first_and_rest _ c.in-restate-len1-up.len_at_least ∙ ap (λ l. get_or c.as_slice-states.result.now 0 0 ∷ l) (sym c.in_ok-states-in-restate-len1-up.ensures ∙ ap (flat_map (state_numbers g.P.Written)) (sym c.deref-in-restate-len1-up.ensures.value)))
    (c.restate.result, c.restate.ensures, refl) (after c.answer_text-in-restate-len1-up.result (λ said. number_answer g.P.Written c.restate.result (string_bytes said)) c.answer_text-in-restate-len1-up.ensures))

pub returns-in-series-default : goal.returns-in-series-default
returns-in-series-default g c =
    asked_as g.P.Written g.P.Performance c.args.line.now c.unwrap_or.result.0.now c.unwrap_or.result.1.now c.as_slice-states.result.now c.args.diagram.now c.args.store.now c.join.new.self c.args.store.now c.answer_text-in-series-default.result string_bytes
    (name_first c.args.line.now c.split_once.result _ c.unwrap_or.result c.split_once.ensures.cases c.unwrap_or.ensures refl refl)
    (subst (WritesNumbers c.unwrap_or.result.1.now) (sym c.as_slice-states.ensures.value) c.in_ok-numbers.ensures)
    (called g.P.Written g.P.Performance c.unwrap_or.result.0.now c.as_slice-states.result.now c.args.diagram.now c.args.store.now c.join.new.self c.args.store.now
    (joining Series c.deref-in-series-default.result.now) (as_reply number c.join.result) c.answer_text-in-series-default.result string_bytes c.in-series-default.is-series-0 (sym c.in_ok-children-in-series-default.ensures ∙ sym c.deref-in-series-default.ensures.value)
    (c.join.result, c.join.ensures, refl, refl) (after c.answer_text-in-series-default.result (λ said. number_answer g.P.Written c.join.result (string_bytes said)) c.answer_text-in-series-default.ensures))

pub returns-in-parallel-default : goal.returns-in-parallel-default
returns-in-parallel-default g c =
    asked_as g.P.Written g.P.Performance c.args.line.now c.unwrap_or.result.0.now c.unwrap_or.result.1.now c.as_slice-states.result.now c.args.diagram.now c.args.store.now c.join-in-parallel-default.new.self c.args.store.now c.answer_text-in-parallel-default.result string_bytes
    (name_first c.args.line.now c.split_once.result _ c.unwrap_or.result c.split_once.ensures.cases c.unwrap_or.ensures refl refl)
    (subst (WritesNumbers c.unwrap_or.result.1.now) (sym c.as_slice-states.ensures.value) c.in_ok-numbers.ensures)
    (called g.P.Written g.P.Performance c.unwrap_or.result.0.now c.as_slice-states.result.now c.args.diagram.now c.args.store.now c.join-in-parallel-default.new.self c.args.store.now
    (joining Parallel c.deref-in-parallel-default.result.now) (as_reply number c.join-in-parallel-default.result) c.answer_text-in-parallel-default.result string_bytes c.in-parallel-default.is-parallel-0 (sym c.in_ok-children-in-parallel-default.ensures ∙ sym c.deref-in-parallel-default.ensures.value)
    (c.join-in-parallel-default.result, c.join-in-parallel-default.ensures, refl, refl) (after c.answer_text-in-parallel-default.result (λ said. number_answer g.P.Written c.join-in-parallel-default.result (string_bytes said)) c.answer_text-in-parallel-default.ensures))

pub returns-in-bridge-len5 : goal.returns-in-bridge-len5
returns-in-bridge-len5 g c =
    let ns = c.as_slice-states.result.now in
    asked_as g.P.Written g.P.Performance c.args.line.now c.unwrap_or.result.0.now c.unwrap_or.result.1.now c.as_slice-states.result.now c.args.diagram.now c.args.store.now c.join_bridge.new.self c.args.store.now c.answer_text-in-bridge-len5.result string_bytes
    (name_first c.args.line.now c.split_once.result _ c.unwrap_or.result c.split_once.ensures.cases c.unwrap_or.ensures refl refl)
    (subst (WritesNumbers c.unwrap_or.result.1.now) (sym c.as_slice-states.ensures.value) c.in_ok-numbers.ensures)
    (called g.P.Written g.P.Performance c.unwrap_or.result.0.now c.as_slice-states.result.now c.args.diagram.now c.args.store.now c.join_bridge.new.self c.args.store.now
    (bridging (get_or ns 0 0) (get_or ns 1 0) (get_or ns 2 0) (get_or ns 3 0) (get_or ns 4 0)) (as_reply number c.join_bridge.result) c.answer_text-in-bridge-len5.result string_bytes
    c.in-bridge-len5.is-bridge-0 (five _ c.in-bridge-len5.len_at_least c.in-bridge-len5.len_below)
    (c.join_bridge.result, c.join_bridge.ensures, refl, refl) (after c.answer_text-in-bridge-len5.result (λ said. number_answer g.P.Written c.join_bridge.result (string_bytes said)) c.answer_text-in-bridge-len5.ensures))

pub returns : goal.returns
returns g c =
    asked_as g.P.Written g.P.Performance c.args.line.now c.unwrap_or.result.0.now c.unwrap_or.result.1.now c.as_slice-states.result.now c.args.diagram.now c.args.store.now c.ask.new.diagram c.ask.new.store c.ask.result string_bytes
    (name_first c.args.line.now c.split_once.result _ c.unwrap_or.result c.split_once.ensures.cases c.unwrap_or.ensures refl refl)
    (subst (WritesNumbers c.unwrap_or.result.1.now) (sym c.as_slice-states.ensures.value) c.in_ok-numbers.ensures)
    c.ask.ensures
