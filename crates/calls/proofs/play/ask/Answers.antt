use Rattle.std.proofs.Common.{[], ◌∷◌, get_or, string_bytes, sym, ◌∙◌, refl}
use Rattle.diagram.specs.Histories.{size, term, total, availability, collecting, asking, number, one_term, one_weight, two_weights}
use Rattle.diagram.specs.Runs.{as_reply}
use Rattle.calls.proofs.Reading.{one, two, three}
use Rattle.calls.proofs.Calling.{after, called, number_answer, weight_answer, term_answer, weights_answer}
use Rattle.calls.proofs.play.ask.Goals as goal

pub returns-in-collect-len1 : goal.returns-in-collect-len1
returns-in-collect-len1 g c =
    called g.P.Written g.P.Performance c.args.name.now c.args.numbers.now c.args.diagram.now c.args.store.now c.collect.new.self c.collect.new.store
    (collecting _) (as_reply number c.collect.result) c.answer_text.result string_bytes c.in-collect-len1.is-collect-0 (one _ c.in-collect-len1.len_at_least c.in-collect-len1.len_below)
    (c.collect.result, c.collect.ensures, refl) (after c.answer_text.result (λ said. number_answer g.P.Written c.collect.result (string_bytes said)) c.answer_text.ensures)

pub returns-in-size-len1 : goal.returns-in-size-len1
returns-in-size-len1 g c =
    called g.P.Written g.P.Performance c.args.name.now c.args.numbers.now c.args.diagram.now c.args.store.now c.args.diagram.now c.args.store.now
    (asking _ size) (as_reply number c.size.result) c.answer_text-in-size-len1.result string_bytes c.in-size-len1.is-size-0 (one _ c.in-size-len1.len_at_least c.in-size-len1.len_below)
    ((c.size.result, c.size.ensures, refl), refl, refl) (after c.answer_text-in-size-len1.result (λ said. number_answer g.P.Written c.size.result (string_bytes said)) c.answer_text-in-size-len1.ensures)

pub returns-in-term-len2 : goal.returns-in-term-len2
returns-in-term-len2 g c =
    called g.P.Written g.P.Performance c.args.name.now c.args.numbers.now c.args.diagram.now c.args.store.now c.args.diagram.now c.args.store.now
    (asking _ (term _)) (as_reply one_term c.term.result) c.term_answer_text.result string_bytes c.in-term-len2.is-term-0 (two _ c.in-term-len2.len_at_least c.in-term-len2.len_below)
    ((c.term.result, c.term.ensures, refl), refl, refl) (after c.term_answer_text.result (λ said. term_answer g.P.Written c.term.result (string_bytes said)) c.term_answer_text.ensures)

pub returns-in-total-len1 : goal.returns-in-total-len1
returns-in-total-len1 g c =
    called g.P.Written g.P.Performance c.args.name.now c.args.numbers.now c.args.diagram.now c.args.store.now c.args.diagram.now c.args.store.now
    (asking _ total) (as_reply one_weight c.total.result) c.answer_text-in-total-len1.result string_bytes c.in-total-len1.is-total-0 (one _ c.in-total-len1.len_at_least c.in-total-len1.len_below)
    ((c.total.result, c.total.ensures, refl), refl, refl) (after c.answer_text-in-total-len1.result (λ said. weight_answer g.P.Written c.total.result (string_bytes said)) c.answer_text-in-total-len1.ensures)

pub returns-in_ok-demand-in-availability-len3 : goal.returns-in_ok-demand-in-availability-len3
returns-in_ok-demand-in-availability-len3 g c =
    let words = c.in_ok-demand-in-availability-len3.ensures in
    called g.P.Written g.P.Performance c.args.name.now c.args.numbers.now c.args.diagram.now c.args.store.now c.args.diagram.now c.args.store.now
    (asking (get_or c.args.numbers.now 0 0) (availability c.in_ok-demand-in-availability-len3.demand)) (as_reply (λ w. two_weights w.0 w.1) c.availability.result) c.weights_answer_text.result string_bytes
    c.in-availability-len3.is-availability-0 (three _ c.in-availability-len3.len_at_least c.in-availability-len3.len_below ∙ (λ i. get_or c.args.numbers.now 0 0 ∷ (sym words i).0 ∷ (sym words i).1 ∷ []))
    ((c.availability.result, c.availability.ensures, refl), refl, refl) (after c.weights_answer_text.result (λ said. weights_answer g.P.Written c.availability.result (string_bytes said)) c.weights_answer_text.ensures)
