use Rattle.calls.proofs.play.answer_text.Goals as goal

pub returns-in_ok-format-in-Ok : goal.returns-in_ok-format-in-Ok
returns-in_ok-format-in-Ok g c = rw c.in-Ok.is c.in_ok-format-in-Ok.ensures.ok
