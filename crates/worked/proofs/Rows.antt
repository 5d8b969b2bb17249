-- A row of a diagram, copied term by term.
use Rattle.std.proofs.Common.{◌≡◌, ℕ, ◌+◌, ◌-◌, ◌*◌, ◌<◌, ◌≤◌, List, [], ◌∷◌, ◌++◌, length, take, drop, set, Ok, sym, ◌∙◌, ap, inl, inr, arith}
use Rattle.std.proofs.lemmas.List.{take_more, take_more_set, length-take-le, length-drop, length-set}
use Rattle.kinds.specs.declared.performance.Performance
use Rattle.kinds.specs.declared.weight.Weight
use Rattle.terms.specs.declared.term.Term.{Term}
use Rattle.diagram.specs.declared.limits.TheConstants.{NODES, TERMS, STORE}
use Rattle.diagram.specs.declared.table.Table.{Table}
use Rattle.diagram.specs.Records.{Sound, size_at}
use Rattle.diagram.specs.Store.{row_at, places_of}
use Rattle.diagram.specs.Calls.{TellsTerm}
use Rattle.diagram.proofs.Collected.{width}
use Rattle.diagram.proofs.RunGoesOn.{ok_not_err}

-- a node has so many places
room : {T : Type 0} (k : ℕ) (s : List T) → k < NODES → STORE ≤ length s → length (places_of k s) ≡ TERMS
room k s node roomy =
    let places = drop (TERMS * k) s in
    ap (λ n. length (take n places)) (width k) ∙ length-take-le TERMS places (omega (arith, node, roomy, length-drop (TERMS * k) s))

module _ {P W : Type 0} (kind : Performance.Ghosts P) (weights : Weight.Ghosts W) (t : Table) (sound : Sound t) (s : List (Term P W)) (k i : ℕ) (x : Term P W) (terms : List (Term P W)) (wide : length terms ≡ TERMS) (front : take i terms ≡ take i (row_at t s k)) where
  -- the next term is answered, and put
  pub copied : TellsTerm kind weights t s k i (Ok x) → (length (set terms i x) ≡ TERMS) × (take (i + 1) (set terms i x) ≡ take (i + 1) (row_at t s k))
  copied (inr (_, e)) = absurd (ok_not_err e)
  copied (inl (roomy, inr (_, e))) = absurd (ok_not_err e)
  copied (inl (roomy, inl (node, inr (_, e)))) = absurd (ok_not_err e)
  copied (inl (roomy, inl (node, inl (current, inr (_, e))))) = absurd (ok_not_err e)
  copied (inl (roomy, inl (node, inl (current, inl (within, is))))) =
      let row = row_at t s k in
      let few = sound.few in
      let sized = (sound.at k node).own.sized in
      let long = length-take-le (size_at t k) (places_of k s) (omega (arith, sized, room k s (omega (arith, node, few)) roomy)) in (
        length-set terms i x ∙ wide,
        take_more_set terms i x (omega (arith, within, sized, wide)) ∙ ap (λ z. z ++ x ∷ []) front
            ∙ sym (take_more row i x (omega (arith, within, long)) ∙ ap (λ z. take i row ++ z ∷ []) is),
      )
