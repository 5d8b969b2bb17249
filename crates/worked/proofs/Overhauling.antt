-- The plant with a new pump A: what the calls of an overhaul leave.
use Rattle.std.proofs.Common.{◌≡◌, ℕ, List, ◌∷◌, length, Result, Ok, Err, sym, ap, refl, subst, inr, arith}
use Rattle.kinds.specs.Named.{Parts}
use Rattle.kinds.specs.declared.performance.Performance
use Rattle.kinds.specs.contracts.parts.PartsWeight.TheImpl.{ghosts as weights}
use Rattle.kinds.proofs.Lawful.{Kind}
use Rattle.kinds.proofs.PartsLaws.{parts_laws}
use Rattle.terms.specs.declared.term.Term.{Term}
use Rattle.terms.specs.Rows.{RowOf}
use Rattle.terms.specs.Enumeration.{but, enumeration}
use Rattle.diagram.specs.declared.refusal.Refusal.{Refusal}
use Rattle.diagram.specs.declared.diagram.Diagram.{Diagram}
use Rattle.diagram.specs.Shown.{records}
use Rattle.diagram.specs.Store.{row_at}
use Rattle.diagram.specs.Calls.{Restated, Collected}
use Rattle.diagram.specs.Histories.{restating, collecting, number, History, drawing_of, states_of}
use Rattle.diagram.specs.InTurn.{BothCollected}
use Rattle.diagram.specs.Runs.{AnswersRight}
use Rattle.diagram.proofs.RunGoesOn.{accepted, entry, row_told, answered}
use Rattle.diagram.proofs.CollectedSince.{since_now}
use Rattle.worked.specs.declared.plant.Drawn.{Drawn}
use Rattle.worked.specs.declared.plant.Nodes.{Nodes}
use Rattle.worked.specs.declared.plant.Plant.{Plant}
use Rattle.worked.specs.Plants.{states, plant_drawn, in_order, RowAsDrawn, DrawnOf}

module _ {P : Type 0} (kind : Performance.Ghosts P) (laws : Kind kind) (promise : AnswersRight kind weights) where
  abbrev Terms : Type 0
  Terms = List (Term P Parts)

  abbrev Over : Diagram P Parts → Terms → ℕ → Result ℕ Refusal → Diagram P Parts → Terms → Type 0
  Over d s k r d' s' = Collected kind weights (records d) s k r (records d') s'

  module _ (p : Plant P) (d : Drawn P) (s : Terms) (before : DrawnOf kind p plant_drawn d s) (new : Terms) where
    -- the row of all combinations, once the new states are accepted
    with_new : (h : History P Parts) → states_of h ≡ but 0 new (states_of before.calls) → drawing_of h ≡ drawing_of before.calls → (row : Terms) →
        RowOf kind weights (enumeration kind weights (states_of h) (drawing_of h 4)) row → RowAsDrawn kind (record p { pump_a = new }) plant_drawn row
    with_new h are is row x =
        let one = subst (λ z. RowOf kind weights (enumeration kind weights z (drawing_of h 4)) row) are x in
        let two = subst (λ z. RowOf kind weights (enumeration kind weights (but 0 new (states_of before.calls)) (z 4)) row) is one in
        let three = subst (λ z. RowOf kind weights (enumeration kind weights (but 0 new (states_of before.calls)) z) row) before.drawing two in
        subst (λ (z : Terms × Terms). RowOf kind weights (enumeration kind weights (states (record p { pump_a = new; pump_b = z.0; pipe = z.1 })) plant_drawn) row) (λ i. (before.pump_b i, before.pipe i)) three

    pub overhauled : (k : ℕ) (why : Refusal) (d1 d2 d4 : Diagram P Parts) (s1 s2 s4 : Terms) →
        Restated kind weights (records d.diagram) s d.nodes.pump_a new (Ok k) (records d1) s1 → Over d1 s1 d.nodes.plant (Err why) d2 s2 →
        BothCollected kind weights (records d2) s2 d.nodes.pumps d.nodes.plant (records d4) s4 → RowAsDrawn kind (record p { pump_a = new }) plant_drawn (row_at (records d4) s4 d.nodes.plant)
    overhauled k why d1 d2 d4 s1 s2 s4 restated early (d3, s3, m, n, first, second) =
        let is : (node : Nodes → ℕ) → node d.nodes ≡ node in_order = λ node. ap node before.nodes in
        let one = answered kind weights promise (length s) (accepted restated).0 before.run refl (restating 0 new) d1 s1 (Ok (number k))
        (Ok k, subst (λ z. Restated kind weights (records d.diagram) s z new (Ok k) (records d1) s1) (is (λ z. z.pump_a)) restated, refl) in
        let long = (accepted (accepted (accepted (accepted restated).1).1).1).1.4.others.as_long in
        let two = answered kind weights promise (length s1) (omega (arith, (accepted restated).0, long)) one.1 refl (collecting 4) d2 s2 (Err why) (Err why, subst (λ z. Over d1 s1 z (Err why) d2 s2) (is (λ z. z.plant)) early, refl) in
        let three = answered kind weights promise (length s2) (accepted first).0 two.1 refl (collecting 3) d3 s3 (Ok (number m)) (Ok m, subst (λ z. Over d2 s2 z (Ok m) d3 s3) (is (λ z. z.pumps)) first, refl) in
        let four = answered kind weights promise (length s3) (accepted second).0 three.1 refl (collecting 4) d4 s4 (Ok (number n)) (Ok n, subst (λ z. Over d3 s3 z (Ok n) d4 s4) (is (λ z. z.plant)) second, refl) in
        let calls : History P Parts = entry (collecting 4) (length s3) (Ok (number n)) ∷ entry (collecting 3) (length s2) (Ok (number m)) ∷ entry (collecting 4) (length s1) (Err why) ∷ entry (restating 0 new) (length s) (Ok (number k)) ∷ before.calls in
        let last = row_told kind weights laws parts_laws calls d4 s4 4 four.1 (omega (arith, before.five)) (inr (since_now _ _ 4 refl)) in
        subst (λ z. RowAsDrawn kind (record p { pump_a = new }) plant_drawn (row_at (records d4) s4 z)) (sym (is (λ z. z.plant))) (with_new calls refl refl _ last)
