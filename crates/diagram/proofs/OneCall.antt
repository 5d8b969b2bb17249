-- One call more: its answer is right, and the records and the store are as the longer history has them.
use Rattle.std.proofs.Common.{◌≡◌, ◌≢◌, ◌⊎◌, ◌↔◌, ℕ, ◌+◌, ◌<◌, ◌≤◌, List, [], ◌∷◌, length, All, AllPairs, Contains, Option, Some, None, Result, Ok, Err, sym, ◌∙◌, ap, refl, subst, inl, inr, arith}
use Rattle.std.proofs.lemmas.Bool.{cases_lt, true≢false}
use Rattle.std.proofs.lemmas.List.Elements.{All-contains, All-contains_itself, All-weaker}
use Rattle.kinds.specs.declared.performance.Performance
use Rattle.kinds.specs.declared.weight.Weight
use Rattle.kinds.proofs.Lawful.{Kind, Weighing}
use Rattle.terms.specs.declared.term.Term.{Term}
use Rattle.terms.specs.declared.term.Way.{Way}
use Rattle.terms.specs.Rows.{SameDistribution, RowOf}
use Rattle.terms.specs.Drawings.{part, Beneath, NoPartTwice}
use Rattle.terms.specs.Enumeration.{but, enumeration}
use Rattle.diagram.specs.declared.limits.TheConstants.{NODES, STORE}
use Rattle.diagram.specs.declared.refusal.Refusal.{Refusal}
use Rattle.diagram.specs.declared.refusal.Refusal.TheVariants.{NoNumberLeft, WrongStates, WrongChildren, NoNode, InUse, Repeated, NotPart, NotJoined, StaleChild, LongArm, LongResult}
use Rattle.diagram.specs.declared.node.Form.{Form}
use Rattle.diagram.specs.declared.node.Form.TheVariants.{Part, Joined, Bridge}
use Rattle.diagram.specs.declared.node.Node.{Node}
use Rattle.diagram.specs.declared.node.Status.TheVariants.{UpToDate}
use Rattle.diagram.specs.declared.table.Table.{Table}
use Rattle.diagram.specs.Refusals.{Asked}
use Rattle.diagram.specs.Records.{Sound, form_at, status_at, size_at, children_at}
use Rattle.diagram.specs.Changes.{PartAdded, NodeJoined, PartRestated, NodeCollected}
use Rattle.diagram.specs.Store.{places_of, row_at, RowPut}
use Rattle.diagram.specs.Results.{joining_of, RowOfDrawing}
use Rattle.diagram.specs.Calls.{Asks, Free, Refused, TooLong, Added, Joins, Restated, Collected}
use Rattle.diagram.specs.Histories.{Call, adding, joining, bridging, restating, collecting, asking, Question, IsPart, Answer, number, Reply, Entry, History, Making, joined_from, bridged_from, making_by, restating_by, collecting_by, makes, restates, collects, drawn_by, made, making_of, Unused, drawing_of, states_of, CollectedSince, noted_making, noted_drawing, noted_states, changed_states, with_one}
use Rattle.diagram.specs.RightAnswers.{RightAnswer, RowOfNode}
use Rattle.diagram.specs.RightAnswers as RA
use Rattle.diagram.specs.Runs.{as_reply}
use Rattle.diagram.proofs.Facts.{is_part, some_same}
use Rattle.diagram.proofs.Collected.{none_or_some}
use Rattle.diagram.proofs.CollectedSince.{contains_cons, collecting_in, since_now, since_kept, since_split}
use Rattle.diagram.proofs.HistoryFits.{Holds, Matches, holds_there, but_else}
use Rattle.diagram.proofs.NodeMade.{holds_added, holds_joined}
use Rattle.diagram.proofs.NodeChanged.{holds_restated, holds_collected}
use Rattle.diagram.proofs.Results.{SameResults, joining_same}
use Rattle.diagram.proofs.PartsBelow.{none_twice}
use Rattle.diagram.proofs.Questions.{HoldsAfter, node_question, room_question, nodes_question, free_question, part_question, current_question, children_question, arms_question, child_known}

-- a question and what follows it, put to the history; x goes along
pub through : {Q Q' refused rest e rest' X : Type 0} → (Q ↔ Q') → Asked Q refused rest → (refused → e × X) → (Q → rest → rest' × X) → Asked Q' e rest' × X
through iff (inl (q, r)) at_no at_yes = let z = at_yes q r in (inl (iff.0 q, z.0), z.1)
through iff (inr (n, x)) at_no at_yes = let z = at_no x in (inr ((λ q'. n (iff.1 q')), z.0), z.1)

same : {Q : Type 0} → Q ↔ Q
same = ((λ q. q), (λ q. q))

abbrev first_of : {A : Type 0} → ℕ → Option (ℕ × A) → ℕ
first_of d None = d
first_of d (Some x) = x.0

abbrev pub entry : {P W : Type 0} → Call P W → ℕ → Reply P W → Entry P W
entry call lent reply = record { call = call; lent = lent; reply = reply }

module _ {P W : Type 0} (kind : Performance.Ghosts P) (weights : Weight.Ghosts W) where
  -- an entry that makes, restates and collects nothing
  pub record Idle (e : Entry P W) : Type 0 where
    pub makes_none : makes e ≡ None
    pub restates_none : restates e ≡ None
    pub collects_none : collects e ≡ None

  pub refused_idle : (call : Call P W) (lent : ℕ) (why : Refusal) → Idle (entry call lent (Err why))
  refused_idle (adding states) lent why = record { makes_none = refl; restates_none = refl; collects_none = refl }
  refused_idle (joining way children) lent why = record { makes_none = refl; restates_none = refl; collects_none = refl }
  refused_idle (bridging a b c d e) lent why = record { makes_none = refl; restates_none = refl; collects_none = refl }
  refused_idle (restating k states) lent why = record { makes_none = refl; restates_none = refl; collects_none = refl }
  refused_idle (collecting k) lent why = record { makes_none = refl; restates_none = refl; collects_none = refl }
  refused_idle (asking k question) lent why = record { makes_none = refl; restates_none = refl; collects_none = refl }

  -- what is collected is a node
  abbrev pub Known : History P W → Table → Type 0
  Known h t = (e : Entry P W) (k : ℕ) → Contains h e → collects e ≡ Some k → k < t.count

  known_more : (e : Entry P W) (h : History P W) (t t' : Table) → t.count ≤ t'.count → ((k : ℕ) → collects e ≡ Some k → k < t'.count) → Known h t → Known (e ∷ h) t'
  known_more e h t t' more now known x k i c = elim (contains_cons h i) [
    | inl q ↦ now k (ap collects q ∙ c)
    | inr j ↦ let b = known x k j c in omega (arith, b, more)
  ]

  module _ (h : History P W) (t : Table) (s : List (Term P W)) (holds : HoldsAfter kind weights h t s) where
    holds_idle : (e : Entry P W) → Idle e → HoldsAfter kind weights (e ∷ h) t s
    holds_idle e idle = at (makes e) idle.makes_none (restates e) idle.restates_none
      where
        drawn : (k : ℕ) → drawing_of (e ∷ h) k ≡ drawing_of h k
        drawn k = ap (λ m. noted_drawing m (drawing_of h) k) idle.makes_none

        as_before : (k : ℕ) → CollectedSince (e ∷ h) k ↔ CollectedSince h k
        as_before k = (
          (λ c. elim (since_split e h k (drawn k) c) [ inl x ↦ absurd (none_or_some idle.collects_none x) | inr x ↦ x.0 ]),
          (λ c. since_kept e h k (drawn k) (λ p states r. absurd (none_or_some idle.restates_none r)) c),
        )

        same_since : Holds kind weights (made h) (making_of h) (drawing_of h) (states_of h) (CollectedSince (e ∷ h)) t s
        same_since = record {
          count = holds.count;
          made_so = holds.made_so;
          none_past = holds.none_past;
          drawn = holds.drawn;
          since_made = λ k c. holds.since_made k ((as_before k).0 c);
          up_to_date = λ k b. (
            (λ x. elim ((holds.up_to_date k b).0 x) [ inl p ↦ inl p | inr c ↦ inr ((as_before k).1 c) ]),
            (λ x. (holds.up_to_date k b).1 (elim x [ inl p ↦ inl p | inr c ↦ inr ((as_before k).0 c) ])),
          );
          rows = holds.rows;
          full = holds.full;
        }

        at : (m : Option (ℕ × Making P W)) → m ≡ None → (r : Option (ℕ × List (Term P W))) → r ≡ None →
            Holds kind weights (with_one m (made h)) (noted_making m (making_of h)) (noted_drawing m (drawing_of h)) (changed_states r (noted_states m (states_of h))) (CollectedSince (e ∷ h)) t s
        at None em None er = same_since
        at (Some m) em r er = absurd (none_or_some em refl)
        at None em (Some r) er = absurd (none_or_some er refl)

  -- what is so after a call that got this answer
  abbrev pub After : History P W → Call P W → ℕ → Reply P W → Table → List (Term P W) → Type 0
  After h call lent reply t' s' = HoldsAfter kind weights (entry call lent reply ∷ h) t' s' × Known (entry call lent reply ∷ h) t'

  module _ (h : History P W) (t t' : Table) (s s' : List (Term P W)) (sound : Sound t) (sound' : Sound t') (holds : HoldsAfter kind weights h t s) (known : Known h t) (lent : ℕ) where
    pub idle_after : (call : Call P W) (reply : Reply P W) → Idle (entry call lent reply) → t' ≡ t → ((j : ℕ) → j < NODES → places_of j s' ≡ places_of j s) → After h call lent reply t' s'
    idle_after call reply idle records places = subst (λ z. After h call lent reply z s') (sym records) (
      holds_idle h t s' (holds_there sound s s' places holds) (entry call lent reply) idle,
      known_more (entry call lent reply) h t t (omega arith) (λ k c. absurd (none_or_some idle.collects_none c)) known,
    )

    pub refused_after : {A : Type 0} (call : Call P W) (reply : Reply P W) (r : Result A Refusal) (to : A → Answer P W) (why : Refusal) → Refused t s r t' s' why → reply ≡ as_reply to r →
        (reply ≡ Err why) × After h call lent reply t' s'
    refused_after call reply r to why x e =
        let is = e ∙ ap (as_reply to) x.answer in
        (is, subst (λ z. After h call lent z t' s') (sym is) (idle_after call (Err why) (refused_idle call lent why) x.records (λ j l. ap (places_of j) x.store)))

    too_long_after : (k : ℕ) (reply : Reply P W) (r : Result ℕ Refusal) → TooLong t s r t' s' → reply ≡ as_reply number r → (reply ≡ Err LongResult) × After h (collecting k) lent reply t' s'
    too_long_after k reply r x e =
        let is = e ∙ ap (as_reply number) x.answer in
        (is, subst (λ z. After h (collecting k) lent z t' s') (sym is) (idle_after (collecting k) (Err LongResult) (refused_idle (collecting k) lent LongResult) x.records (λ j l. x.store.places j l (λ f. f))))

    -- one more node: what is collected since is what was
    as_before : (e : Entry P W) → collects e ≡ None → restates e ≡ None → ((k : ℕ) → k < t.count → drawing_of (e ∷ h) k ≡ drawing_of h k) → (k : ℕ) → CollectedSince (e ∷ h) k ↔ CollectedSince h k
    as_before e none_c none_r drawn k = elim (cases_lt k t.count) [
      | inl b ↦ (
        (λ c. elim (since_split e h k (drawn k b) c) [ inl x ↦ absurd (none_or_some none_c x) | inr x ↦ x.0 ]),
        (λ c. since_kept e h k (drawn k b) (λ p states r. absurd (none_or_some none_r r)) c),
      )
      | inr past ↦ (
        (λ c.
            let i = collecting_in (e ∷ h) k c in
            elim (contains_cons h i.1) [
              | inl q ↦ absurd (none_or_some none_c (ap collects q ∙ i.2))
              | inr j ↦ let b = known i.0 k j i.2 in absurd (omega (arith, b, past))
            ]),
        (λ c. let b = holds.since_made k c in absurd (omega (arith, b, past))),
      )
    ]

    apart : {k : ℕ} → k < t.count → k ≢ t.count
    apart l e = omega (arith, l, e)

    pub adding_right : (laws : Kind kind) (weigh : Weighing weights) (given : List (Term P W)) (reply : Reply P W) (r : Result ℕ Refusal) → STORE ≤ length s →
        Added kind weights t s given r t' s' → reply ≡ as_reply number r → RightAnswer kind weights h reply (adding given) × After h (adding given) lent reply t' s'
    adding_right laws weigh given reply r roomy (inr (n, x)) e = absurd (n roomy)
    adding_right laws weigh given reply r roomy (inl (q₀, a)) e =
        through (room_question kind weights h t s sound holds) a (λ x. refused_after (adding given) reply r number NoNumberLeft x e)
        (λ q₁ a. through same a (λ x. refused_after (adding given) reply r number WrongStates x e)
        (λ q₂ a. accepted a.0 a.1.0 a.1.1 a.1.2 a.1.3))
      where
        accepted : r ≡ Ok t.count → (row : List (Term P W)) → RowOf kind weights given row → PartAdded t t' (length row) → RowPut t.count row s s' → (reply ≡ Ok (number (made h))) × After h (adding given) lent reply t' s'
        accepted ok row is_row changed put =
            let is = e ∙ ap (as_reply number) ok in
            let now : Entry P W = entry (adding given) lent (Ok (number t.count)) in (
              is ∙ ap (λ z. Ok (number z)) holds.count,
              subst (λ z. After h (adding given) lent z t' s') (sym is) (
                holds_added kind weights (made h) (making_of h) (drawing_of h) (states_of h) (CollectedSince h) t t' s s' sound sound' holds
                    (CollectedSince (now ∷ h)) (as_before now refl refl (λ k b. but_else t.count (part t.count) (drawing_of h) k (apart b)))
                    laws weigh given row is_row changed put,
                known_more now h t t' (omega (arith, changed.number)) (λ k c. absurd (none_or_some refl c)) known,
              ),
            )

    -- what is common to both joinings
    joins_right : (call : Call P W) (m : Making P W) (form : Form) (named : List ℕ) (reply : Reply P W) (r : Result ℕ Refusal) →
        ((k : ℕ) → making_by call (Ok (number k)) ≡ Some (k, m)) → ((x : Reply P W) → restating_by call x ≡ None) → ((x : Reply P W) → collecting_by call x ≡ None) →
        noted_states (Some (t.count, m)) (states_of h) ≡ states_of h → form ≢ Part → (form_at t' t.count ≡ form → children_at t' t.count ≡ named → Matches m t' t.count) → s' ≡ s → reply ≡ as_reply number r →
        Asked (All (λ c. c < t.count) named) (Refused t s r t' s NoNode) (Asked (All (Free t) named) (Refused t s r t' s InUse) (Asked (AllPairs ◌≢◌ named) (Refused t s r t' s Repeated) ((r ≡ Ok t.count) × NodeJoined t t' form named))) →
        Asked (All (λ c. c < made h) named) (reply ≡ Err NoNode) (Asked (All (Unused h) named) (reply ≡ Err InUse) (Asked (AllPairs ◌≢◌ named) (reply ≡ Err Repeated) (reply ≡ Ok (number (made h))))) × After h call lent reply t' s'
    joins_right call m form named reply r makes_m restates_none collects_none states_kept joined as_made kept e a =
        through (nodes_question kind weights h t s sound holds named) a (λ x. refused_at NoNode x)
        (λ nodes a. through (free_question kind weights h t s sound holds named nodes) a (λ x. refused_at InUse x)
        (λ q a. through same a (λ x. refused_at Repeated x)
        (λ q a. accepted a.0 a.1)))
      where
        refused_at : (why : Refusal) → Refused t s r t' s why → (reply ≡ Err why) × After h call lent reply t' s'
        refused_at why x = refused_after call reply r number why (subst (λ z. Refused t s r t' z why) (sym kept) x) e

        accepted : r ≡ Ok t.count → NodeJoined t t' form named → (reply ≡ Ok (number (made h))) × After h call lent reply t' s'
        accepted ok changed =
            let is = e ∙ ap (as_reply number) ok in
            let now : Entry P W = entry call lent (Ok (number t.count)) in
            let none_c : collects now ≡ None = collects_none (Ok (number t.count)) in
            let none_r : restates now ≡ None = restates_none (Ok (number t.count)) in
            let made_it : makes now ≡ Some (t.count, m) = makes_m t.count in
            let drawn : (k : ℕ) → k < t.count → drawing_of (now ∷ h) k ≡ drawing_of h k = λ k b. ap (λ z. noted_drawing z (drawing_of h) k) made_it ∙ but_else t.count (drawn_by m t.count (drawing_of h)) (drawing_of h) k (apart b) in
            let is_made = as_made (ap (λ (x : Node). x.form) changed.record_made) changed.names_them in (
              is ∙ ap (λ z. Ok (number z)) holds.count,
              subst (λ z. After h call lent z t' s') (sym is) (
                subst (λ z. HoldsAfter kind weights (now ∷ h) t' z) (sym kept)
                    (subst (λ z. Holds kind weights (with_one z (made h)) (noted_making z (making_of h)) (noted_drawing z (drawing_of h)) (changed_states (restates now) (noted_states z (states_of h))) (CollectedSince (now ∷ h)) t' s) (sym made_it)
                    (subst (λ z. Holds kind weights (made h + 1) (but t.count (Some m) (making_of h)) (but t.count (drawn_by m t.count (drawing_of h)) (drawing_of h)) (changed_states z (noted_states (Some (t.count, m)) (states_of h))) (CollectedSince (now ∷ h)) t' s) (sym none_r)
                    (subst (λ z. Holds kind weights (made h + 1) (but t.count (Some m) (making_of h)) (but t.count (drawn_by m t.count (drawing_of h)) (drawing_of h)) z (CollectedSince (now ∷ h)) t' s) (sym states_kept)
                    (holds_joined kind weights (made h) (making_of h) (drawing_of h) (states_of h) (CollectedSince h) t t' s s' sound sound' holds
                    (CollectedSince (now ∷ h)) (as_before now none_c none_r drawn) m form named joined is_made changed)))),
                known_more now h t t' (omega (arith, changed.number)) (λ k c. absurd (none_or_some none_c c)) known,
              ),
            )

    way_not_part : {way : Way} → Joined way ≢ Part
    way_not_part e = true≢false (sym (ap is_part e))

    bridge_not_part : Bridge ≢ Part
    bridge_not_part e = true≢false (sym (ap is_part e))

    pub joining_right : (way : Way) (named : List ℕ) (reply : Reply P W) (r : Result ℕ Refusal) → STORE ≤ length s → s' ≡ s →
        Joins kind weights t s (Joined way) named r t' → reply ≡ as_reply number r → RightAnswer kind weights h reply (joining way named) × After h (joining way named) lent reply t' s'
    joining_right way named reply r roomy kept (inr (n, x)) e = absurd (n roomy)
    joining_right way named reply r roomy kept (inl (q₀, a)) e =
        through (room_question kind weights h t s sound holds) a (λ x. refused_at NoNumberLeft x)
        (λ q₁ a. through same a (λ x. refused_at WrongChildren x)
        (λ q₂ a. joins_right (joining way named) (joined_from way named) (Joined way) named reply r (λ k. refl) (λ x. refl) none_c refl way_not_part (λ f c. (f, c)) kept e a))
      where
        refused_at : (why : Refusal) → Refused t s r t' s why → (reply ≡ Err why) × After h (joining way named) lent reply t' s'
        refused_at why x = refused_after (joining way named) reply r number why (subst (λ z. Refused t s r t' z why) (sym kept) x) e

        none_c : (x : Reply P W) → collecting_by (joining way named) x ≡ None
        none_c x = refl

    pub bridging_right : (a b c d g : ℕ) (reply : Reply P W) (r : Result ℕ Refusal) → STORE ≤ length s → s' ≡ s →
        Joins kind weights t s Bridge (a ∷ b ∷ c ∷ d ∷ g ∷ []) r t' → reply ≡ as_reply number r → RightAnswer kind weights h reply (bridging a b c d g) × After h (bridging a b c d g) lent reply t' s'
    bridging_right a b c d g reply r roomy kept (inr (n, x)) e = absurd (n roomy)
    bridging_right a b c d g reply r roomy kept (inl (q₀, asked)) e =
        through (room_question kind weights h t s sound holds) asked (λ x. refused_at NoNumberLeft x)
        (λ q₁ asked. elim asked [
          | inr n ↦ absurd (n.0 refl)
          | inl y ↦ joins_right (bridging a b c d g) (bridged_from a b c d g) Bridge (a ∷ b ∷ c ∷ d ∷ g ∷ []) reply r (λ k. refl) (λ x. refl) (λ x. refl) refl bridge_not_part (λ f c. (f, c)) kept e y.1
        ])
      where
        refused_at : (why : Refusal) → Refused t s r t' s why → (reply ≡ Err why) × After h (bridging a b c d g) lent reply t' s'
        refused_at why x = refused_after (bridging a b c d g) reply r number why (subst (λ z. Refused t s r t' z why) (sym kept) x) e

    pub restating_right : (weigh : Weighing weights) (k : ℕ) (given : List (Term P W)) (reply : Reply P W) (r : Result ℕ Refusal) → STORE ≤ length s →
        Restated kind weights t s k given r t' s' → reply ≡ as_reply number r → RightAnswer kind weights h reply (restating k given) × After h (restating k given) lent reply t' s'
    restating_right weigh k given reply r roomy (inr (n, x)) e = absurd (n roomy)
    restating_right weigh k given reply r roomy (inl (q₀, a)) e =
        through (node_question kind weights h t s sound holds k) a (λ x. refused_after (restating k given) reply r number NoNode x e)
        (λ low a. through (part_question kind weights h t s sound holds k low) a (λ x. refused_after (restating k given) reply r number NotPart x e)
        (λ is_a_part a. through same a (λ x. refused_after (restating k given) reply r number WrongStates x e)
        (λ q a. accepted low is_a_part a.0 a.1 a.2 a.3 a.4)))
      where
        accepted : k < t.count → form_at t k ≡ Part → (row : List (Term P W)) → RowOf kind weights given row → r ≡ Ok (length row) → PartRestated t t' k (length row) → RowPut k row s s' →
            ((x : List (Term P W)) × RowOf kind weights given x × (reply ≡ Ok (number (length x)))) × After h (restating k given) lent reply t' s'
        accepted low is_a_part row is_row ok changed put =
            let is = e ∙ ap (as_reply number) ok in
            let now : Entry P W = entry (restating k given) lent (Ok (number (length row))) in (
              (row, is_row, is),
              subst (λ z. After h (restating k given) lent z t' s') (sym is) (
                holds_restated kind weights (made h) (making_of h) (drawing_of h) (states_of h) (CollectedSince h) t t' s s' sound sound' holds k low
                    weigh given row is_row is_a_part changed put (CollectedSince (now ∷ h)) (λ j b. (left j, right j)) (λ j c. (left j c).0),
                known_more now h t t' (omega (arith, changed.number)) (λ j c. absurd (none_or_some refl c)) known,
              ),
            )
          where
            left : (j : ℕ) → CollectedSince (entry (restating k given) lent (Ok (number (length row))) ∷ h) j → CollectedSince h j × ¬ Beneath k (drawing_of h j)
            left j c = elim (since_split (entry (restating k given) lent (Ok (number (length row)))) h j refl c) [
              | inl x ↦ absurd (none_or_some refl x)
              | inr x ↦ (x.0, x.1 k given refl)
            ]

            first_same : {p : ℕ} {states : List (Term P W)} → restates (entry (restating k given) lent (Ok (number 0))) ≡ Some (p, states) → k ≡ p
            first_same q = ap (first_of k) q

            right : (j : ℕ) → CollectedSince h j × ¬ Beneath k (drawing_of h j) → CollectedSince (entry (restating k given) lent (Ok (number (length row))) ∷ h) j
            right j x = since_kept (entry (restating k given) lent (Ok (number (length row)))) h j refl
                (λ p states r b. x.1 (subst (λ z. Beneath z (drawing_of h j)) (sym (first_same r)) b)) x.0

    pub collecting_right : (laws : Kind kind) (weigh : Weighing weights) (k : ℕ) (reply : Reply P W) (r : Result ℕ Refusal) → STORE ≤ length s →
        Collected kind weights t s k r t' s' → reply ≡ as_reply number r → RightAnswer kind weights h reply (collecting k) × After h (collecting k) lent reply t' s'
    collecting_right laws weigh k reply r roomy (inr (n, x)) e = absurd (n roomy)
    collecting_right laws weigh k reply r roomy (inl (q₀, a)) e =
        through (node_question kind weights h t s sound holds k) a (λ x. refused_after (collecting k) reply r number NoNode x e)
        (λ low a. through (not_part low) a (λ x. refused_after (collecting k) reply r number NotJoined x e)
        (λ joined a. through (children_question kind weights h t s sound holds k low) a (λ x. refused_after (collecting k) reply r number StaleChild x e)
        (λ up_to_date a. through (arms_question kind weights h t s sound holds laws weigh k low up_to_date) a (λ x. refused_after (collecting k) reply r number LongArm x e)
        (λ q a. through (tells low joined up_to_date).fits a (λ x. too_long_after k reply r x e)
        (λ fit a. worked low joined up_to_date a.0 a.1 a.2 a.3 a.4)))))
      where
        not_part : k < t.count → (form_at t k ≢ Part) ↔ (¬ IsPart h k)
        not_part low =
            let iff = part_question kind weights h t s sound holds k low in
            ((λ n p. n (iff.1 p)), (λ n p. n (iff.0 p)))

        -- the row of the node is that of its drawing, from the children's rows as from the states of the parts
        tells : k < t.count → form_at t k ≢ Part → All (λ c. status_at t c ≡ UpToDate) (children_at t k) → SameResults kind weights (row_at t s) (states_of h) (joining_of t k) (drawing_of h k)
        tells low joined up_to_date =
            let drawn = holds.drawn k low in
            subst (SameResults kind weights (row_at t s) (states_of h) (joining_of t k)) (sym drawn) (joining_same laws weigh (row_at t s) (states_of h) sound k low joined (drawing_of h) (subst NoPartTwice drawn (none_twice sound holds.drawn k low))
            (All-weaker (Contains (children_at t k)) (λ c. SameDistribution kind weights (row_at t s c) (enumeration kind weights (states_of h) (drawing_of h c)))
            (λ c i p. sym ((holds.rows c (child_known kind weights h t s sound holds k low c i) (All-contains (λ c. status_at t c ≡ UpToDate) (children_at t k) c up_to_date i)).same p))
            (children_at t k) (All-contains_itself (children_at t k))))

        worked : k < t.count → form_at t k ≢ Part → All (λ c. status_at t c ≡ UpToDate) (children_at t k) → (row : List (Term P W)) →
            RowOfDrawing kind weights (row_at t s) (joining_of t k) row → r ≡ Ok (length row) → NodeCollected t t' k (length row) → RowPut k row s s' →
            ((row : List (Term P W)) × RowOfNode kind weights h k row × (reply ≡ Ok (number (length row)))) × After h (collecting k) lent reply t' s'
        worked low joined up_to_date row found ok changed put =
            let is = e ∙ ap (as_reply number) ok in
            let now : Entry P W = entry (collecting k) lent (Ok (number (length row))) in
            let is_row = (tells low joined up_to_date).rows row found in (
              (row, is_row, is),
              subst (λ z. After h (collecting k) lent z t' s') (sym is) (
                holds_collected kind weights (made h) (making_of h) (drawing_of h) (states_of h) (CollectedSince h) t t' s s' sound sound' holds k low
                    row is_row joined changed put (CollectedSince (now ∷ h)) (λ j b. (left j, right j)) left,
                known_more now h t t' (omega (arith, changed.number)) (λ j c. subst (λ z. z < t'.count) (some_same c) (omega (arith, low, changed.number))) known,
              ),
            )
          where
            left : (j : ℕ) → CollectedSince (entry (collecting k) lent (Ok (number (length row))) ∷ h) j → (j ≡ k) ⊎ CollectedSince h j
            left j c = elim (since_split (entry (collecting k) lent (Ok (number (length row)))) h j refl c) [ inl x ↦ inl (sym (some_same x)) | inr x ↦ inr x.0 ]

            right : (j : ℕ) → (j ≡ k) ⊎ CollectedSince h j → CollectedSince (entry (collecting k) lent (Ok (number (length row))) ∷ h) j
            right j (inl q) = since_now (entry (collecting k) lent (Ok (number (length row)))) h j (ap Some (sym q))
            right j (inr c) = since_kept (entry (collecting k) lent (Ok (number (length row)))) h j refl (λ p states r. absurd (none_or_some refl r)) c

    -- a question, whose answer is as the row of the node has it
    pub asking_right : {A : Type 0} (k : ℕ) (question : Question P) (reply : Reply P W) (r : Result A Refusal) (to : A → Answer P W) (x : Type 0) → STORE ≤ length s → t' ≡ t → s' ≡ s →
        Asks kind weights t s k r x → reply ≡ as_reply to r → ((row : List (Term P W)) → row ≡ row_at t s k → length row ≡ size_at t k → x → RA.Tells kind weights row question reply) →
        RightAnswer kind weights h reply (asking k question) × After h (asking k question) lent reply t' s'
    asking_right k question reply r to x roomy same_t same_s (inr (n, y)) e tells = absurd (n roomy)
    asking_right k question reply r to x roomy same_t same_s (inl (q₀, a)) e tells =
        through (node_question kind weights h t s sound holds k) a (λ y. (e ∙ ap (as_reply to) y, unmoved))
        (λ low a. through (current_question kind weights h t s sound holds k low) a (λ y. (e ∙ ap (as_reply to) y, unmoved))
        (λ up_to_date a. ((row_at t s k, holds.rows k low up_to_date, tells (row_at t s k) refl (holds.full k low up_to_date) a), unmoved)))
      where
        unmoved : After h (asking k question) lent reply t' s'
        unmoved = idle_after (asking k question) reply (record { makes_none = refl; restates_none = refl; collects_none = refl }) same_t (λ j b. ap (places_of j) same_s)
