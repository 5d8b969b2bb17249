-- The nodes of a file are given to a diagram one after the other.
use Rattle.std.proofs.Common.{◌≡◌, ◌≢◌, ◌⊎◌, ℕ, suc, ◌+◌, ◌-◌, ◌<◌, ◌≤◌, List, [], ◌∷◌, ◌++◌, length, Some, Result, Ok, Err, Bor, append_assoc, sym, ◌∙◌, ap, refl, subst, inl, inr, arith}
use Rattle.kinds.specs.declared.performance.Performance
use Rattle.kinds.specs.declared.weight.Weight
use Rattle.kinds.proofs.Lawful.{Kind, Weighing}
use Rattle.terms.specs.declared.term.Term.{Term}
use Rattle.terms.specs.Enumeration.{enumeration}
use Rattle.diagram.specs.declared.diagram.Diagram.{Diagram}
use Rattle.diagram.specs.Shown.{records}
use Rattle.diagram.specs.Store.{Kept}
use Rattle.diagram.specs.declared.limits.TheConstants.{STORE}
use Rattle.diagram.specs.declared.refusal.Refusal.{Refusal}
use Rattle.diagram.specs.Calls.{Made, Added}
use Rattle.diagram.specs.Histories.{Making, added, joined_from, bridged_from, Answer, number, Reply, History, made, making_of, IsPart}
use Rattle.diagram.proofs.HistoryFits.{but_at, but_else}
use Rattle.diagram.specs.RightAnswers.{RightAnswer}
use Rattle.diagram.specs.Runs.{Run, start, Performs, AnswersRight, as_reply}
use Rattle.diagram.proofs.Standing.{kept_same, kept_on, kept_more, or_kept, rows_stand}
use Rattle.files.specs.declared.words.FilePerformance
use Rattle.files.specs.declared.words.FileWeight
use Rattle.files.specs.declared.fault.Fault.{Fault}
use Rattle.files.specs.declared.fault.Fault.TheVariants.{Letter, Body, Value, Refused}
use Rattle.files.specs.Contents.{Contents, node_bytes, nodes_bytes}
use Rattle.diagram.specs.declared.making.Making.{Making as Given}
use Rattle.diagram.specs.Makings.{meaning, call_of, history_of, drawn, TakesAll, TakesNext}
use Rattle.diagram.specs.InTurn.{RowsLeft}
use Rattle.files.specs.StoreLeft.{nodes_before}
use Rattle.files.specs.Reading.{RecordsRead}
use Rattle.files.specs.Analysing.{MakingRead, NodesDrawn}
use Rattle.diagram.proofs.RunGoesOn.{given, ok_not_err, err_same, answered}
use Rattle.diagram.proofs.Makings.{many_made, last_making, same_made, same_makings, same_drawings, same_states, right_drawn}

abbrev number_in : {P W : Type 0} → ℕ → Reply P W → ℕ
number_in n (Ok (number k)) = k
number_in n r = n

module _ {P W : Type 0} (kind : Performance.Ghosts P) (weights : Weight.Ghosts W) where
  abbrev Terms : Type 0
  Terms = List (Term P W)

  -- a diagram is made over enough terms
  pub roomy_of : (d : Diagram P W) (s : Terms) → Made records s (Ok d) → STORE ≤ length s
  roomy_of d s (inl x) = x.0
  roomy_of d s (inr x) = absurd (ok_not_err x.1)

  -- an accepted call that makes a node answers the next number
  answers_next : (h : History P W) (m : Making P W) (a : Answer P W) → RightAnswer kind weights h (Ok a) (call_of m) → ◌≡◌ {A = Reply P W} (Ok a) (Ok (number (made h)))
  answers_next h (added states) a x = (given (given x).1).1
  answers_next h (joined_from way children) a x = (given (given (given (given (given x).1).1).1).1).1
  answers_next h (bridged_from b c d e f) a x = (given (given (given (given x).1).1).1).1

  -- the parts of these nodes
  abbrev IsPartOf : List (Making P W) → ℕ → Type 0
  IsPartOf ms k = (k < made (drawn ms)) × (IsPart (drawn ms) k ⊎ (k < 0))

  -- with one node more, the parts so far are parts
  having_more : (ms : List (Making P W)) (m : Making P W) (k : ℕ) → IsPartOf ms k → IsPartOf (m ∷ ms) k
  having_more ms m k (l, inl p) =
      let apart : k ≢ length ms = λ e. omega (arith, l, e, many_made STORE ms) in
      (omega (arith, l, many_made STORE ms, many_made STORE (m ∷ ms)), inl (p.0, ap (λ f. f k) (last_making STORE ms m) ∙ but_else (length ms) (Some m) (making_of (drawn ms)) k apart ∙ p.1))
  having_more ms m k (l, inr none) = absurd (omega (arith, none))

  -- only the places of a part that is made may change
  made_kept : (ms : List (Making P W)) (m : Making P W) (d d' : Diagram P W) {s s' : Terms} (reply : Reply P W) → ((j : ℕ) → reply ≡ Ok (number j) → j ≡ length ms) →
      Performs kind weights (call_of m) (records d) s reply (records d') s' → Kept (IsPartOf (m ∷ ms)) s s'
  made_kept ms (added states) d d' reply next x =
      or_kept x.1 (λ y. or_kept y (λ y. or_kept y (λ y.
      let is : (records d).count ≡ length ms = next (records d).count (x.2 ∙ ap (as_reply number) y.0) in
      kept_more (λ j e.
      let last : j ≡ length ms = e ∙ is in
      (omega (arith, last, many_made STORE (added states ∷ ms)), inl (states, ap (making_of (drawn (added states ∷ ms))) last ∙ but_at (length ms) (Some (added states)) (making_of (drawn ms)))))
      y.1.3.others)))
  made_kept ms (joined_from way children) d d' reply next x = kept_same x.2
  made_kept ms (bridged_from _ _ _ _ _) d d' reply next x = kept_same x.2

  -- and none if it is refused
  refused_same : (m : Making P W) (d d' : Diagram P W) {s s' : Terms} (why : Refusal) → Performs kind weights (call_of m) (records d) s (Err why) (records d') s' → s' ≡ s
  refused_same (added states) d d' {s} {s'} why x = at x.1 x.2
    where
      at : {r : Result ℕ Refusal} → Added kind weights (records d) s states r (records d') s' → ◌≡◌ {A = Reply P W} (Err why) (as_reply number r) → s' ≡ s
      at (inr (n, y)) e = y.store
      at (inl (q, inr (n, y))) e = y.store
      at (inl (q, inl (q', inr (n, y)))) e = y.store
      at (inl (q, inl (q', inl (q'', (is, more))))) e = absurd (ok_not_err (sym (e ∙ ap (as_reply number) is)))
  refused_same (joined_from way children) d d' why x = x.2
  refused_same (bridged_from _ _ _ _ _) d d' why x = x.2

  module _ (file_kind : FilePerformance.Ghosts P) (file_weights : FileWeight.Ghosts W) where
    abbrev FileAnswer : Type 0
    FileAnswer = Result (Contents P W) Fault

    abbrev RestRead : ℕ → List (Making P W) → List ℕ → FileAnswer → Type 0
    RestRead n ms bytes answer = RecordsRead kind weights file_kind file_weights n ms bytes answer

    -- after k records: the nodes so far, what they have changed in the store, and what is left tells the rest of the answer
    pub record SoFar (before : Terms) (n : ℕ) (bytes : List ℕ) (k : ℕ) (rest : List ℕ) (d : Diagram P W) (s : Terms) : Type 0 where
      pub nodes : List (Making P W)
      pub many : length nodes ≡ k
      pub taken : TakesAll kind weights nodes
      pub run : Run kind weights (history_of (length before) nodes) d s
      pub written : bytes ≡ nodes_bytes file_kind file_weights nodes ++ rest
      pub kept : Kept (IsPartOf nodes) before s
      pub rest_tells : (answer : FileAnswer) → RestRead (n - k) nodes rest answer → RestRead n [] bytes answer

    module _ (before : Terms) (n : ℕ) (bytes : List ℕ) where
      pub none_yet : {d : Diagram P W} → Made records before (Ok d) → SoFar before n bytes 0 bytes d before
      none_yet new = record {
        nodes = [];
        many = refl;
        taken = tt;
        run = start new;
        written = refl;
        kept = kept_same refl;
        rest_tells = λ answer x. let all : n - 0 ≡ n = omega arith in subst (λ j. RestRead j [] bytes answer) all x;
      }

    module _ {X : Type 0} (shown : X → List ℕ) (laws : Kind kind) (weigh : Weighing weights) where
      module _ (before : Terms) (n : ℕ) (bytes : List ℕ) where
        -- the rows of the parts so far
        parts_left : (k : ℕ) (rest : List ℕ) (d : Diagram P W) (s : Terms) (far : SoFar before n bytes k rest d s) → RowsLeft kind weights (drawn far.nodes) 0 before s
        parts_left k rest d s far = rows_stand kind weights laws weigh (history_of (length before) far.nodes) d before s far.run
            (λ j is. (
              omega (arith, is.0, same_made (length before) far.nodes),
              elim is.1 [ inl p ↦ inl (p.0, ap (λ f. f j) (same_makings (length before) far.nodes) ∙ p.1) | inr none ↦ absurd (omega (arith, none)) ],
              λ i. enumeration kind weights (same_states (length before) far.nodes i) (same_drawings (length before) far.nodes i j),
            ))
            far.kept

        module _ (promise : AnswersRight kind weights) (roomy : STORE ≤ length before) (k : ℕ) (below : k < n) (rest : List ℕ) (d d' : Diagram P W) (s s' : Terms) (far : SoFar before n bytes k rest d s) where
          one_more : n - k ≡ suc (n - (k + 1))
          one_more = omega (arith, below)

          abbrev so_far : History P W
          so_far = history_of (length before) far.nodes

          tells : (answer : FileAnswer) → RestRead (suc (n - (k + 1))) far.nodes rest answer → RestRead n [] bytes answer
          tells answer x = far.rest_tells answer (subst (λ j. RestRead j far.nodes rest answer) (sym one_more) x)

          -- the call that makes the node is right, after the nodes so far
          called : (m : Making P W) (reply : Reply P W) → Performs kind weights (call_of m) (records d) s reply (records d') s' →
              RightAnswer kind weights (drawn far.nodes) reply (call_of m) × Run kind weights (record { call = call_of m; lent = length before; reply = reply } ∷ so_far) d' s'
          called m reply taken =
              let x = answered kind weights promise (length before) roomy far.run far.kept.as_long (call_of m) d' s' reply taken in
              (right_drawn (length before) kind weights far.nodes m reply x.0, x.1)

          kept_on_by : (m : Making P W) (reply : Reply P W) → Performs kind weights (call_of m) (records d) s reply (records d') s' → Kept (IsPartOf (m ∷ far.nodes)) before s'
          kept_on_by m reply taken = kept_on (kept_more (having_more far.nodes m) far.kept) (made_kept far.nodes m d d' reply at_next taken)
            where
              at_next : (j : ℕ) → reply ≡ Ok (number j) → j ≡ length far.nodes
              at_next j e =
                  let right = subst (λ z. RightAnswer kind weights (drawn far.nodes) z (call_of m)) e (called m reply taken).0 in
                  ap (number_in j) (answers_next (drawn far.nodes) m (number j) right) ∙ many_made STORE far.nodes

          pub one_drawn : (x : X) (given : Given P W) (left : Bor (List ℕ)) → shown x ≡ left.now → MakingRead file_kind file_weights k rest (Ok (given, left)) →
              (a : Answer P W) → Performs kind weights (call_of (meaning given)) (records d) s (Ok a) (records d') s' → SoFar before n bytes (k + 1) (shown x) d' s'
          one_drawn x given left shows one a taken = at one
            where
              on : (m : Making P W) (left : List ℕ) (a : Answer P W) → rest ≡ node_bytes file_kind file_weights m ++ left → shown x ≡ left →
                  Performs kind weights (call_of m) (records d) s (Ok a) (records d') s' →
                  ((answer : FileAnswer) → TakesNext kind weights far.nodes m → RestRead (n - (k + 1)) (m ∷ far.nodes) left answer → RestRead (suc (n - (k + 1))) far.nodes rest answer) →
                  SoFar before n bytes (k + 1) (shown x) d' s'
              on m left a e same taken more =
                  let went = called m (Ok a) taken in
                  let next : ◌≡◌ {A = Reply P W} (Ok a) (Ok (number (length far.nodes))) = answers_next (drawn far.nodes) m a went.0 ∙ ap (λ j. Ok (number j)) (many_made STORE far.nodes) in
                  let took = subst (λ z. RightAnswer kind weights (drawn far.nodes) z (call_of m)) next went.0 in
                  let earlier = nodes_bytes file_kind file_weights far.nodes in
                  let here = node_bytes file_kind file_weights m in
                  record {
                    nodes = m ∷ far.nodes;
                    many = omega (arith, far.many);
                    taken = (far.taken, took);
                    run = subst (λ z. Run kind weights (record { call = call_of m; lent = length before; reply = z } ∷ so_far) d' s') next went.1;
                    written = far.written ∙ ap (λ z. earlier ++ z) (e ∙ ap (λ z. here ++ z) (sym same)) ∙ sym (append_assoc earlier here (shown x));
                    kept = kept_on_by m (Ok a) taken;
                    rest_tells = λ answer y. tells answer (more answer took (subst (λ l. RestRead (n - (k + 1)) (m ∷ far.nodes) l answer) same y));
                  }

              at : MakingRead file_kind file_weights k rest (Ok (given, left)) → SoFar before n bytes (k + 1) (shown x) d' s'
              at (inl (headed, (inl (whole, (inl (ahead, (m, after, e, (is, same)))))))) =
                  on m after a e (shows ∙ same) (subst (λ z. Performs kind weights (call_of z) (records d) s (Ok a) (records d') s') is taken)
                  (λ answer took y. inl (headed, inl (whole, inl (ahead, (m, after, e, inl (took, y))))))
              at (inl (headed, (inl (whole, (inr (none, gone)))))) = absurd (ok_not_err gone)
              at (inl (headed, (inr (cut, gone)))) = absurd (ok_not_err gone)
              at (inr (other, gone)) = absurd (ok_not_err gone)

          -- a fault of record k, and nothing is changed by it
          abbrev Stops : Fault → Type 0
          Stops why = RestRead (suc (n - (k + 1))) far.nodes rest (Err why) × (nodes_before n why ≡ k) × (s' ≡ s)

          placed : {A : Type 0} {why : Fault} (f : ℕ → Fault) → ◌≡◌ {A = Result A Fault} (Err why) (Err (f k)) → ◌≡◌ {A = FileAnswer} (Err why) (Err (f (length far.nodes)))
          placed f e = ap Err (err_same e) ∙ ap (λ j. Err (f j)) (sym far.many)

          stopped : (r : Result X Fault) (why : Fault) → r ≡ Err why → Stops why → NodesDrawn kind weights file_kind file_weights shown before n bytes r d' s'
          stopped r why e stops = subst (λ z. NodesDrawn kind weights file_kind file_weights shown before n bytes z d' s') (sym e) (
            tells (Err why) stops.0,
            (far.nodes, (far.many ∙ sym stops.1, far.taken, rest, far.written), subst (RowsLeft kind weights (drawn far.nodes) 0 before) (sym stops.2) (parts_left k rest d s far)),
          )

          -- it makes no node
          pub none_read : (r : Result X Fault) (why : Fault) → r ≡ Err why → MakingRead file_kind file_weights k rest (Err why) → s' ≡ s → NodesDrawn kind weights file_kind file_weights shown before n bytes r d' s'
          none_read r why e one same = stopped r why e (at one)
            where
              at : MakingRead file_kind file_weights k rest (Err why) → Stops why
              at (inl (headed, (inl (whole, (inl (ahead, (m, after, e, is))))))) = absurd is
              at (inl (headed, (inl (whole, (inr (none, gone)))))) = (inl (headed, inl (whole, inr (none, placed Value gone))), ap (nodes_before n) (err_same gone), same)
              at (inl (headed, (inr (cut, gone)))) = (inl (headed, inr (cut, placed Body gone)), ap (nodes_before n) (err_same gone), same)
              at (inr (other, gone)) = (inr (other, placed Letter gone), ap (nodes_before n) (err_same gone), same)

          -- or the diagram refuses it
          pub one_refused : (r : Result X Fault) (refusal : Refusal) (given : Given P W) (left : Bor (List ℕ)) → r ≡ Err (Refused k refusal) → MakingRead file_kind file_weights k rest (Ok (given, left)) →
              Performs kind weights (call_of (meaning given)) (records d) s (Err refusal) (records d') s' → NodesDrawn kind weights file_kind file_weights shown before n bytes r d' s'
          one_refused r refusal given left e one taken = stopped r (Refused k refusal) e (at one)
            where
              at : MakingRead file_kind file_weights k rest (Ok (given, left)) → Stops (Refused k refusal)
              at (inl (headed, (inl (whole, (inl (ahead, (m, after, e, (is, same)))))))) =
                  let took = subst (λ z. Performs kind weights (call_of z) (records d) s (Err refusal) (records d') s') is taken in (
                    inl (headed, inl (whole, inl (ahead, (m, after, e, inr (refusal, (called m (Err refusal) took).0, ap (λ j. Err (Refused j refusal)) (sym far.many)))))),
                    refl,
                    refused_same m d d' refusal took,
                  )
              at (inl (headed, (inl (whole, (inr (none, gone)))))) = absurd (ok_not_err gone)
              at (inl (headed, (inr (cut, gone)))) = absurd (ok_not_err gone)
              at (inr (other, gone)) = absurd (ok_not_err gone)

        pub all_drawn : (rest : X) (d : Diagram P W) (s : Terms) → SoFar before n bytes n (shown rest) d s → NodesDrawn kind weights file_kind file_weights shown before n bytes (Ok rest) d s
        all_drawn rest d s far =
            let none : n - n ≡ 0 = omega arith in (
              far.nodes,
              (far.many, far.taken, shown rest, far.written),
              parts_left n (shown rest) d s far,
              far.run,
              λ answer x. far.rest_tells answer (subst (λ j. RestRead j far.nodes (shown rest) answer) (sym none) x),
            )
