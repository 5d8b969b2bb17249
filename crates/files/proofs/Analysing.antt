-- From reading, collecting and reporting to the whole analysis.
use Rattle.std.proofs.Common.{◌≡◌, ℕ, ◌-◌, ◌<◌, ◌≤◌, List, length, Result, Ok, Err, sym, ◌∙◌, ap, refl, subst, inl, inr, arith}
use Rattle.kinds.specs.declared.performance.Performance
use Rattle.kinds.specs.declared.weight.Weight
use Rattle.terms.specs.declared.term.Term.{Term}
use Rattle.terms.specs.Rows.{RowOf}
use Rattle.terms.specs.Enumeration.{enumeration}
use Rattle.diagram.specs.declared.diagram.Diagram.{Diagram}
use Rattle.diagram.specs.declared.limits.TheConstants.{STORE}
use Rattle.diagram.specs.declared.refusal.RefusedAt.{RefusedAt}
use Rattle.diagram.specs.Histories.{History, made, states_of, drawing_of}
use Rattle.diagram.specs.InTurn.{AllCollected, RowsLeft, Leaves, CollectsAll}
use Rattle.diagram.specs.Makings.{history_of, drawn}
use Rattle.diagram.specs.Refusals.{Asked}
use Rattle.diagram.specs.RightAnswers.{RowOfNode}
use Rattle.diagram.proofs.Makings.{many_made, collected_drawn}
use Rattle.diagram.proofs.RunGoesOn.{ok_not_err, err_same}
use Rattle.diagram.proofs.Standing.{kept_on, kept_more}
use Rattle.files.specs.declared.words.FilePerformance
use Rattle.files.specs.declared.words.FileWeight
use Rattle.files.specs.declared.fault.Fault.{Fault}
use Rattle.files.specs.declared.fault.Fault.TheVariants.{Records, Refused}
use Rattle.files.specs.declared.model_file.ModelFile.{ModelFile}
use Rattle.files.specs.Contents.{Contents}
use Rattle.files.specs.Reading.{ContentsRead, ReadsBack, ReadsOneWay, ValidContents}
use Rattle.files.specs.ModelFiles.{HoldsContents, ReadInto}
use Rattle.files.specs.StoreLeft.{LeftByReading, LeftByAnalysing}
use Rattle.files.specs.Analyses.{AnalysedOver}
use Rattle.files.specs.Reports.{Unreported}
use Rattle.files.specs.Analysing.{NodeReported}

module _ {P W : Type 0} {kind : Performance.Ghosts P} {weights : Weight.Ghosts W} where
  -- the rows that the parts left are still there once joined nodes are collected
  left_on : (h : History P W) (n : ℕ) (before between after : List (Term P W)) → RowsLeft kind weights h 0 before between → RowsLeft kind weights h n between after → RowsLeft kind weights h n before after
  left_on h n before between after parts all = record {
    stand = all.stand;
    others = kept_on (kept_more (λ k is. (is.0, elim is.1 [ inl p ↦ inl p | inr none ↦ absurd (omega (arith, none)) ])) parts.others) all.others;
  }

module _ {P W : Type 0} (kind : Performance.Ghosts P) (weights : Weight.Ghosts W) (file_kind : FilePerformance.Ghosts P) (file_weights : FileWeight.Ghosts W) where
  abbrev Terms : Type 0
  Terms = List (Term P W)

  abbrev Read : List ℕ → Result (Contents P W) Fault → Type 0
  Read = ContentsRead kind weights file_kind file_weights

  module _ (bytes : List ℕ) (s s' : Terms) where
    abbrev Into : Result (ModelFile P W) Fault → Type 0
    Into r = ReadInto kind weights file_kind file_weights bytes s r s'

    abbrev LeftRead : Type 0
    LeftRead = LeftByReading kind weights file_kind file_weights bytes s s'

    -- the store stays as long
    pub left_long : LeftRead → length s' ≡ length s
    left_long (inl (roomy, (inl (counted, (Ok c, is, left))))) = left.others.as_long
    left_long (inl (roomy, (inl (counted, (Err why, is, (ms, first, left)))))) = left.others.as_long
    left_long (inl (roomy, (inr (none, e)))) = ap length e
    left_long (inr (short, e)) = ap length e

    -- at a fault of the file analysing leaves what reading does
    pub fault_left : ReadsOneWay kind weights file_kind file_weights → (why : Fault) → Into (Err why) → LeftRead → LeftByAnalysing kind weights file_kind file_weights bytes s s'
    fault_left one why (inl (roomy, (Ok c, is, shows))) left = absurd shows
    fault_left one why into (inr (short, e)) = inr (short, e)
    fault_left one why into (inl (roomy, inr (none, e))) = inl (roomy, inr (none, e))
    fault_left one why into (inl (roomy, inl (counted, (Err f, is, left)))) = inl (roomy, inl (counted, (Err f, is, left)))
    fault_left one why (inl (_, (Err f, is', e))) (inl (roomy, inl (counted, (Ok c, is, left)))) = absurd (ok_not_err (one bytes (Ok c) (Err f) is is'))
    fault_left one why (inr (short, e)) (inl (roomy, inl (counted, (Ok c, is, left)))) = absurd (short roomy)

    module _ (out : List ℕ) (r : Result ℕ Fault) (out' : List ℕ) where
      pub stops_reading : (why : Fault) → Into (Err why) → Unreported out r out' why → AnalysedOver kind weights file_kind file_weights out r out' s bytes
      stops_reading why (inl (roomy, (Ok c, is, shows))) gone = absurd shows
      stops_reading why (inl (roomy, (Err f, is, e))) gone = inl (roomy, (Err f, is, record { answer = gone.answer ∙ ap Err (err_same e); output = gone.output }))
      stops_reading why (inr (short, e)) gone = inr (short, record { answer = gone.answer ∙ ap Err (err_same e); output = gone.output })

    module _ (back : ReadsBack kind weights file_kind file_weights) (m : ModelFile P W) (read : Into (Ok m)) where
      roomy : STORE ≤ length s
      roomy = at read
        where
          at : Into (Ok m) → STORE ≤ length s
          at (inl (enough, x)) = enough
          at (inr (short, e)) = absurd (ok_not_err e)

      shown : (c : Contents P W) × Read bytes (Ok c) × HoldsContents kind weights file_kind file_weights (length s) c s' m
      shown = at read
        where
          at : Into (Ok m) → (c : Contents P W) × Read bytes (Ok c) × HoldsContents kind weights file_kind file_weights (length s) c s' m
          at (inl (enough, (Ok c, is, shows))) = (c, is, shows)
          at (inl (enough, (Err f, is, e))) = absurd (ok_not_err e)
          at (inr (short, e)) = absurd (ok_not_err e)

      valid : ValidContents kind weights file_kind file_weights shown.0
      valid = ((back bytes (Ok shown.0) shown.1 shown.0).0 refl).1

      -- there is a node
      pub nodes_read : 1 ≤ m.nodes
      nodes_read = omega (arith, shown.2.nodes, valid.nodes)

      -- the nodes are collected, or the first refusal is told
      module _ (left : LeftRead) (tried : Result (Unit {0}) RefusedAt) (d' : Diagram P W) (s'' : Terms) (collected : CollectsAll kind weights m.diagram s' tried d' s'') where
        abbrev c : Contents P W
        c = shown.0

        abbrev nodes : History P W
        nodes = drawn c.nodes

        long : length s' ≡ length s
        long = left_long left

        abbrev Tried : Type 0
        Tried =
            AllCollected kind weights nodes
            (λ k why. (tried ≡ Err (record { node = k; refusal = why })) × Leaves kind weights nodes k s' d' s'')
            ((tried ≡ Ok tt) × Leaves kind weights nodes (made nodes) s' d' s'')

        told : Tried
        told = collected_drawn (length s) kind weights c.nodes (collected (history_of (length s) c.nodes) shown.2.run (omega (arith, roomy, long)))

        -- the rows of the parts are left by reading, and those of the nodes collected since by analysing
        pub analysed_left : ReadsOneWay kind weights file_kind file_weights → LeftByAnalysing kind weights file_kind file_weights bytes s s''
        analysed_left one = inl (roomy, inl ((counts shown.1).0, (Ok c, shown.1, more told)))
          where
            counts : {q rest : Type 0} → Asked q (◌≡◌ {A = Result (Contents P W) Fault} (Ok c) (Err Records)) rest → q × rest
            counts (inl x) = x
            counts (inr x) = absurd (ok_not_err x.1)

            parts : LeftRead → RowsLeft kind weights nodes 0 s s'
            parts (inr (short, e)) = absurd (short roomy)
            parts (inl (_, inr (none, e))) = absurd (none (counts shown.1).0)
            parts (inl (_, inl (counted, (Err f, is, x)))) = absurd (ok_not_err (one bytes (Ok c) (Err f) shown.1 is))
            parts (inl (_, inl (counted, (Ok c', is, x)))) =
                let same : c' ≡ c = cc (one bytes (Ok c') (Ok c) is shown.1) in subst (λ z. RowsLeft kind weights (drawn z.nodes) 0 s s') same x

            on : (n : ℕ) → RowsLeft kind weights nodes n s' s'' → RowsLeft kind weights nodes n s s''
            on n = left_on nodes n s s' s'' (parts left)

            more : Tried → AllCollected kind weights nodes (λ k why. RowsLeft kind weights nodes k s s'') (RowsLeft kind weights nodes (made nodes) s s'')
            more (inl (k, why, l, shorts, long, (e, leaves))) = inl (k, why, l, shorts, long, on k leaves.0)
            more (inr (shorts, (e, leaves))) = inr (shorts, on (made nodes) leaves.0)

        module _ (out : List ℕ) (r : Result ℕ Fault) (out' : List ℕ) where
          abbrev Reports : Type 0
          Reports = AnalysedOver kind weights file_kind file_weights out r out' s bytes

          pub stops_collecting : (at : RefusedAt) → tried ≡ Err at → Unreported out r out' (Refused at.node at.refusal) → Reports
          stops_collecting at e gone = from told
            where
              from : Tried → Reports
              from (inl (k, why, l, shorts, long, (e', leaves))) =
                  let same : at ≡ record { node = k; refusal = why } = cc in
                  inl (roomy, (Ok c, shown.1, inl (k, why, l, shorts, long, subst (λ z. Unreported out r out' (Refused z.node z.refusal)) same gone)))
              from (inr (shorts, (e', leaves))) = absurd (ok_not_err (sym e' ∙ e))

          pub reports : tried ≡ Ok tt → NodeReported kind weights file_kind file_weights d' s'' (m.nodes - 1) m.demands.bytes.now out r out' → Reports
          reports e report = from told
            where
              from : Tried → Reports
              from (inl (k, why, l, shorts, long, (e', leaves))) = absurd (ok_not_err (sym e ∙ e'))
              from (inr (shorts, (e', (rows, (h, run, same))))) =
                  let last : m.nodes - 1 < made nodes = omega (arith, shown.2.nodes, valid.nodes, many_made STORE c.nodes) in
                  let done = report h c.demands (omega (arith, rows.others.as_long, long, roomy)) run (omega (arith, last, same.nodes)) (same.answer (m.nodes - 1) last) shown.2.demands valid.demands.1 in
                  let row = subst (λ f. RowOf kind weights (enumeration kind weights f (drawing_of h (m.nodes - 1))) done.0) same.states done.1 in
                  let row' = subst (λ f. RowOf kind weights (enumeration kind weights (states_of nodes) (f (m.nodes - 1))) done.0) same.drawings row in
                  inl (roomy, (Ok c, shown.1, inr (shorts, (done.0, subst (λ k. RowOfNode kind weights nodes (k - 1) done.0) shown.2.nodes row', done.2, done.3))))
