-- From the records of a file to the whole of what was read.
use Rattle.std.proofs.Common.{◌≡◌, ℕ, ◌+◌, ◌-◌, ◌*◌, ◌<◌, ◌≤◌, List, [], ◌∷◌, ◌++◌, length, get_or, take, drop, Result, Ok, Err, IsOkAnd, IsErrAnd, flat_map, append-nil, length-append, sym, ◌∙◌, ap, refl, subst, inl, inr, arith}
use Rattle.files.specs.declared.limits.TheConstants.{DEMANDS}
use Rattle.std.proofs.Math.Seq.{take-length}
use Rattle.std.proofs.lemmas.List.{take_rest, nil_from_length}
use Rattle.kinds.specs.declared.performance.Performance
use Rattle.kinds.specs.declared.weight.Weight
use Rattle.terms.specs.declared.term.Term.{Term}
use Rattle.diagram.specs.declared.diagram.Diagram.{Diagram}
use Rattle.diagram.specs.declared.limits.TheConstants.{STORE}
use Rattle.diagram.specs.Histories.{Making}
use Rattle.diagram.specs.Refusals.{Asked}
use Rattle.diagram.specs.Runs.{Run}
use Rattle.diagram.proofs.Asking.{yes}
use Rattle.files.specs.declared.words.FilePerformance
use Rattle.files.specs.declared.words.FileWeight
use Rattle.files.specs.declared.demands.Demands.{Demands}
use Rattle.files.specs.declared.fault.Fault.{Fault}
use Rattle.files.specs.declared.fault.Fault.TheVariants.{Records, LeftOver}
use Rattle.files.specs.declared.model_file.ModelFile.{ModelFile}
use Rattle.files.specs.Contents.{Contents, demand_letter, performance_bytes, demand_bytes}
use Rattle.diagram.specs.Makings.{history_of}
use Rattle.files.specs.Reading.{MayBeRecords, RecordsCounted, DemandLetter, Headed, Whole, RecordsRead}
use Rattle.files.specs.StoreLeft.{nodes_before, LeftByReading}
use Rattle.files.specs.ModelFiles.{ReadInto}
use Rattle.files.specs.Analysing.{DemandsRead, NodesDrawn}
use Rattle.diagram.proofs.RunGoesOn.{ok_not_err, err_same}
use Rattle.files.proofs.Writing.{demands_whole, length_many}

pub counted : (bytes : List ℕ) → 1 ≤ length bytes → MayBeRecords (get_or bytes 0 0) → RecordsCounted bytes
counted [] one may = absurd (omega (arith, one))
counted (count ∷ records) one may = may

pub counts : (bytes : List ℕ) → RecordsCounted bytes → (1 ≤ length bytes) × MayBeRecords (get_or bytes 0 0)
counts [] x = absurd x
counts (count ∷ records) may = (omega arith, may)

after_first : (bytes : List ℕ) → take (length bytes - 1) (drop 1 bytes) ≡ drop 1 bytes
after_first [] = refl
after_first (b ∷ bytes) = let all : length (b ∷ bytes) - 1 ≡ length bytes = omega arith in ap (λ n. take n bytes) all ∙ take-length bytes

-- two bytes, and what follows them
pub two_first : (bytes : List ℕ) → 2 ≤ length bytes → bytes ≡ get_or bytes 0 0 ∷ get_or bytes 1 0 ∷ take (length bytes - 2) (drop 2 bytes)
two_first (a ∷ b ∷ rest) h = ap (λ z. a ∷ b ∷ z) (sym (take_rest (a ∷ b ∷ rest) 2))
two_first _ h = absurd (omega (arith, h))

module _ {P : Type 0} (file_kind : FilePerformance.Ghosts P) where
  body_long : {body : List ℕ} (demands : List P) (rest : List ℕ) → body ≡ flat_map (performance_bytes file_kind) demands ++ rest → length body ≡ 8 * length demands + length rest
  body_long demands rest is = ap length is ∙ length-append (flat_map (performance_bytes file_kind) demands) rest ∙ ap (λ n. n + length rest) (length_many (performance_bytes file_kind) 8 (λ p. refl) demands)

  -- the body of the last record writes its demands: it is read, if nothing follows them
  module _ {k : ℕ} {bytes body : List ℕ} (demands : List P) (rest : List ℕ) (few : (1 ≤ length demands) × (length demands ≤ DEMANDS)) (record_is : bytes ≡ demand_letter ∷ length demands ∷ body)
      (body_is : body ≡ flat_map (performance_bytes file_kind) demands ++ rest) where
    body_read : {r : Result (Demands P) Fault} → Asked (rest ≡ []) (r ≡ Err LeftOver) (IsOkAnd r (λ x. x.bytes.now ≡ flat_map (performance_bytes file_kind) demands)) → DemandsRead file_kind k bytes r
    body_read end =
        let e : bytes ≡ demand_bytes file_kind demands ++ rest = record_is ∙ ap (λ z. demand_letter ∷ length demands ∷ z) body_is in
        yes (subst (Headed DemandLetter) (sym e) refl) (yes (subst Whole (sym e) (demands_whole file_kind demands rest few)) (yes (demands, rest, e) (demands, rest, e, end)))

    pub all_demands : length body ≤ 8 * length demands → (read : Demands P) → read.bytes.now ≡ body → DemandsRead file_kind k bytes (Ok read)
    all_demands short read is =
        let ends : rest ≡ [] = nil_from_length rest (omega (arith, short, body_long demands rest body_is)) in
        body_read (yes ends (is ∙ body_is ∙ ap (λ z. flat_map (performance_bytes file_kind) demands ++ z) ends ∙ append-nil (flat_map (performance_bytes file_kind) demands)))

    pub left_over : 8 * length demands < length body → DemandsRead file_kind k bytes (Err LeftOver)
    left_over long = body_read (inr (λ e. omega (arith, long, body_long demands rest body_is, ap length e), refl))

module _ {P W : Type 0} (kind : Performance.Ghosts P) (weights : Weight.Ghosts W) (file_kind : FilePerformance.Ghosts P) (file_weights : FileWeight.Ghosts W) where
  abbrev Terms : Type 0
  Terms = List (Term P W)

  abbrev Answer : Type 0
  Answer = Result (Contents P W) Fault

  module _ (ms : List (Making P W)) (bytes : List ℕ) where
    -- the last record is refused: so are the contents
    demands_refused : (why : Fault) → DemandsRead file_kind (length ms) bytes (Err why) → RecordsRead kind weights file_kind file_weights 0 ms bytes (Err why)
    demands_refused why (inl (headed, (inl (whole, (inl (ahead, (demands, rest, e, inl (ends, gone)))))))) = absurd gone
    demands_refused why (inl (headed, (inl (whole, (inl (ahead, (demands, rest, e, inr (more, gone)))))))) =
        inl (headed, inl (whole, inl (ahead, (demands, rest, e, inr (more, ap Err (err_same gone))))))
    demands_refused why (inl (headed, (inl (whole, (inr (none, gone)))))) = inl (headed, inl (whole, inr (none, ap Err (err_same gone))))
    demands_refused why (inl (headed, (inr (cut, gone)))) = inl (headed, inr (cut, ap Err (err_same gone)))
    demands_refused why (inr (other, gone)) = inr (other, ap Err (err_same gone))

    -- it is handed on: these are the demands
    demands_taken : (read : Demands P) → DemandsRead file_kind (length ms) bytes (Ok read) →
        (demands : List P) × (read.bytes.now ≡ flat_map (performance_bytes file_kind) demands) × RecordsRead kind weights file_kind file_weights 0 ms bytes (Ok (record { nodes = ms; demands = demands }))
    demands_taken read (inl (headed, (inl (whole, (inl (ahead, (demands, rest, e, inl (ends, is)))))))) =
        (demands, is, inl (headed, inl (whole, inl (ahead, (demands, rest, e, inl (ends, refl))))))
    demands_taken read (inl (headed, (inl (whole, (inl (ahead, (demands, rest, e, inr (more, gone)))))))) = absurd (ok_not_err gone)
    demands_taken read (inl (headed, (inl (whole, (inr (none, gone)))))) = absurd (ok_not_err gone)
    demands_taken read (inl (headed, (inr (cut, gone)))) = absurd (ok_not_err gone)
    demands_taken read (inr (other, gone)) = absurd (ok_not_err gone)

  module _ (bytes : List ℕ) (s : Terms) (roomy : STORE ≤ length s) (s' : Terms) where
    abbrev Into : Result (ModelFile P W) Fault → Type 0
    Into r = ReadInto kind weights file_kind file_weights bytes s r s'

    pub uncounted : ¬ RecordsCounted bytes → Into (Err Records)
    uncounted none = inl (roomy, (Err Records, inr (none, refl), refl))

    abbrev Leaves : Type 0
    Leaves = LeftByReading kind weights file_kind file_weights bytes s s'

    module _ (is : RecordsCounted bytes) {X : Type 0} (shown : X → List ℕ) (d : Diagram P W) where
      -- a record that makes a node is at fault
      pub nodes_refused : {r : Result (ModelFile P W) Fault} (why : Fault) → IsErrAnd r (λ e. e ≡ why) → NodesDrawn kind weights file_kind file_weights shown s (get_or bytes 0 0 - 1) (take (length bytes - 1) (drop 1 bytes)) (Err why) d s' → Into r × Leaves
      nodes_refused {r = Ok m} why e x = absurd e
      nodes_refused {r = Err f} why e x =
          let drew = subst (λ l. NodesDrawn kind weights file_kind file_weights shown s (get_or bytes 0 0 - 1) l (Err why) d s') (after_first bytes) x in (
            inl (roomy, (Err why, inl (is, drew.0), ap Err e)),
            inl (roomy, inl (is, (Err why, inl (is, drew.0), drew.1))),
          )

    module _ (is : RecordsCounted bytes) {X : Type 0} (shown : X → List ℕ) (d : Diagram P W) (last : X)
        (drew' : NodesDrawn kind weights file_kind file_weights shown s (get_or bytes 0 0 - 1) (take (length bytes - 1) (drop 1 bytes)) (Ok last) d s') where
      -- all of the bytes after the first
      drew : NodesDrawn kind weights file_kind file_weights shown s (get_or bytes 0 0 - 1) (drop 1 bytes) (Ok last) d s'
      drew = subst (λ l. NodesDrawn kind weights file_kind file_weights shown s (get_or bytes 0 0 - 1) l (Ok last) d s') (after_first bytes) drew'

      many : length drew.0 ≡ get_or bytes 0 0 - 1
      many = drew.1.0

      -- the last record is at fault, after all that make nodes
      refused : (why : Fault) → DemandsRead file_kind (get_or bytes 0 0 - 1) (shown last) (Err why) → RecordsRead kind weights file_kind file_weights (get_or bytes 0 0 - 1) [] (drop 1 bytes) (Err why)
      refused why x = drew.4 (Err why) (demands_refused drew.0 (shown last) why (subst (λ k. DemandsRead file_kind k (shown last) (Err why)) (sym many) x))

      -- its fault comes after all nodes
      after_nodes : (n : ℕ) (why : Fault) → DemandsRead file_kind n (shown last) (Err why) → nodes_before n why ≡ n
      after_nodes n why (inl (headed, (inl (whole, (inl (ahead, (demands, rest, e, inl (ends, gone)))))))) = absurd gone
      after_nodes n why (inl (headed, (inl (whole, (inl (ahead, (demands, rest, e, inr (more, gone)))))))) = ap (nodes_before n) (err_same gone)
      after_nodes n why (inl (headed, (inl (whole, (inr (none, gone)))))) = ap (nodes_before n) (err_same gone)
      after_nodes n why (inl (headed, (inr (cut, gone)))) = ap (nodes_before n) (err_same gone)
      after_nodes n why (inr (other, gone)) = ap (nodes_before n) (err_same gone)

      pub last_refused : {r : Result (ModelFile P W) Fault} (why : Fault) → IsErrAnd r (λ e. e ≡ why) → DemandsRead file_kind (get_or bytes 0 0 - 1) (shown last) (Err why) → Into r × Leaves
      last_refused {r = Ok m} why e x = absurd e
      last_refused {r = Err f} why e x = (
        inl (roomy, (Err why, inl (is, refused why x), ap Err e)),
        inl (roomy, inl (is, (Err why, inl (is, refused why x), (drew.0, (many ∙ sym (after_nodes (get_or bytes 0 0 - 1) why x), drew.1.1, drew.1.2, drew.1.3), drew.2)))),
      )

      pub all_read : (m : ModelFile P W) → m.diagram ≡ d → m.nodes ≡ get_or bytes 0 0 - 1 → DemandsRead file_kind (get_or bytes 0 0 - 1) (shown last) (Ok m.demands) → Into (Ok m) × Leaves
      all_read m same nodes x =
          let taken = demands_taken drew.0 (shown last) m.demands (subst (λ k. DemandsRead file_kind k (shown last) (Ok m.demands)) (sym many) x) in
          let c : Contents P W = record { nodes = drew.0; demands = taken.0 } in (
            inl (roomy, (Ok c, inl (is, drew.4 (Ok c) taken.2), record { run = subst (λ z. Run kind weights (history_of (length s) drew.0) z s') (sym same) drew.3; nodes = nodes ∙ sym many; demands = taken.1 })),
            inl (roomy, inl (is, (Ok c, inl (is, drew.4 (Ok c) taken.2), drew.2))),
          )
