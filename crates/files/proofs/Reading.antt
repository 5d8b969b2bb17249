-- A file has one answer, and is read as exactly the contents that it writes.
use Rattle.std.proofs.Common.{◌≡◌, ℕ, zero, suc, ◌+◌, ◌-◌, ◌≤◌, List, [], ◌∷◌, ◌++◌, length, get_or, drop, Result, Ok, Err, append_assoc, append-nil, zero-add, ap, sym, ◌∙◌, refl, subst, subst₂, inl, inr, arith}
use Rattle.files.specs.declared.limits.TheConstants.{DEMANDS}
use Rattle.kinds.specs.declared.performance.Performance
use Rattle.kinds.specs.declared.weight.Weight
use Rattle.diagram.specs.Refusals.{Asked}
use Rattle.diagram.specs.Histories.{Making, added, joined_from, bridged_from, History, Reply, number}
use Rattle.diagram.specs.RightAnswers.{RightAnswer}
use Rattle.diagram.proofs.RunGoesOn.{yes, given}
use Rattle.files.specs.declared.words.FilePerformance
use Rattle.files.specs.declared.words.FileWeight
use Rattle.files.specs.declared.fault.Fault.{Fault}
use Rattle.files.specs.declared.fault.Fault.TheVariants.{Refused}
use Rattle.files.specs.Contents.{Contents, demand_bytes, node_bytes, nodes_bytes, contents_bytes}
use Rattle.diagram.specs.Makings.{call_of, drawn, TakesAll, TakesNext, TakenOr}
use Rattle.files.specs.Reading.{Whole, RecordsRead, ContentsRead, ValidContents, ReadsBack, ReadsOneWay}
use Rattle.files.proofs.Bytes.{FileKind, FileWeighing, Once}
use Rattle.files.proofs.Writing.{demand_once, demands_whole, node_once, node_headed, node_whole}

-- questions that are answered twice: the first no, or the end, is the same
one_end : {X q A B : Type 0} {a b end : X} → Asked q (a ≡ end) A → Asked q (b ≡ end) B → (A → B → a ≡ b) → a ≡ b
one_end (inl x) (inl y) on = on x.1 y.1
one_end (inl x) (inr y) on = absurd (y.0 x.0)
one_end (inr x) (inl y) on = absurd (x.0 y.0)
one_end (inr x) (inr y) on = x.1 ∙ sym y.1

-- what is written in the bytes is one value, and one rest after it
written_once : {V C : Type 0} (write : V → List ℕ) {bytes : List ℕ} {End End' : V → List ℕ → Type 0} → Once write →
    (v : V) × (rest : List ℕ) × (bytes ≡ write v ++ rest) × End v rest → (v : V) × (rest : List ℕ) × (bytes ≡ write v ++ rest) × End' v rest →
    ((v : V) (rest : List ℕ) → End v rest → End' v rest → C) → C
written_once write {End' = End'} once x y on =
    let same = once y.0 x.0 y.1 x.1 (sym y.2 ∙ x.2) in
    on x.0 x.1 x.3 (subst₂ End' same.0 same.1 y.3)

module _ {P W : Type 0} (kind : Performance.Ghosts P) (weights : Weight.Ghosts W) where
  -- the call that makes a node has one answer
  reply_once : (h : History P W) (m : Making P W) (r s : Reply P W) → RightAnswer kind weights h r (call_of m) → RightAnswer kind weights h s (call_of m) → r ≡ s
  reply_once h (added states) r s x y = one_end x y (λ x y. one_end x y (λ x y. x ∙ sym y))
  reply_once h (joined_from way children) r s x y =
      one_end x y (λ x y. one_end x y (λ x y. one_end x y (λ x y. one_end x y (λ x y. one_end x y (λ x y. x ∙ sym y)))))
  reply_once h (bridged_from a b c d e) r s x y =
      one_end x y (λ x y. one_end x y (λ x y. one_end x y (λ x y. one_end x y (λ x y. x ∙ sym y))))

  module _ (ms : List (Making P W)) (m : Making P W) where
    taken_once : {X A B : Type 0} (k : ℕ) (a b : Result X Fault) →
        TakenOr kind weights ms m (λ why. a ≡ Err (Refused k why)) A → TakenOr kind weights ms m (λ why. b ≡ Err (Refused k why)) B → (A → B → a ≡ b) → a ≡ b
    taken_once k a b (inl x) (inl y) on = on x.1 y.1
    taken_once k a b (inl x) (inr y) on = let none : ⊥ = cc (reply_once (drawn ms) m (Ok (number (length ms))) (Err y.0) x.0 y.1) in absurd none
    taken_once k a b (inr x) (inl y) on = let none : ⊥ = cc (reply_once (drawn ms) m (Ok (number (length ms))) (Err x.0) y.0 x.1) in absurd none
    taken_once k a b (inr x) (inr y) on =
        let why : x.0 ≡ y.0 = cc (reply_once (drawn ms) m (Err x.0) (Err y.0) x.1 y.1) in
        x.2 ∙ ap (λ w. Err (Refused k w)) why ∙ sym y.2

    taken_given : {X A : Type 0} {x : X} {k : ℕ} → TakenOr kind weights ms m (λ why. Ok x ≡ Err (Refused k why)) A → TakesNext kind weights ms m × A
    taken_given (inl x) = x
    taken_given (inr x) = let none : ⊥ = cc (x.2) in absurd none

module _ {P W : Type 0} (kind : Performance.Ghosts P) (weights : Weight.Ghosts W) (file_kind : FilePerformance.Ghosts P) (file_weights : FileWeight.Ghosts W) where
  abbrev Answer : Type 0
  Answer = Result (Contents P W) Fault

  abbrev Read : ℕ → List (Making P W) → List ℕ → Answer → Type 0
  Read = RecordsRead kind weights file_kind file_weights

  abbrev ValidHere : Contents P W → Type 0
  ValidHere = ValidContents kind weights file_kind file_weights

  abbrev writing : Contents P W → List ℕ
  writing c = nodes_bytes file_kind file_weights c.nodes ++ demand_bytes file_kind c.demands

  -- what was read, after these nodes: with their writing, it is the writing of the contents
  record Rest (n : ℕ) (ms : List (Making P W)) (bytes : List ℕ) (c : Contents P W) : Type 0 where
    written : nodes_bytes file_kind file_weights ms ++ bytes ≡ writing c
    as_many : length c.nodes ≡ n + length ms
    demands : (1 ≤ length c.demands) × (length c.demands ≤ DEMANDS)
    taken : TakesAll kind weights c.nodes

  rest_read : (n : ℕ) (ms : List (Making P W)) (bytes : List ℕ) (c : Contents P W) → TakesAll kind weights ms → Read n ms bytes (Ok c) → Rest n ms bytes c
  rest_read zero ms bytes c taken x =
      let whole = given (given x).1 in
      let found = (given whole.1).1 in
      let end = given found.3 in
      let was : bytes ≡ demand_bytes file_kind found.0 = found.2 ∙ ap (λ z. demand_bytes file_kind found.0 ++ z) end.0 ∙ append-nil (demand_bytes file_kind found.0) in
      let same : c ≡ record { nodes = ms; demands = found.0 } = cc (end.1) in
      subst (Rest zero ms bytes) (sym same) (record { written = ap (λ z. nodes_bytes file_kind file_weights ms ++ z) was; as_many = omega arith; demands = (subst Whole was whole.0).1 refl; taken = taken })
  rest_read (suc n) ms bytes c taken x =
      let found = (given (given (given x).1).1).1 in
      let next = taken_given kind weights ms found.0 found.3 in
      let more = rest_read n (found.0 ∷ ms) found.1 c (taken, next.0) next.1 in
      record {
        written = ap (λ z. nodes_bytes file_kind file_weights ms ++ z) found.2 ∙ sym (append_assoc (nodes_bytes file_kind file_weights ms) (node_bytes file_kind file_weights found.0) found.1) ∙ more.written;
        as_many = omega (arith, more.as_many);
        demands = more.demands;
        taken = more.taken;
      }

  -- a file that is read is the writing of its contents, and they are valid
  pub contents_read : (bytes : List ℕ) (c : Contents P W) → ContentsRead kind weights file_kind file_weights bytes (Ok c) → (bytes ≡ contents_bytes file_kind file_weights c) × ValidHere c
  contents_read [] c x = absurd ((given x).0)
  contents_read (count ∷ records) c x =
      let counted = given x in
      let read = rest_read (count - 1) [] records c tt counted.1 in
      let same : count ≡ length c.nodes + 1 = omega (arith, counted.0.0, read.as_many) in
      (λ i. same i ∷ read.written i, record { nodes = (omega (arith, counted.0.0, same), omega (arith, counted.0.1, same)); demands = read.demands; taken = read.taken })

  -- nodes that are taken are read from their writing
  nodes_read : (ms : List (Making P W)) → TakesAll kind weights ms → (n : ℕ) (rest : List ℕ) (answer : Answer) → Read n ms rest answer → Read (length ms + n) [] (nodes_bytes file_kind file_weights ms ++ rest) answer
  nodes_read [] taken n rest answer x = rw zero-add x
  nodes_read (m ∷ ms) taken n rest answer x =
      let here = node_bytes file_kind file_weights m ++ rest in
      let step : Read (suc n) ms here answer =
      yes (node_headed file_kind file_weights m rest) (yes (node_whole file_kind file_weights m rest) (yes (m, rest, refl) (m, rest, refl, inl (taken.1, x)))) in
      let more : length ms + suc n ≡ suc (length ms) + n = omega arith in
      subst₂ (λ k z. Read k [] z answer) more (sym (append_assoc (nodes_bytes file_kind file_weights ms) (node_bytes file_kind file_weights m) rest)) (nodes_read ms taken.0 (suc n) here answer step)

  -- valid contents are read from their writing
  pub writing_read : (c : Contents P W) → ValidHere c → ContentsRead kind weights file_kind file_weights (contents_bytes file_kind file_weights c) (Ok c)
  writing_read c valid =
      let last = sym (append-nil (demand_bytes file_kind c.demands)) in
      let end : Read 0 c.nodes (demand_bytes file_kind c.demands) (Ok c) =
      yes refl (yes (subst Whole (sym last) (demands_whole file_kind c.demands [] valid.demands)) (yes (c.demands, [], last) (c.demands, [], last, yes refl refl))) in
      let all : length c.nodes + 0 ≡ length c.nodes + 1 - 1 = omega arith in
      yes (omega (arith, valid.nodes.0), omega (arith, valid.nodes.1))
      (subst (λ k. Read k [] (writing c) (Ok c)) all (nodes_read c.nodes valid.taken 0 (demand_bytes file_kind c.demands) (Ok c) end))

  module _ (words : FileKind file_kind) (weighing : FileWeighing file_weights) where
    records_once : (n : ℕ) (ms : List (Making P W)) (bytes : List ℕ) (a b : Answer) → Read n ms bytes a → Read n ms bytes b → a ≡ b
    records_once zero ms bytes a b x y =
        one_end x y (λ x y. one_end x y (λ x y. one_end x y (λ x y.
        written_once (demand_bytes file_kind) (demand_once file_kind words) x y (λ demands rest x y. one_end x y (λ x y. x ∙ sym y)))))
    records_once (suc n) ms bytes a b x y =
        one_end x y (λ x y. one_end x y (λ x y. one_end x y (λ x y.
        written_once (node_bytes file_kind file_weights) (node_once file_kind file_weights words weighing) x y (λ m rest x y.
        taken_once kind weights ms m (length ms) a b x y (records_once n (m ∷ ms) rest a b)))))

    pub reads_one_way : ReadsOneWay kind weights file_kind file_weights
    reads_one_way bytes a b x y = one_end x y (records_once (get_or bytes 0 0 - 1) [] (drop 1 bytes) a b)

    pub reads_back : ReadsBack kind weights file_kind file_weights
    reads_back bytes answer x c = (
      λ is. contents_read bytes c (subst (ContentsRead kind weights file_kind file_weights bytes) is x),
      λ w. reads_one_way bytes answer (Ok c) x (subst (λ z. ContentsRead kind weights file_kind file_weights z (Ok c)) (sym w.0) (writing_read c w.1)),
    )
