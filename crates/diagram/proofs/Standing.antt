-- The row of a node that answers stands in its places, after any run; and what calls keep of a store.
use Rattle.std.proofs.Common.{◌≡◌, ℕ, ◌<◌, List, length, take, drop, Result, Ok, Err, sym, ◌∙◌, ap, subst, inl, inr, arith}
use Rattle.kinds.specs.declared.performance.Performance
use Rattle.kinds.specs.declared.weight.Weight
use Rattle.kinds.proofs.Lawful.{Kind, Weighing}
use Rattle.terms.specs.declared.term.Term.{Term}
use Rattle.terms.specs.Enumeration.{enumeration}
use Rattle.terms.specs.Rows.{RowOf}
use Rattle.diagram.specs.declared.limits.TheConstants.{NODES, STORE}
use Rattle.diagram.specs.declared.diagram.Diagram.{Diagram}
use Rattle.diagram.specs.declared.refusal.Refusal.{Refusal}
use Rattle.diagram.specs.declared.table.Table.{Table}
use Rattle.diagram.specs.declared.node.Status.TheVariants.{UpToDate}
use Rattle.diagram.specs.Records.{status_at}
use Rattle.diagram.specs.Refusals.{Asked}
use Rattle.diagram.specs.Store.{StandsAt, Kept, RowPut, places_of, row_at}
use Rattle.diagram.specs.Standing.{RowsStand}
use Rattle.diagram.specs.Calls.{Refused, Added, Collected}
use Rattle.diagram.specs.Histories.{History, made, drawing_of, states_of, Answers}
use Rattle.diagram.specs.RightAnswers.{RowOfNode}
use Rattle.diagram.specs.Runs.{Run}
use Rattle.diagram.proofs.Promise.{run_right}
use Rattle.diagram.proofs.Questions.{HoldsAfter, current_question}
use Rattle.diagram.proofs.RunGoesOn.{ok_not_err}

module _ {P W : Type 0} (kind : Performance.Ghosts P) (weights : Weight.Ghosts W) (laws : Kind kind) (weigh : Weighing weights) where
  module _ (h : History P W) (d : Diagram P W) (s : List (Term P W)) (run : Run kind weights h d s) (k : ℕ) (node : k < made h) (answers : Answers h k) where
    holds : HoldsAfter kind weights h d.table s
    holds = (run_right kind weights laws weigh h d s run).1

    there : k < d.table.count
    there = omega (arith, node, holds.count)

    pub has_places : k < NODES
    has_places = let few = d.sound.few in omega (arith, there, few)

    up_to_date : status_at d.table k ≡ UpToDate
    up_to_date = (current_question kind weights h d.table s d.sound holds k there).1 answers

    pub row_stands : (row : List (Term P W)) × RowOfNode kind weights h k row × StandsAt k row s
    row_stands = (
      row_at d.table s k,
      holds.rows k there up_to_date,
      ap (λ n. take n (places_of k s)) (holds.full k there up_to_date),
    )

  -- the rows of these nodes stand, if they answer and these are their combinations
  pub rows_stand : {nodes : ℕ → Type 0} {terms_of : ℕ → List (Term P W)} (h : History P W) (d : Diagram P W) (before s : List (Term P W)) → Run kind weights h d s →
      ((k : ℕ) → nodes k → (k < made h) × Answers h k × (enumeration kind weights (states_of h) (drawing_of h k) ≡ terms_of k)) → Kept nodes before s → RowsStand kind weights nodes terms_of before s
  rows_stand h d before s run each kept = record {
    stand = λ k is.
        let (node, answers, these) = each k is in
        let it = row_stands h d s run k node answers in
        (it.0, subst (λ terms. RowOf kind weights terms it.0) these it.1, it.2);
    others = kept;
  }

module _ {T : Type 0} {free : ℕ → Type 0} where
  pub kept_same : {before after : List T} → after ≡ before → Kept free before after
  kept_same e = record { places = λ j l other. ap (places_of j) e; tail = ap (drop STORE) e; as_long = ap length e }

  pub kept_on : {a b c : List T} → Kept free a b → Kept free b c → Kept free a c
  kept_on x y = record { places = λ j l other. y.places j l other ∙ x.places j l other; tail = y.tail ∙ x.tail; as_long = y.as_long ∙ x.as_long }

  pub kept_more : {fewer : ℕ → Type 0} {before after : List T} → ((j : ℕ) → fewer j → free j) → Kept fewer before after → Kept free before after
  kept_more more x = record { places = λ j l other. x.places j l (λ f. other (more j f)); tail = x.tail; as_long = x.as_long }

  -- a row is put at a node that is free
  put_kept : {k : ℕ} {row before after : List T} → free k → RowPut k row before after → Kept free before after
  put_kept is x = kept_more (λ j e. subst free (sym e) is) x.others

  pub or_kept : {A rest q : Type 0} {t t' : Table} {s s' : List T} {r : Result A Refusal} {why : Refusal} → Asked q (Refused t s r t' s' why) rest → (rest → Kept free s s') → Kept free s s'
  or_kept (inl x) after = after x.1
  or_kept (inr x) after = kept_same x.1.store

or_same : {A T rest q : Type 0} {t t' : Table} {s s' : List T} {r : Result A Refusal} {why : Refusal} → Asked q (Refused t s r t' s' why) rest → (rest → s' ≡ s) → s' ≡ s
or_same (inl x) after = after x.1
or_same (inr x) after = x.1.store

module _ {P W : Type 0} (kind : Performance.Ghosts P) (weights : Weight.Ghosts W) {t t' : Table} {s s' : List (Term P W)} where
  -- adding changes the places of its node alone, and nothing if it is refused
  pub added_kept : {free : ℕ → Type 0} {states : List (Term P W)} (k : ℕ) → free k → Added kind weights t s states (Ok k) t' s' → Kept free s s'
  added_kept {free} k is x = or_kept x (λ x. or_kept x (λ x. or_kept x (λ x. let it : k ≡ t.count = let e = x.0 in cc in put_kept (subst free it is) x.1.3)))

  pub added_refused : {states : List (Term P W)} {why : Refusal} → Added kind weights t s states (Err why) t' s' → s' ≡ s
  added_refused x = or_same x (λ x. or_same x (λ x. or_same x (λ x. absurd (ok_not_err (sym x.0)))))

  -- so does collecting, but that it may be refused for what the working rows have shown
  pub collected_kept : {free : ℕ → Type 0} {k : ℕ} (r : Result ℕ Refusal) → free k → Collected kind weights t s k r t' s' → Kept free s s'
  collected_kept {free} {k} r is x = or_kept x (λ x. or_kept x (λ x. or_kept x (λ x. or_kept x (λ x. or_kept x (λ x. elim x [
    | inl (fit, x) ↦ put_kept is x.4
    | inr (long, x) ↦ kept_more (λ j none. absurd none) x.store
  ])))))

  pub collecting_refused : {free : ℕ → Type 0} {k : ℕ} {why : Refusal} → Collected kind weights t s k (Err why) t' s' → Kept free s s'
  collecting_refused x = or_kept x (λ x. or_kept x (λ x. or_kept x (λ x. or_kept x (λ x. or_kept x (λ x. elim x [
    | inl (fit, x) ↦ absurd (ok_not_err (sym x.2))
    | inr (long, x) ↦ kept_more (λ j none. absurd none) x.store
  ])))))
