-- A node that answers, as the history has it, is up to date in the records.
use Rattle.std.proofs.Common.{◌≡◌, ℕ, ◌<◌, ◌≤◌, List, length, length-take, length-drop, Result, Ok, Err, arith}
use Rattle.kinds.specs.declared.performance.Performance
use Rattle.kinds.specs.declared.weight.Weight
use Rattle.kinds.proofs.Lawful.{Kind, Weighing}
use Rattle.terms.specs.declared.term.Term.{Term}
use Rattle.diagram.specs.declared.limits.TheConstants.{TERMS, STORE}
use Rattle.diagram.specs.declared.refusal.Refusal.{Refusal}
use Rattle.diagram.specs.declared.refusal.Refusal.TheVariants.{ShortStore, NoNode, Stale}
use Rattle.diagram.specs.declared.node.Status.TheVariants.{UpToDate}
use Rattle.diagram.specs.declared.table.Table.{Table}
use Rattle.diagram.specs.declared.diagram.Diagram.{Diagram}
use Rattle.diagram.specs.Refusals.{Asked}
use Rattle.diagram.specs.Shown.{records}
use Rattle.diagram.specs.Records.{Sound, status_at, size_at}
use Rattle.diagram.specs.Store.{row_at}
use Rattle.diagram.specs.Histories.{History, made, Answers}
use Rattle.diagram.specs.Runs.{Run}
use Rattle.diagram.proofs.Promise.{run_right}
use Rattle.diagram.proofs.Questions.{current_question}
use Rattle.diagram.proofs.RunGoesOn.{granted, given}
use Rattle.files.specs.Analysing.{NodeAnswers}

-- a question about node k is asked whether the store is roomy, k is a node and k is up to date
abbrev OfNode : {T : Type 0} → Table → List T → ℕ → Type 0 → Type 0 → Type 0 → Type 0 → Type 0
OfNode t s k short none stale rest = Asked (STORE ≤ length s) short (Asked (k < t.count) none (Asked (status_at t k ≡ UpToDate) stale rest))

module _ {T : Type 0} {t : Table} {s : List T} {k : ℕ} where
  -- the row of a node that answers is as long as its record says
  pub row_long : Sound t → NodeAnswers t s k → length (row_at t s k) ≡ size_at t k
  row_long sound a =
      let few = sound.few in
      simp (length-take, length-drop) (omega (arith, few, a.roomy, a.node, a.fits))

  -- what it is asked, it tells
  pub tells : {short none stale rest : Type 0} → NodeAnswers t s k → OfNode t s k short none stale rest → rest
  tells a x = granted a.up_to_date (granted a.node (granted a.roomy x))

abbrev Told : ℕ → Result ℕ Refusal → Type 0
Told n r = ◌≡◌ {A = Result ℕ Refusal} (Ok n) r

-- a node that tells its size has no more terms than a row
pub sized : {T : Type 0} {t : Table} (s : List T) (k n : ℕ) → Sound t → OfNode t s k (Told n (Err ShortStore)) (Told n (Err NoNode)) (Told n (Err Stale)) (Told n (Ok (size_at t k))) → (n ≡ size_at t k) × (n ≤ TERMS)
sized {t = t} s k n sound x =
    let node = given (given x).1 in
    let told = (given node.1).1 in
    let same : n ≡ size_at t k = cc in
    (same, omega (arith, same, (sound.at k node.0).own.sized))

pub node_answers : {P W : Type 0} {kind : Performance.Ghosts P} {weights : Weight.Ghosts W} → Kind kind → Weighing weights → (h : History P W) (d : Diagram P W) (s : List (Term P W)) (k : ℕ) →
    Run kind weights h d s → STORE ≤ length s → k < made h → Answers h k → NodeAnswers (records d) s k
node_answers {kind = kind} {weights = weights} laws weigh h d s k run roomy node answers =
    let holds = (run_right kind weights laws weigh h d s run).1 in
    let there : k < (records d).count = omega (arith, node, holds.count) in
    record { roomy = roomy; node = there; up_to_date = (current_question kind weights h (records d) s d.sound holds k there).1 answers; fits = (d.sound.at k there).own.sized }
