-- Collecting nodes one after the other: two, or every joined node by rising number.
use Rattle.std.specs.Prelude.{◌≡◌, ◌≢◌, ℕ, ◌+◌, ◌<◌, ◌≤◌, ◌⊎◌, List, length, Result, Ok, Err}
use Rattle.kinds.specs.declared.performance.Performance
use Rattle.kinds.specs.declared.weight.Weight
use Rattle.terms.specs.declared.term.Term.{Term}
use Rattle.terms.specs.Enumeration.{enumeration}
use Rattle.diagram.specs.declared.diagram.Diagram.{Diagram}
use Rattle.diagram.specs.declared.limits.TheConstants.{STORE}
use Rattle.diagram.specs.declared.node.Form.TheVariants.{Part}
use Rattle.diagram.specs.declared.node.Status.TheVariants.{UpToDate}
use Rattle.diagram.specs.declared.refusal.Refusal.{Refusal}
use Rattle.diagram.specs.declared.refusal.Refusal.TheVariants.{ShortStore, LongArm, LongResult}
use Rattle.diagram.specs.declared.refusal.RefusedAt.{RefusedAt}
use Rattle.diagram.specs.declared.table.Table.{Table}
use Rattle.diagram.specs.Refusals.{Asked}
use Rattle.diagram.specs.Calls.{Collected}
use Rattle.diagram.specs.Histories.{History, made, making_of, drawing_of, states_of, IsPart, Answers}
use Rattle.diagram.specs.Records.{form_at, status_at}
use Rattle.diagram.specs.RightAnswers.{ArmsShort, ResultsShort}
use Rattle.diagram.specs.Runs.{Run}
use Rattle.diagram.specs.Shown.{records}
use Rattle.diagram.specs.Standing.{RowsStand}

module _ {P W : Type 0} (kind : Performance.Ghosts P) (weights : Weight.Ghosts W) where
  abbrev Terms : Type 0
  Terms = List (Term P W)

  -- two nodes are collected, one after the other
  abbrev pub BothCollected : Table → Terms → ℕ → ℕ → Table → Terms → Type 0
  BothCollected t s first second t' s' =
      (between : Diagram P W) × (left : Terms) × (m : ℕ) × (n : ℕ)
      × Collected kind weights t s first (Ok m) (records between) left
      × Collected kind weights (records between) left second (Ok n) t' s'

  -- the first of two nodes is refused, or the second once the first is collected
  abbrev pub OneRefused : Table → Terms → ℕ → ℕ → Refusal → Table → Terms → Type 0
  OneRefused t s first second why t' s' =
      Collected kind weights t s first (Err why) t' s'
      ⊎ ((between : Diagram P W) × (left : Terms) × (m : ℕ)
      × Collected kind weights t s first (Ok m) (records between) left
      × Collected kind weights (records between) left second (Err why) t' s')

  module _ (d : Diagram P W) (s : Terms) where
    -- the joined ones of the first n nodes are collected in turn, which leaves this diagram and this store
    pub data CollectedTo : ℕ → Diagram P W → Terms → Type 0 where
      none_yet : CollectedTo 0 d s
      past_part :
          {n : ℕ} {d' : Diagram P W} {s' : Terms} →
          CollectedTo n d' s' → form_at (records d') n ≡ Part → CollectedTo (n + 1) d' s'
      one_more :
          {n size : ℕ} {d' d'' : Diagram P W} {s' s'' : Terms} →
          CollectedTo n d' s' → Collected kind weights (records d') s' n (Ok size) (records d'') s'' →
          CollectedTo (n + 1) d'' s''

    -- so all are, and every node is up to date; or they are up to one that is refused
    abbrev pub InTurn : Result (Unit {0}) RefusedAt → Diagram P W → Terms → Type 0
    InTurn (Ok _) d' s' =
        CollectedTo (records d).count d' s'
        × ((k : ℕ) → k < (records d').count → status_at (records d') k ≡ UpToDate)
    InTurn (Err at) d' s' =
        (between : Diagram P W) × (left : Terms) × CollectedTo at.node between left
        × (at.node < (records d).count) × (form_at (records between) at.node ≢ Part)
        × Collected kind weights (records between) left at.node (Err at.refusal) (records d') s'

    -- the store is asked for first, whether there is a joined node or not
    abbrev pub CollectsInTurn : Result (Unit {0}) RefusedAt → Diagram P W → Terms → Type 0
    CollectsInTurn r d' s' =
        Asked (STORE ≤ length s)
        ((r ≡ Err (record { node = 0; refusal = ShortStore })) × (d' ≡ d) × (s' ≡ s))
        (InTurn r d' s')

  module _ (h : History P W) where
    -- the rows of the arms of node k, if it is a bridge, and its running results are short enough
    abbrev pub Short : ℕ → Type 0
    Short k = ArmsShort kind weights h k × ResultsShort kind weights h k

    -- the first no that the collecting of node k is told
    abbrev pub NotShort : ℕ → Refusal → Type 0
    NotShort k why =
        ((¬ ArmsShort kind weights h k) × (why ≡ LongArm))
        ⊎ (ArmsShort kind weights h k × (¬ ResultsShort kind weights h k) × (why ≡ LongResult))

    -- every joined node is collected, by rising number: the first that is too long is refused
    abbrev pub AllCollected : (ℕ → Refusal → Type 0) → Type 0 → Type 0
    AllCollected refused rest =
        ((k : ℕ) × (why : Refusal) × (k < made h) × ((j : ℕ) → j < k → Short j) × NotShort k why × refused k why)
        ⊎ (((k : ℕ) → k < made h → Short k) × rest)

    -- the parts, and the joined nodes below n, have the rows of their enumerations; nothing has changed but their places
    -- and the working rows
    abbrev pub RowsLeft : ℕ → Terms → Terms → Type 0
    RowsLeft n =
        RowsStand kind weights (λ k. (k < made h) × (IsPart h k ⊎ (k < n)))
        (λ k. enumeration kind weights (states_of h) (drawing_of h k))

    -- after these calls the nodes are as after those, and the first n of them answer
    pub record FirstAnswer (n : ℕ) (h' : History P W) : Type 0 where
      pub nodes : made h' ≡ made h
      pub makings : making_of h' ≡ making_of h
      pub drawings : drawing_of h' ≡ drawing_of h
      pub states : states_of h' ≡ states_of h
      pub answer : (k : ℕ) → k < n → Answers h' k

    -- what is left once the joined ones of the first n nodes are collected
    abbrev pub Leaves : ℕ → Terms → Diagram P W → Terms → Type 0
    Leaves n s d' s' = RowsLeft n s s' × ((h' : History P W) × Run kind weights h' d' s' × FirstAnswer n h')

  -- after whatever calls: all nodes are collected, and answer; or one is too long, and all below it answer
  abbrev pub CollectsAll : Diagram P W → Terms → Result (Unit {0}) RefusedAt → Diagram P W → Terms → Type 0
  CollectsAll d s r d' s' =
      (h : History P W) → Run kind weights h d s → STORE ≤ length s →
      AllCollected h (λ k why. (r ≡ Err (record { node = k; refusal = why })) × Leaves h k s d' s')
      ((r ≡ Ok tt) × Leaves h (made h) s d' s')
