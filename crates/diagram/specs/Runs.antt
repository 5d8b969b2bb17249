-- Runs of a diagram, and what holds of every one of them.
use Rattle.std.specs.Prelude.{◌≡◌, ℕ, ◌<◌, ◌≤◌, List, [], ◌∷◌, length, take, Result, Ok, Err}
use Rattle.kinds.specs.declared.performance.Performance
use Rattle.kinds.specs.declared.weight.Weight
use Rattle.terms.specs.declared.term.Term.{Term}
use Rattle.terms.specs.Readings.{ReadSame}
use Rattle.diagram.specs.declared.limits.TheConstants.{ROWS, STORE}
use Rattle.diagram.specs.declared.refusal.Refusal.{Refusal}
use Rattle.diagram.specs.declared.node.Form.{Form}
use Rattle.diagram.specs.declared.node.Form.TheVariants.{Joined, Bridge}
use Rattle.diagram.specs.declared.table.Table.{Table}
use Rattle.diagram.specs.declared.diagram.Diagram.{Diagram}
use Rattle.diagram.specs.Shown.{records}
use Rattle.diagram.specs.Calls.{Made, Added, Joins, Restated, Collected, TellsSize, TellsTerm, TellsTotal, TellsAvailability}
use Rattle.diagram.specs.Histories.{Question, size, term, total, availability, Call, adding, joining, bridging, restating, collecting, asking, Answer, number, one_term, one_weight, two_weights, Reply, Entry, History, drawing_of, states_of, Answers}
use Rattle.diagram.specs.RightAnswers.{RightThroughout}

-- what is answered, as an entry tells it
abbrev pub as_reply : {P W A : Type 0} → (A → Answer P W) → Result A Refusal → Reply P W
as_reply to (Ok a) = Ok (to a)
as_reply to (Err e) = Err e

-- the reply to a call whose answer is so
abbrev pub Replied : {P W A : Type 0} → (Result A Refusal → Type 0) → (A → Answer P W) → Reply P W → Type 0
Replied {A = A} IsSo to reply = (r : Result A Refusal) × IsSo r × (reply ≡ as_reply to r)

module _ {P W : Type 0} (kind : Performance.Ghosts P) (weights : Weight.Ghosts W) where
  abbrev Terms : Type 0
  Terms = List (Term P W)

  -- such a question about node k, as the contract of its call has it
  abbrev pub Replies : Table → Terms → ℕ → Question P → Reply P W → Type 0
  Replies t s k size = Replied (TellsSize kind weights t s k) number
  Replies t s k (term i) = Replied (TellsTerm kind weights t s k i) one_term
  Replies t s k total = Replied (TellsTotal kind weights t s k) one_weight
  Replies t s k (availability demand) = Replied (TellsAvailability kind weights t s k demand) (λ w. two_weights w.0 w.1)

  -- the reply to a joining, which only reads the store
  abbrev JoinsReplied : Table → Terms → Form → List ℕ → Reply P W → Table → Terms → Type 0
  JoinsReplied t s form named reply t' s' =
      (r : Result ℕ Refusal) × Joins kind weights t s form named r t' × (s' ≡ s) × (reply ≡ as_reply number r)

  -- a call, as its contract has it, on a diagram with these records and a store that is lent
  abbrev pub Performs : Call P W → Table → Terms → Reply P W → Table → Terms → Type 0
  Performs (adding states) t s reply t' s' = Replied (λ r. Added kind weights t s states r t' s') number reply
  Performs (joining way children) t s reply t' s' = JoinsReplied t s (Joined way) children reply t' s'
  Performs (bridging a b c d e) t s reply t' s' = JoinsReplied t s Bridge (a ∷ b ∷ c ∷ d ∷ e ∷ []) reply t' s'
  Performs (restating k states) t s reply t' s' = Replied (λ r. Restated kind weights t s k states r t' s') number reply
  Performs (collecting k) t s reply t' s' = Replied (λ r. Collected kind weights t s k r t' s') number reply
  Performs (asking k question) t s reply t' s' = Replies t s k question reply × (t' ≡ t) × (s' ≡ s)

  -- Any run of calls after the making, newest first, and the diagram and store that it leaves. Each call that is lent
  -- enough terms finds the places of the nodes as the calls before left them; one that is lent fewer finds the diagram so.
  pub data Run : History P W → Diagram P W → Terms → Type 0 where
    start : {d : Diagram P W} {s : Terms} → Made records s (Ok d) → Run [] d s
    next :
        {h : History P W} {d d' : Diagram P W} {s : Terms} (call : Call P W) (lent left : Terms) (reply : Reply P W) →
        Run h d s → STORE ≤ length lent → take ROWS lent ≡ take ROWS s →
        Performs call (records d) lent reply (records d') left →
        Run (record { call = call; lent = length lent; reply = reply } ∷ h) d' left
    lent_too_few :
        {h : History P W} {d d' : Diagram P W} {s : Terms} (call : Call P W) (lent left : Terms) (reply : Reply P W) →
        Run h d s → length lent < STORE → Performs call (records d) lent reply (records d') left →
        Run (record { call = call; lent = length lent; reply = reply } ∷ h) d' s

  -- whatever calls a diagram is given, in whatever order, each is answered right
  abbrev pub AnswersRight : Type 0
  AnswersRight = (h : History P W) (d : Diagram P W) (s : Terms) → Run h d s → RightThroughout kind weights h

  abbrev asks : ℕ → Question P → ℕ → Reply P W → Entry P W
  asks k question lent reply = record { call = asking k question; lent = lent; reply = reply }

  -- two nodes that answer and read the same, of one diagram or of two, answer every question alike
  abbrev pub AnswersAlike : Type 0
  AnswersAlike =
      (h h' : History P W) (d d' : Diagram P W) (s s' : Terms) (m n lent lent' : ℕ) (question : Question P) (reply reply' : Reply P W) →
      STORE ≤ lent → STORE ≤ lent' →
      Run (asks m question lent reply ∷ h) d s → Run (asks n question lent' reply' ∷ h') d' s' →
      Answers h m → Answers h' n → ReadSame kind weights (states_of h) (drawing_of h m) (states_of h') (drawing_of h' n) →
      reply ≡ reply'
