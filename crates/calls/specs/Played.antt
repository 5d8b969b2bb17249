-- Sequences of calls as text: which call a line asks for, what it is answered, and that the calls are made on one diagram.
use Rattle.std.specs.Prelude.{◌≡◌, ◌⊎◌, ℕ, ◌-◌, ◌≤◌, List, [], ◌∷◌, ◌++◌, length, take, drop, reverse, flat_map, codes, decimal, Option, IfSome, Result, Ok, Err}
use Rattle.std.specs.Str.Lines.{lines}
use Rattle.kinds.specs.Named.{Parts}
use Rattle.kinds.specs.Words.{number}
use Rattle.kinds.specs.contracts.parts.PartsWeight.TheImpl.{ghosts as parts}
use Rattle.kinds.specs.declared.performance.Performance
use Rattle.terms.specs.declared.term.Term.{Term}
use Rattle.terms.specs.declared.term.Way.TheVariants.{Series, Parallel}
use Rattle.diagram.specs.declared.refusal.Refusal.{Refusal}
use Rattle.diagram.specs.declared.diagram.Diagram.{Diagram}
use Rattle.diagram.specs.declared.limits.TheConstants.{STORE}
use Rattle.diagram.specs.Refusals.{number_of}
use Rattle.diagram.specs.Histories as histories
use Rattle.diagram.specs.Histories.{size, term, total, availability, Call, adding, joining, bridging, restating, collecting, asking, one_term, one_weight, two_weights, Reply, Entry}
use Rattle.diagram.specs.Runs.{Performs, Run}
use Rattle.diagram.specs.Shown.{records}
use Rattle.calls.specs.declared.written.Written
use Rattle.calls.specs.Numbers.{WritesNumbers}

-- the text of a refusal: its number
abbrev pub refusal_text : Refusal → List ℕ
refusal_text why = codes "no " ++ decimal (number_of why)

-- the text of an answer as it prints itself, or of its refusal
abbrev pub AnswerText : {A : Type 0} → (A → Option (List ℕ)) → Result A Refusal → List ℕ → Type 0
AnswerText output (Ok a) text = IfSome (output a) (λ printed. text ≡ printed)
AnswerText output (Err why) text = text ≡ refusal_text why

abbrev pub weights_text : Parts → Parts → List ℕ
weights_text met all = decimal (number met) ++ (codes " " ++ decimal (number all))

abbrev pub weights_answer_text : Result (Parts × Parts) Refusal → List ℕ
weights_answer_text (Ok x) = weights_text x.0 x.1
weights_answer_text (Err why) = refusal_text why

-- the name ends at the first blank, or with the text
abbrev pub NameFirst : List ℕ → List ℕ → List ℕ → Type 0
NameFirst text name rest = (text ≡ name ++ (codes " " ++ rest)) ⊎ ((text ≡ name) × (rest ≡ []))

module _ {P : Type 0} (written : Written.Ghosts P) where
  -- two words and a weight
  abbrev pub state_numbers : Term P Parts → List ℕ
  state_numbers t = let words = written.words t.performance in words.0 ∷ words.1 ∷ number t.weight ∷ []

  abbrev pub term_text : Term P Parts → List ℕ
  term_text t =
      let words = written.words t.performance in
      decimal words.0 ++ (codes " " ++ (decimal words.1 ++ (codes " " ++ decimal (number t.weight))))

  abbrev pub term_answer_text : Result (Term P Parts) Refusal → List ℕ
  term_answer_text (Ok t) = term_text t
  term_answer_text (Err why) = refusal_text why

  -- the name of a call, and the numbers that stand after it
  abbrev pub name_of : Call P Parts → List ℕ
  name_of (adding states) = codes "add"
  name_of (joining Series children) = codes "series"
  name_of (joining Parallel children) = codes "parallel"
  name_of (bridging a b c d e) = codes "bridge"
  name_of (restating k states) = codes "restate"
  name_of (collecting k) = codes "collect"
  name_of (asking k size) = codes "size"
  name_of (asking k (term i)) = codes "term"
  name_of (asking k total) = codes "total"
  name_of (asking k (availability demand)) = codes "availability"

  abbrev pub numbers_of : Call P Parts → List ℕ
  numbers_of (adding states) = flat_map state_numbers states
  numbers_of (joining way children) = children
  numbers_of (bridging a b c d e) = a ∷ b ∷ c ∷ d ∷ e ∷ []
  numbers_of (restating k states) = k ∷ flat_map state_numbers states
  numbers_of (collecting k) = k ∷ []
  numbers_of (asking k (term i)) = k ∷ i ∷ []
  numbers_of (asking k (availability demand)) = let words = written.words demand in k ∷ words.0 ∷ words.1 ∷ []
  numbers_of (asking k question) = k ∷ []

  abbrev pub reply_text : Reply P Parts → List ℕ
  reply_text (Ok (histories.number n)) = decimal n
  reply_text (Ok (one_term t)) = term_text t
  reply_text (Ok (one_weight w)) = decimal (number w)
  reply_text (Ok (two_weights met all)) = weights_text met all
  reply_text (Err why) = refusal_text why

  -- a text asks for this call
  abbrev pub AsksFor : List ℕ → Call P Parts → Type 0
  AsksFor text call = (rest : List ℕ) × NameFirst text (name_of call) rest × WritesNumbers rest (numbers_of call)

  -- a line asks for the call of this entry, and says its reply; after `short` one term too few is lent
  abbrev pub LineSays : List ℕ → Entry P Parts → Type 0
  LineSays line e =
      (asked : List ℕ) × (line ≡ asked ++ (codes " = " ++ reply_text e.reply))
      × (((rest : List ℕ) × (asked ≡ codes "short " ++ rest) × (e.lent ≡ STORE - 1) × AsksFor rest e.call) ⊎ ((e.lent ≡ STORE) × AsksFor asked e.call))

  -- each line an entry, the oldest first
  abbrev pub LinesSay : List (List ℕ) → List (Entry P Parts) → Type 0
  LinesSay [] [] = Unit {0}
  LinesSay (line ∷ others) (e ∷ entries) = LineSays line e × LinesSay others entries
  LinesSay _ _ = ⊥

  module _ (kind : Performance.Ghosts P) where
    abbrev Terms : Type 0
    Terms = List (Term P Parts)

    -- the diagram is called by this name, with these numbers, and answers this text
    abbrev pub CallMade : List ℕ → List ℕ → Diagram P Parts → Terms → List ℕ → Diagram P Parts → Terms → Type 0
    CallMade name numbers d s said d' s' =
        (call : Call P Parts) × (reply : Reply P Parts) × (name ≡ name_of call) × (numbers ≡ numbers_of call) × (said ≡ reply_text reply)
        × Performs kind parts call (records d) s reply (records d') s'

    -- the diagram is called as a text asks
    abbrev pub CallMadeAs : List ℕ → Diagram P Parts → Terms → List ℕ → Diagram P Parts → Terms → Type 0
    CallMadeAs text d s said d' s' =
        (call : Call P Parts) × (reply : Reply P Parts) × AsksFor text call × (said ≡ reply_text reply) × Performs kind parts call (records d) s reply (records d') s'

    -- the call of a line is made over the first terms of the store, and answered as the line says
    abbrev pub LinePlayed : List ℕ → Diagram P Parts → Terms → Diagram P Parts → Terms → Type 0
    LinePlayed line d s d' s' =
        (e : Entry P Parts) × LineSays line e × (e.lent ≤ length s) × Performs kind parts e.call (records d) (take e.lent s) e.reply (records d') (take e.lent s')
        × (drop e.lent s' ≡ drop e.lent s)

    -- the calls of all lines are made on one diagram, as many as there are lines, and each is answered as its line says
    abbrev pub Played : List ℕ → ℕ → Type 0
    Played text n =
        (entries : List (Entry P Parts)) × (d : Diagram P Parts) × (s : Terms) × LinesSay (lines text) entries × (n ≡ length entries)
        × Run kind parts (reverse entries) d s
