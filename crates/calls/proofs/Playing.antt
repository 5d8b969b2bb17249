-- A line that is played is one call more of a run.
use Rattle.std.proofs.Common.{◌≡◌, ◌⊎◌, ℕ, ◌+◌, ◌-◌, ◌<◌, ◌≤◌, List, [], ◌∷◌, ◌++◌, length, take, drop, reverse, codes, Some, Result, Ok, Err, IfOk, ap, sym, subst, ◌∙◌, refl, inl, inr, arith, length-take, append-nil}
use Rattle.std.specs.Str.Pattern.{FindsTextPrefix}
use Rattle.std.proofs.lemmas.List.{reverse-append, take_all, take-append-drop, drop_all}
use Rattle.std.proofs.Math.Seq.{take-append_seam, drop-append_seam}
use Rattle.kinds.specs.Named.{Parts}
use Rattle.kinds.specs.contracts.parts.PartsWeight.TheImpl.{ghosts as parts}
use Rattle.kinds.specs.declared.performance.Performance
use Rattle.terms.specs.declared.term.Term.{Term}
use Rattle.diagram.specs.declared.refusal.Refusal.{Refusal}
use Rattle.diagram.specs.declared.table.Table.{Table}
use Rattle.diagram.specs.declared.diagram.Diagram.{Diagram}
use Rattle.diagram.specs.declared.limits.TheConstants.{ROWS, STORE}
use Rattle.diagram.specs.Calls.{Made, Refused}
use Rattle.diagram.specs.Refusals.{Asked}
use Rattle.diagram.specs.Histories.{Call, adding, joining, bridging, restating, collecting, asking, Reply, Entry, History}
use Rattle.diagram.specs.Runs.{Performs, Run, start, next, lent_too_few}
use Rattle.diagram.specs.Shown.{records}
use Rattle.calls.specs.declared.written.Written
use Rattle.calls.specs.Played.{AsksFor, CallMadeAs, LineSays, LinePlayed, LinesSay}

-- what a line asks after `short`, with one term too few, or all that it asks
abbrev pub Lent : List ℕ → List ℕ → ℕ → Type 0
Lent asked text len = ((asked ≡ codes "short " ++ text) × (len ≡ STORE - 1)) ⊎ ((text ≡ asked) × (len ≡ STORE))

-- too few terms are lent, and so the first question has the answer no
denied : {T A rest : Type 0} {t t' : Table} {s s' : List T} {r : Result A Refusal} {why : Refusal} → length s < STORE → Asked (STORE ≤ length s) (Refused t s r t' s' why) rest → Refused t s r t' s' why
denied {s = s} few (inl x) = let enough : STORE ≤ length s = x.0 in absurd (omega (arith, few, enough))
denied few (inr x) = x.1

-- a prefix that was found
pub stripped : (p s x : List ℕ) → (n : ℕ) × FindsTextPrefix p s (Some n) × (x ≡ drop n s) × (length x + n ≡ length s) → s ≡ p ++ x
stripped p s x (n, found, is, long) = found.1 ∙ ap (λ z. p ++ z) (sym is)

module _ {P : Type 0} (written : Written.Ghosts P) (kind : Performance.Ghosts P) where
  abbrev Terms : Type 0
  Terms = List (Term P Parts)

  asks : (asked text : List ℕ) (len : ℕ) (call : Call P Parts) → Lent asked text len → AsksFor written text call →
      ((rest : List ℕ) × (asked ≡ codes "short " ++ rest) × (len ≡ STORE - 1) × AsksFor written rest call) ⊎ ((len ≡ STORE) × AsksFor written asked call)
  asks asked text len call (inl (is, few)) x = inl (text, is, few, x)
  asks asked text len call (inr (is, all)) x = inr (all, subst (λ z. AsksFor written z call) is x)

  -- the call of a line is made, and answered as the line wants
  pub line_played : {E : Type 0} (line asked wanted text said : List ℕ) (len : ℕ) (d d' : Diagram P Parts) (s left s' : Terms) (r : Result (Unit {0}) E) →
      line ≡ asked ++ (codes " = " ++ wanted) → Lent asked text len → len ≤ length s → CallMadeAs written kind text d (take len s) said d' left →
      length left ≡ len → s' ≡ left ++ drop len s → IfOk r (λ x. said ≡ wanted) → IfOk r (λ x. LinePlayed written kind line d s d' s')
  line_played line asked wanted text said len d d' s left s' (Err e) cut lent within called long whole wants = tt
  line_played line asked wanted text said len d d' s left s' (Ok x) cut lent within (call, reply, asks_for, tells, performs) long whole wants =
      let front : left ≡ take len s' = sym (ap (λ n. take n s') (sym long) ∙ ap (take (length left)) whole ∙ take-append_seam left (drop len s)) in
      let back : drop len s' ≡ drop len s = ap (λ n. drop n s') (sym long) ∙ ap (drop (length left)) whole ∙ drop-append_seam left (drop len s) in (
        record { call = call; lent = len; reply = reply },
        (asked, cut ∙ ap (λ z. asked ++ (codes " = " ++ z)) (sym wants ∙ tells), asks asked text len call lent asks_for),
        within,
        subst (λ (z : Terms). Performs kind parts call (records d) (take len s) reply (records d') z) front performs,
        back,
      )

  -- a call that is lent too few terms leaves them
  left_alone : (call : Call P Parts) (t t' : Table) (s s' : Terms) (reply : Reply P Parts) → length s < STORE → Performs kind parts call t s reply t' s' → s' ≡ s
  left_alone (adding states) t t' s s' reply few (r, x, is) = (denied few x).store
  left_alone (joining way children) t t' s s' reply few (r, x, same, is) = same
  left_alone (bridging a b c d e) t t' s s' reply few (r, x, same, is) = same
  left_alone (restating k states) t t' s s' reply few (r, x, is) = (denied few x).store
  left_alone (collecting k) t t' s s' reply few (r, x, is) = (denied few x).store
  left_alone (asking k question) t t' s s' reply few (x, records, same) = same

  entry_of : (e : Entry P Parts) (n : ℕ) → n ≡ e.lent → record { call = e.call; lent = n; reply = e.reply } ≡ e
  entry_of e n is = λ i. record { call = e.call; lent = is i; reply = e.reply }

  -- a line that is played is one entry more
  run_on : (h : History P Parts) (d d' : Diagram P Parts) (s s' : Terms) (e : Entry P Parts) → Run kind parts h d s → length s ≡ STORE → length s' ≡ STORE →
      (e.lent ≡ STORE - 1) ⊎ (e.lent ≡ STORE) → Performs kind parts e.call (records d) (take e.lent s) e.reply (records d') (take e.lent s') → drop e.lent s' ≡ drop e.lent s → Run kind parts (e ∷ h) d' s'
  run_on h d d' s s' e run long long' (inl few) performs rest =
      let lent : length (take e.lent s) ≡ e.lent = simp length-take (omega (arith, few, long)) in
      let same = left_alone e.call (records d) (records d') (take e.lent s) (take e.lent s') e.reply (omega (arith, lent, few)) performs in
      let store : s ≡ s' = sym (take-append-drop e.lent s) ∙ (λ i. sym same i ++ sym rest i) ∙ take-append-drop e.lent s' in
      subst (λ (z : Terms). Run kind parts (e ∷ h) d' z) store
      (subst (λ (z : Entry P Parts). Run kind parts (z ∷ h) d' s) (entry_of e (length (take e.lent s)) lent) (lent_too_few e.call (take e.lent s) (take e.lent s') e.reply run (omega (arith, lent, few)) performs))
  run_on h d d' s s' e run long long' (inr all) performs rest =
      let lent : length (take e.lent s) ≡ e.lent = simp length-take (omega (arith, all, long)) in
      let whole : take e.lent s ≡ s = take_all e.lent s (omega (arith, all, long)) in
      let whole' : take e.lent s' ≡ s' = take_all e.lent s' (omega (arith, all, long')) in
      subst (λ (z : Terms). Run kind parts (e ∷ h) d' z) whole'
      (subst (λ (z : Entry P Parts). Run kind parts (z ∷ h) d' (take e.lent s')) (entry_of e (length (take e.lent s)) lent) (next e.call (take e.lent s) (take e.lent s') e.reply run (omega (arith, lent, all)) (ap (take ROWS) whole) performs))

  -- these lines are played, over a store of as many terms as a diagram needs
  pub record PlayedSoFar (lines : List (List ℕ)) (d : Diagram P Parts) (s : Terms) : Type 0 where
    pub entries : List (Entry P Parts)
    pub say : LinesSay written lines entries
    pub run : Run kind parts (reverse entries) d s
    pub long : length s ≡ STORE

  -- each line has an entry
  pub as_many : (lines : List (List ℕ)) (entries : List (Entry P Parts)) → LinesSay written lines entries → length lines ≡ length entries
  as_many [] [] say = refl
  as_many [] (e ∷ entries) say = absurd say
  as_many (line ∷ lines) [] say = absurd say
  as_many (line ∷ lines) (e ∷ entries) say = omega (arith, as_many lines entries say.1)

  say_more : (lines : List (List ℕ)) (entries : List (Entry P Parts)) (line : List ℕ) (e : Entry P Parts) → LinesSay written lines entries → LineSays written line e → LinesSay written (lines ++ (line ∷ [])) (entries ++ (e ∷ []))
  say_more [] [] line e say says = (says, tt)
  say_more [] (f ∷ entries) line e say says = absurd say
  say_more (l ∷ lines) [] line e say says = absurd say
  say_more (l ∷ lines) (f ∷ entries) line e say says = (say.0, say_more lines entries line e say.1 says)

  lent_of : (line : List ℕ) (e : Entry P Parts) → LineSays written line e → (e.lent ≡ STORE - 1) ⊎ (e.lent ≡ STORE)
  lent_of line e (asked, cut, inl (rest, is, few, asks)) = inl few
  lent_of line e (asked, cut, inr (all, asks)) = inr all

  pub none_played : (d : Diagram P Parts) (s : Terms) → Made records s (Ok d) → length s ≡ STORE → PlayedSoFar [] d s
  none_played d s made long = record { entries = []; say = tt; run = start made; long = long }

  pub one_played : (lines all : List (List ℕ)) (line : List ℕ) (d d' : Diagram P Parts) (s s' : Terms) → PlayedSoFar lines d s → LinePlayed written kind line d s d' s' → length s' ≡ length s → all ≡ lines ++ (line ∷ []) → PlayedSoFar all d' s'
  one_played lines all line d d' s s' before (e, says, within, performs, rest) long is =
      let on = run_on (reverse before.entries) d d' s s' e before.run before.long (long ∙ before.long) (lent_of line e says) performs rest in
      subst (λ z. PlayedSoFar z d' s') (sym is) (record {
        entries = before.entries ++ (e ∷ []);
        say = say_more lines before.entries line e before.say says;
        run = subst (λ (z : History P Parts). Run kind parts z d' s') (sym (reverse-append before.entries (e ∷ []))) on;
        long = long ∙ before.long;
      })

-- what was written over a whole list
pub written_over : {A : Type 0} (n : ℕ) (over list : List A) → n ≡ length list → length over ≡ length list → take n (over ++ drop (length over) list) ≡ over
written_over n over list is long =
    ap (λ z. take n (over ++ z)) (drop_all (length over) list (omega (arith, long))) ∙ ap (take n) (append-nil over) ∙ take_all n over (omega (arith, is, long))
