-- Loops over a list, each item of which adds terms to a row, at once or held back as a group.
use Rattle.std.proofs.Common.{◌≡◌, ℕ, ◌+◌, ◌<◌, ◌≤◌, List, [], ◌++◌, length, get_or, take, drop, Some, None, Option, sym, refl, ap, ◌∙◌, subst, append_assoc, append-nil, arith}
use Rattle.std.proofs.lemmas.List.{take-append-drop, take_all}
use Rattle.kinds.specs.declared.performance.Performance
use Rattle.kinds.specs.declared.weight.Weight
use Rattle.terms.specs.declared.term.Term.{Term}
use Rattle.terms.specs.declared.row.Row.{Row}
use Rattle.terms.specs.Rows.{share, weight_at, SameDistribution, IsRow, RowOf}
use Rattle.terms.specs.Merging.{Merges}
use Rattle.terms.specs.Combinations.{each}
use Rattle.terms.specs.Growing.{Grows, length_if, terms_of}
use Rattle.kinds.proofs.Lawful.{Kind, Weighing}
use Rattle.terms.proofs.Summing.{sum_append}
use Rattle.terms.proofs.Canonical.{canon, canon_row, canon_longer, row_unique}
use Rattle.terms.proofs.Each.{each_append, each_next}

module _ {P W : Type 0} (kind : Performance.Ghosts P) (weights : Weight.Ghosts W) where
  -- all of `more` is merged, but for what is held
  pub record Pending (more : List (Term P W)) (before after : Row P W) (held : List (Term P W)) : Type 0 where
    pub same_room : after.room.ghost_name ≡ before.room.ghost_name
    pub merged : IsRow kind weights (terms_of before) → IsRow kind weights (terms_of after) × SameDistribution kind weights (more ++ terms_of before) (held ++ terms_of after)

module _ {P W : Type 0} {kind : Performance.Ghosts P} {weights : Weight.Ghosts W} (k : Kind kind) (w : Weighing weights) where
  abbrev T : Type 0
  T = Term P W

  abbrev Same : List T → List T → Type 0
  Same = SameDistribution kind weights

  pub row_same : (ts us r : List T) → Same us ts → RowOf kind weights ts r → RowOf kind weights us r
  row_same ts us r e h = record { row = h.row; same = λ p. e p ∙ h.same p }

  pub append_same : (ts ts' us us' : List T) → Same ts ts' → Same us us' → Same (ts ++ us) (ts' ++ us')
  append_same ts ts' us us' e f p =
      sum_append w (share kind weights p) ts us
      ∙ ap (λ z. weights.sum z (weight_at kind weights us p)) (e p)
      ∙ ap (λ z. weights.sum (weight_at kind weights ts' p) z) (f p)
      ∙ sym (sum_append w (share kind weights p) ts' us')

  pub append_swap : (ts us : List T) → Same (ts ++ us) (us ++ ts)
  append_swap ts us p =
      sum_append w (share kind weights p) ts us
      ∙ w.sum_comm (weight_at kind weights ts p) (weight_at kind weights us p)
      ∙ sym (sum_append w (share kind weights p) us ts)

  -- a list that has more terms has a row that is no shorter
  pub longer : (ts us vs room : List T) → Same us (vs ++ ts) → Merges kind weights ts room None → Merges kind weights us room None
  longer ts us vs room e a =
      let whole = canon kind weights (vs ++ ts) in
      let q : a.0 ≡ canon kind weights ts = row_unique k w ts a.0 (canon kind weights ts) a.1 (canon_row k w ts) in
      let h = canon_longer kind weights vs ts in
      let l : length a.0 ≡ length (canon kind weights ts) = ap length q in
      (whole, row_same (vs ++ ts) us whole e (canon_row k w (vs ++ ts)), omega (arith, a.2))

  pub merges_same : (ts us room : List T) (answer : Option ℕ) → SameDistribution kind weights us ts → Merges kind weights ts room answer → Merges kind weights us room answer
  merges_same ts us room (Some n) e h = (h.0, row_same ts us _ e h.1)
  merges_same ts us room None e h = (h.0, row_same ts us h.0 e h.1, h.2)

  one_more : (more r s t : List T) → Same (more ++ r) s → Same ((more ++ t) ++ r) (t ++ s)
  one_more more r s t e p =
      append_same (more ++ t) (t ++ more) r r (append_swap more t) (λ _. refl) p
      ∙ ap (λ z. weight_at kind weights z p) (append_assoc t more r)
      ∙ append_same t t (more ++ r) s (λ _. refl) e p

  pub held_first : (b : Row P W) (h : List T) → Pending kind weights (h ++ []) b b h
  held_first b h = record { same_room = refl; merged = λ row. (row, λ p. ap (λ z. weight_at kind weights (z ++ terms_of b) p) (append-nil h)) }

  -- more is held back
  held_more : (more t h both : List T) (b a : Row P W) → Same (h ++ t) both → Pending kind weights more b a h → Pending kind weights (more ++ t) b a both
  held_more more t h both b a e pending = record {
    same_room = pending.same_room;
    merged = λ row.
        let m = pending.merged row in (
          m.0,
          λ p.
              one_more more (terms_of b) (h ++ terms_of a) t m.1 p
              ∙ ap (λ z. weight_at kind weights z p) (sym (append_assoc t h (terms_of a)))
              ∙ append_same (t ++ h) both (terms_of a) (terms_of a) (λ q. append_swap t h q ∙ e q) (λ _. refl) p,
        );
  }

  -- what is held is merged, and other held
  held_other : (more t h other : List T) (b a c : Row P W) → Same t other → Pending kind weights more b a h → Grows kind weights h a c (Some tt) → Pending kind weights (more ++ t) b c other
  held_other more t h other b a c e pending grows = record {
    same_room = grows.same_room ∙ pending.same_room;
    merged = λ row.
        let m = pending.merged row in
        let n = grows.merged m.0 in (
          n.1.row,
          λ p.
              one_more more (terms_of b) (terms_of c) t (λ q. m.1 q ∙ n.1.same q) p
              ∙ append_same t other (terms_of c) (terms_of c) e (λ _. refl) p,
        );
  }

  -- what is held is merged, or refused
  held_out : (more h : List T) (b a c : Row P W) (answer : Option (Unit {0})) → Pending kind weights more b a h → Grows kind weights h a c answer → Grows kind weights more b c answer
  held_out more h b a c answer pending grows = record {
    same_room = grows.same_room ∙ pending.same_room;
    merged = λ row.
        let m = pending.merged row in
        merges_same (h ++ terms_of a) (more ++ terms_of b) c.room.now (length_if answer c.len) m.1 (grows.merged m.0);
  }

  -- with more terms a row that was too long is too long
  refused_more : (more rest : List T) (b c : Row P W) → Grows kind weights more b c None → Grows kind weights (more ++ rest) b c None
  refused_more more rest b c grows = record {
    same_room = grows.same_room;
    merged = λ row.
        let r = terms_of b in
        longer (more ++ r) ((more ++ rest) ++ r) rest c.room.now
        (λ p. append_same (more ++ rest) (rest ++ more) r r (append_swap more rest) (λ _. refl) p ∙ ap (λ z. weight_at kind weights z p) (append_assoc rest more r))
        (grows.merged row);
  }

  -- what the first gives is what is wanted of it
  pub first_wanted : (h t more : List T) (b a : Row P W) (answer : Option (Unit {0})) → Same h t → Grows kind weights (h ++ more) b a answer → Grows kind weights (t ++ more) b a answer
  first_wanted h t more b a answer e grows = record {
    same_room = grows.same_room;
    merged = λ row.
        merges_same ((h ++ more) ++ terms_of b) ((t ++ more) ++ terms_of b) a.room.now (length_if answer a.len)
        (append_same (t ++ more) (h ++ more) (terms_of b) (terms_of b) (append_same t h more more (λ p. sym (e p)) (λ _. refl)) (λ _. refl))
        (grows.merged row);
  }

  -- more is merged, and then t
  grows_on : (more t : List T) (b a c : Row P W) (answer : Option (Unit {0})) → Grows kind weights more b a (Some tt) → Grows kind weights t a c answer → Grows kind weights (more ++ t) b c answer
  grows_on more t b a c answer before grows =
      held_out (more ++ t) t b a c answer
      (held_more more t [] t b a (λ _. refl) (record { same_room = before.same_room; merged = λ row. ((before.merged row).1.row, (before.merged row).1.same) }))
      grows

  -- adding what f gives for each of a list
  module _ {X : Type 0} (xs : List X) (f : X → List T) (i : ℕ) (b : Row P W) where
    pub each_more : (x : X) → i < length xs → x ≡ get_or xs i x → (a c : Row P W) (answer : Option (Unit {0})) → Grows kind weights (each (take i xs) f) b a (Some tt) → Grows kind weights (f x) a c answer → Grows kind weights (each (take (i + 1) xs) f) b c answer
    each_more x within read a c answer before grows =
        subst (λ z. Grows kind weights z b c answer) (sym (each_next xs f i x within read))
        (grows_on (each (take i xs) f) (f x) b a c answer before grows)

    pub each_refused : (c : Row P W) → Grows kind weights (each (take i xs) f) b c None → Grows kind weights (each xs f) b c None
    each_refused c grows =
        subst (λ z. Grows kind weights z b c None) (sym (each_append (take i xs) (drop i xs) f) ∙ ap (λ z. each z f) (take-append-drop i xs))
        (refused_more (each (take i xs) f) (each (drop i xs) f) b c grows)

    pub each_all : length xs ≤ i → (a : Row P W) → Grows kind weights (each (take i xs) f) b a (Some tt) → Grows kind weights (each xs f) b a (Some tt)
    each_all over a grows = subst (λ z. Grows kind weights (each z f) b a (Some tt)) (take_all i xs over) grows

  -- adding what is wanted for each of a list, with the last group held back
  module _ {K : Type 0} (gives : K → W → List T) (sums : (key : K) (u v : W) → Same (gives key (weights.sum u v)) (gives key u ++ gives key v)) (xs : List T) (wanted : P → W → List T) (v : W) (first : List T) where
    abbrev adds : T → List T
    adds x = wanted x.performance (weights.product v x.weight)

    abbrev so_far : ℕ → List T
    so_far i = first ++ each (take i xs) adds

    abbrev held : K → W → List T
    held key u = gives key (weights.product v u)

    next : (i : ℕ) (x : T) → i < length xs → x ≡ get_or xs i x → so_far (i + 1) ≡ so_far i ++ adds x
    next i x within read = ap (λ z. first ++ z) (each_next xs adds i x within read) ∙ sym (append_assoc first (each (take i xs) adds) (adds x))

    grown : (key : K) (u : W) (x : T) → Same (held key x.weight) (adds x) → Same (held key u ++ adds x) (held key (weights.sum u x.weight))
    grown key u x e p =
        append_same (held key u) (held key u) (adds x) (held key x.weight) (λ _. refl) (λ q. sym (e q)) p
        ∙ sym (sums key (weights.product v u) (weights.product v x.weight) p)
        ∙ ap (λ z. weight_at kind weights (gives key z) p) (sym (w.distributes v u x.weight))

    pub next_like : (i : ℕ) (x : T) → i < length xs → x ≡ get_or xs i x → (b a : Row P W) (key : K) (u : W) → Same (held key x.weight) (adds x) → Pending kind weights (so_far i) b a (held key u) → Pending kind weights (so_far (i + 1)) b a (held key (weights.sum u x.weight))
    next_like i x within read b a key u e h =
        subst (λ z. Pending kind weights z b a (held key (weights.sum u x.weight))) (sym (next i x within read))
        (held_more (so_far i) (adds x) (held key u) (held key (weights.sum u x.weight)) b a (grown key u x e) h)

    pub next_other : (i : ℕ) (x : T) → i < length xs → x ≡ get_or xs i x → (b a c : Row P W) (key other : K) (u : W) → Same (held other x.weight) (adds x) → Pending kind weights (so_far i) b a (held key u) → Grows kind weights (held key u) a c (Some tt) → Pending kind weights (so_far (i + 1)) b c (held other x.weight)
    next_other i x within read b a c key other u e h grows =
        subst (λ z. Pending kind weights z b c (held other x.weight)) (sym (next i x within read))
        (held_other (so_far i) (adds x) (held key u) (held other x.weight) b a c (λ q. sym (e q)) h grows)

    pub refused_early : (i : ℕ) (b a c : Row P W) (key : K) (u : W) → Pending kind weights (so_far i) b a (held key u) → Grows kind weights (held key u) a c None → Grows kind weights (first ++ each xs adds) b c None
    refused_early i b a c key u h grows =
        subst (λ z. Grows kind weights z b c None)
        (append_assoc first (each (take i xs) adds) (each (drop i xs) adds) ∙ ap (λ z. first ++ z) (sym (each_append (take i xs) (drop i xs) adds) ∙ ap (λ z. each z adds) (take-append-drop i xs)))
        (refused_more (so_far i) (each (drop i xs) adds) b c (held_out (so_far i) (held key u) b a c None h grows))

    pub all_added : (i : ℕ) → length xs ≤ i → (b a c : Row P W) (key : K) (u : W) (answer : Option (Unit {0})) → Pending kind weights (so_far i) b a (held key u) → Grows kind weights (held key u) a c answer → Grows kind weights (first ++ each xs adds) b c answer
    all_added i over b a c key u answer h grows =
        subst (λ z. Grows kind weights (first ++ each z adds) b c answer) (take_all i xs over)
        (held_out (so_far i) (held key u) b a c answer h grows)
