-- What is written tells its value and its end.
use Rattle.std.proofs.Common.{◌≡◌, ℕ, ◌+◌, ◌*◌, ◌^◌, ◌<◌, List, [], ◌∷◌, ◌++◌, length, take, drop, get_or, flat_map, ap, sym, ◌∙◌, refl, arith}
use Rattle.files.specs.declared.limits.TheConstants.{DEMAND_BYTES}
use Rattle.std.proofs.lemmas.List.{append_assoc, take-append-drop, drop-drop}
use Rattle.std.proofs.lemmas.Nat.{from_be_bytes-to_be_bytes_4, from_be_bytes-to_be_bytes_8}
use Rattle.std.specs.Int.{w32, w64, to_be_bytes, from_be_bytes}
use Rattle.std.specs.declared.clone.Clone
use Rattle.files.specs.declared.words.FilePerformance
use Rattle.files.specs.declared.words.FileWeight
use Rattle.files.specs.contracts.words.FilePerformance.TheBound as file_performance
use Rattle.files.specs.contracts.words.FileWeight.TheBound as file_weight
use Rattle.files.specs.Contents.{performance_bytes, state_bytes}
use contract.Running
use denote.RattleType
use seplogic.Ra.Ura
use mir.Syntax
use prog.Model
use prog.Routine
use types.Logic.{Logic}

-- the laws of the words, each as one record
pub record FileKind {P : Type 0} (file_kind : FilePerformance.Ghosts P) : Type 0 where
  pub fit : (v : P) → (file_kind.high v < 2 ^ 32) × (file_kind.low v < 2 ^ 32)
  pub tell : (v w : P) → file_kind.high v ≡ file_kind.high w → file_kind.low v ≡ file_kind.low w → v ≡ w

pub record FileWeighing {W : Type 0} (file_weights : FileWeight.Ghosts W) : Type 0 where
  pub fits : (w : W) → file_weights.word w < 2 ^ 32
  pub tells : (v w : W) → file_weights.word v ≡ file_weights.word w → v ≡ w

module _
    {M : Type 1} {𝓤 : Ura.Ura M} {𝓛 : Logic 𝓤} {𝓜 : Model.Model 𝓤 𝓛.H}
    {𝓡 : Running.Running 𝓤 𝓛.H 𝓜} {γ : Routine.Env} {T : RattleType.RattleType} {dict : Syntax.Dict}
    {copied : Clone.Ghosts T.Denot} {copy : Syntax.Dict} where
  pub file_kind_of : {file_kind : FilePerformance.Ghosts T.Denot} → file_performance.Met 𝓛 𝓜 𝓡 γ T file_kind dict copied copy → FileKind file_kind
  file_kind_of met = record { fit = met.words_fit; tell = met.words_tell }

  pub file_weighing_of : {file_weights : FileWeight.Ghosts T.Denot} → file_weight.Met 𝓛 𝓜 𝓡 γ T file_weights dict copied copy → FileWeighing file_weights
  file_weighing_of met = record { fits = met.word_fits; tells = met.word_tells }

-- what is so written tells its value and where it ends
abbrev pub Once : {V : Type 0} → (V → List ℕ) → Type 0
Once {V} write = (v w : V) (xs ys : List ℕ) → write v ++ xs ≡ write w ++ ys → (v ≡ w) × (xs ≡ ys)

pub head_same : {x y : ℕ} {xs ys : List ℕ} → x ∷ xs ≡ y ∷ ys → x ≡ y
head_same e = ap (λ l. get_or l 0 0) e

pub tail_same : {x y : ℕ} {xs ys : List ℕ} → x ∷ xs ≡ y ∷ ys → xs ≡ ys
tail_same e = ap (drop 1) e

-- words of four and of eight bytes
pub word32_once : (m n : ℕ) (xs ys : List ℕ) → m < 2 ^ 32 → n < 2 ^ 32 → to_be_bytes w32 m ++ xs ≡ to_be_bytes w32 n ++ ys → (m ≡ n) × (xs ≡ ys)
word32_once m n xs ys h k e =
    (sym (from_be_bytes-to_be_bytes_4 m h) ∙ ap (λ l. from_be_bytes w32 (take 4 l)) e ∙ from_be_bytes-to_be_bytes_4 n k, ap (drop 4) e)

pub word64_once : (m n : ℕ) (xs ys : List ℕ) → m < 2 ^ 64 → n < 2 ^ 64 → to_be_bytes w64 m ++ xs ≡ to_be_bytes w64 n ++ ys → (m ≡ n) × (xs ≡ ys)
word64_once m n xs ys h k e =
    (sym (from_be_bytes-to_be_bytes_8 m h) ∙ ap (λ l. from_be_bytes w64 (take 8 l)) e ∙ from_be_bytes-to_be_bytes_8 n k, ap (drop 8) e)

wide : (n : ℕ) → n < 2 ^ 32 → n < 2 ^ 64
wide n h = omega arith

-- a performance is read at a place, where each takes the bytes of a demand: it is written there, and what follows stands at the next place
pub performance_at : {P : Type 0} (file_kind : FilePerformance.Ghosts P) (bytes : List ℕ) (i : ℕ) (p : P) → take DEMAND_BYTES (drop (DEMAND_BYTES * i) bytes) ≡ performance_bytes file_kind p →
    drop (DEMAND_BYTES * i) bytes ≡ performance_bytes file_kind p ++ drop (DEMAND_BYTES * (i + 1)) bytes
performance_at file_kind bytes i p is =
    let next : DEMAND_BYTES * i + DEMAND_BYTES ≡ DEMAND_BYTES * (i + 1) = omega arith in
    let after = drop-drop DEMAND_BYTES (DEMAND_BYTES * i) bytes ∙ ap (λ n. drop n bytes) next in
    sym (take-append-drop DEMAND_BYTES (drop (DEMAND_BYTES * i) bytes)) ∙ (λ j. is j ++ after j)

module _ {P : Type 0} {file_kind : FilePerformance.Ghosts P} (words : FileKind file_kind) where
  pub performance_once : Once (performance_bytes file_kind)
  performance_once v w xs ys e =
      let fv = words.fit v in
      let fw = words.fit w in
      let high = word32_once (file_kind.high v) (file_kind.high w) (to_be_bytes w32 (file_kind.low v) ++ xs) (to_be_bytes w32 (file_kind.low w) ++ ys) fv.0 fw.0 e in
      let low = word32_once (file_kind.low v) (file_kind.low w) xs ys fv.1 fw.1 high.1 in
      (words.tell v w high.0 low.0, low.1)

module _ {P W : Type 0} {file_kind : FilePerformance.Ghosts P} {file_weights : FileWeight.Ghosts W} (words : FileKind file_kind) (weighing : FileWeighing file_weights) where
  pub state_once : Once (state_bytes file_kind file_weights)
  state_once v w xs ys e =
      let first = performance_once words v.performance w.performance (to_be_bytes w64 (file_weights.word v.weight) ++ xs) (to_be_bytes w64 (file_weights.word w.weight) ++ ys) e in
      let second = word64_once (file_weights.word v.weight) (file_weights.word w.weight) xs ys (wide _ (weighing.fits v.weight)) (wide _ (weighing.fits w.weight)) first.1 in
      (λ i. record { performance = first.0 i; weight = weighing.tells v.weight w.weight second.0 i }, second.1)

-- so many of them do, too
module _ {V : Type 0} (write : V → List ℕ) (once : Once write) where
  pub many_once : (vs ws : List V) (xs ys : List ℕ) → length vs ≡ length ws → flat_map write vs ++ xs ≡ flat_map write ws ++ ys → (vs ≡ ws) × (xs ≡ ys)
  many_once [] [] xs ys l e = (refl, e)
  many_once [] (w ∷ ws) xs ys l e = absurd (omega (arith, l))
  many_once (v ∷ vs) [] xs ys l e = absurd (omega (arith, l))
  many_once (v ∷ vs) (w ∷ ws) xs ys l e =
      let moved = sym (append_assoc (write v) (flat_map write vs) xs) ∙ e ∙ append_assoc (write w) (flat_map write ws) ys in
      let first = once v w (flat_map write vs ++ xs) (flat_map write ws ++ ys) moved in
      let others = many_once vs ws xs ys (omega (arith, l)) first.1 in
      (λ i. first.0 i ∷ others.0 i, others.1)
