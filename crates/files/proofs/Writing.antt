-- The writing of a node, and that of the demands, tells what is written and its end, and passes the questions that it is asked.
use Rattle.std.proofs.Common.{◌≡◌, ℕ, ◌*◌, ◌≤◌, List, [], ◌∷◌, ◌++◌, length, take, drop, flat_map, take_at, drop_at, length-append, mul-suc, ap, sym, ◌∙◌, refl, inl, inr, arith}
use Rattle.files.specs.declared.limits.TheConstants.{DEMANDS, STATE_BYTES, DEMAND_BYTES}
use Rattle.terms.specs.declared.term.Way.TheVariants.{Series, Parallel}
use Rattle.diagram.specs.Histories.{Making, added, joined_from, bridged_from}
use Rattle.files.specs.declared.words.FilePerformance
use Rattle.files.specs.declared.words.FileWeight
use Rattle.files.specs.Contents.{performance_bytes, demand_bytes, state_bytes, node_bytes}
use Rattle.files.specs.Reading.{NodeLetter, Headed, Whole}
use Rattle.files.proofs.Bytes.{FileKind, FileWeighing, Once, head_same, tail_same, performance_once, state_once, many_once}

-- beginnings of one length
beginning_once : (us vs xs ys : List ℕ) → length us ≡ length vs → us ++ xs ≡ vs ++ ys → (us ≡ vs) × (xs ≡ ys)
beginning_once us vs xs ys l e = (
  sym (take_at us xs (length vs) l) ∙ ap (take (length vs)) e ∙ take_at vs ys (length vs) refl,
  sym (drop_at us xs (length vs) l) ∙ ap (drop (length vs)) e ∙ drop_at vs ys (length vs) refl,
)

-- values of one length each
pub length_many : {V : Type 0} (write : V → List ℕ) (k : ℕ) → ((v : V) → length (write v) ≡ k) → (vs : List V) → length (flat_map write vs) ≡ k * length vs
length_many write k each [] = omega arith
length_many write k each (v ∷ vs) = omega (arith, length-append (write v) (flat_map write vs), each v, length_many write k each vs, mul-suc k (length vs))

module _ {P : Type 0} (file_kind : FilePerformance.Ghosts P) where
  pub demand_once : FileKind file_kind → Once (demand_bytes file_kind)
  demand_once words ds es xs ys e =
      many_once (performance_bytes file_kind) (performance_once words) ds es xs ys (head_same (tail_same e)) (tail_same (tail_same e))

  pub demands_whole : (ds : List P) (rest : List ℕ) → (1 ≤ length ds) × (length ds ≤ DEMANDS) → Whole (demand_bytes file_kind ds ++ rest)
  demands_whole ds rest few = (
    λ other. absurd (omega arith),
    λ same. few,
    omega (arith, length-append (flat_map (performance_bytes file_kind) ds) rest, length_many (performance_bytes file_kind) DEMAND_BYTES (λ p. refl) ds),
  )

module _ {P W : Type 0} (file_kind : FilePerformance.Ghosts P) (file_weights : FileWeight.Ghosts W) where
  pub node_once : FileKind file_kind → FileWeighing file_weights → Once (node_bytes file_kind file_weights)
  node_once words weighing (added ss) (added ts) xs ys e =
      let both = many_once (state_bytes file_kind file_weights) (state_once words weighing) ss ts xs ys (head_same (tail_same e)) (tail_same (tail_same e)) in
      (ap added both.0, both.1)
  node_once words weighing (joined_from Series cs) (joined_from Series ds) xs ys e =
      let both = beginning_once cs ds xs ys (head_same (tail_same e)) (tail_same (tail_same e)) in
      (ap (joined_from Series) both.0, both.1)
  node_once words weighing (joined_from Parallel cs) (joined_from Parallel ds) xs ys e =
      let both = beginning_once cs ds xs ys (head_same (tail_same e)) (tail_same (tail_same e)) in
      (ap (joined_from Parallel) both.0, both.1)
  node_once words weighing (bridged_from a b c d f) (bridged_from a' b' c' d' f') xs ys e = (cc, cc)
  -- different letters; a way stands in two of these clauses so that it is told apart there
  node_once words weighing (added ss) (joined_from Series ds) xs ys e = absurd (omega (arith, head_same e))
  node_once words weighing (bridged_from a b c d f) (joined_from Series ds) xs ys e = absurd (omega (arith, head_same e))
  node_once words weighing m n xs ys e = absurd (omega (arith, head_same e))

  -- its letter is right, its count may be, and its body is all there
  pub node_headed : (m : Making P W) (rest : List ℕ) → Headed NodeLetter (node_bytes file_kind file_weights m ++ rest)
  node_headed (added states) rest = inl refl
  node_headed (joined_from Series children) rest = inr (inl refl)
  node_headed (joined_from Parallel children) rest = inr (inr (inl refl))
  node_headed (bridged_from a b c d e) rest = inr (inr (inr refl))

  pub node_whole : (m : Making P W) (rest : List ℕ) → Whole (node_bytes file_kind file_weights m ++ rest)
  node_whole (added states) rest = (
    λ other. absurd (omega arith),
    λ other. absurd (omega arith),
    omega (arith, length-append (flat_map (state_bytes file_kind file_weights) states) rest, length_many (state_bytes file_kind file_weights) STATE_BYTES (λ t. refl) states),
  )
  node_whole (joined_from Series children) rest =
      (λ other. absurd (omega arith), λ other. absurd (omega arith), omega (arith, length-append children rest))
  node_whole (joined_from Parallel children) rest =
      (λ other. absurd (omega arith), λ other. absurd (omega arith), omega (arith, length-append children rest))
  node_whole (bridged_from a b c d e) rest = (λ same. refl, λ other. absurd (omega arith), omega arith)
