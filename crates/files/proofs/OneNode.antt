-- A record that is read as the making of a node.
use Rattle.std.proofs.Common.{◌≡◌, ℕ, ◌*◌, ◌≤◌, List, ◌∷◌, ◌++◌, length, get_or, drop, flat_map, IsOkAnd, Bor, Result, ap, sym, inl, inr, refl, subst, arith}
use Rattle.diagram.specs.declared.limits.TheConstants.{ARMS}
use Rattle.files.specs.declared.limits.TheConstants.{STATE_BYTES}
use Rattle.std.proofs.lemmas.List.{length-append}
use Rattle.terms.specs.declared.term.Term.{Term}
use Rattle.terms.specs.declared.term.Way.{Way}
use Rattle.terms.specs.declared.term.Way.TheVariants.{Series, Parallel}
use Rattle.diagram.specs.declared.making.Making.{Making as Given}
use Rattle.diagram.specs.Histories.{Making, added, joined_from, bridged_from}
use Rattle.diagram.proofs.Asking.{yes}
use Rattle.files.specs.declared.words.FilePerformance
use Rattle.files.specs.declared.words.FileWeight
use Rattle.files.specs.declared.fault.Fault.{Fault}
use Rattle.files.specs.Contents.{part_letter, bridge_letter, way_letter, state_bytes, node_bytes}
use Rattle.diagram.specs.Makings.{meaning}
use Rattle.files.specs.Reading.{NodeLetter, Headed, Whole}
use Rattle.files.specs.Analysing.{MakingRead}

joining_letter : (way : Way) → NodeLetter (way_letter way)
joining_letter Series = inr (inl refl)
joining_letter Parallel = inr (inr (inl refl))

joining_whole : (way : Way) (count : ℕ) (body : List ℕ) → count ≤ length body → Whole (way_letter way ∷ count ∷ body)
joining_whole Series count body h = (λ e. absurd (omega (arith, e)), λ e. absurd (omega (arith, e)), h)
joining_whole Parallel count body h = (λ e. absurd (omega (arith, e)), λ e. absurd (omega (arith, e)), h)

-- the five bytes that name the arms
pub five_first : (body : List ℕ) → 5 ≤ length body → body ≡ get_or body 0 0 ∷ get_or body 1 0 ∷ get_or body 2 0 ∷ get_or body 3 0 ∷ get_or body 4 0 ∷ drop 5 body
five_first (a ∷ b ∷ c ∷ d ∷ e ∷ rest) h = refl
five_first _ h = absurd (omega (arith, h))

module _ {P W : Type 0} (file_kind : FilePerformance.Ghosts P) (file_weights : FileWeight.Ghosts W) (r : Result (Given P W × Bor (List ℕ)) Fault) (k : ℕ) where
  abbrev pub Handed : Making P W → List ℕ → Type 0
  Handed m rest = IsOkAnd r (λ x. (meaning x.0 ≡ m) × (x.1.now ≡ rest))

  -- the file's questions are answered yes
  read_as : {bytes : List ℕ} (m : Making P W) (rest : List ℕ) → Headed NodeLetter bytes → Whole bytes → bytes ≡ node_bytes file_kind file_weights m ++ rest →
      Handed m rest → MakingRead file_kind file_weights k bytes r
  read_as m rest headed whole e handed = yes headed (yes whole (yes (m, rest, e) (m, rest, e, handed)))

  -- so it is at each letter, if the body writes what is handed on

  pub part_read : (states : List (Term P W)) (count : ℕ) (body rest : List ℕ) → length states ≡ count → STATE_BYTES * count ≤ length body →
      body ≡ flat_map (state_bytes file_kind file_weights) states ++ rest → Handed (added states) rest → MakingRead file_kind file_weights k (part_letter ∷ count ∷ body) r
  part_read states count body rest many long text handed =
      read_as (added states) rest (inl refl) (λ e. absurd (omega (arith, e)), λ e. absurd (omega (arith, e)), long) (λ i. part_letter ∷ sym many i ∷ text i) handed

  pub joined_read : (way : Way) (named : List ℕ) (count : ℕ) (body rest : List ℕ) → length named ≡ count → body ≡ named ++ rest →
      Handed (joined_from way named) rest → MakingRead file_kind file_weights k (way_letter way ∷ count ∷ body) r
  joined_read way named count body rest many text handed =
      read_as (joined_from way named) rest (joining_letter way) (joining_whole way count body (omega (arith, many, ap length text, length-append named rest)))
      (λ i. way_letter way ∷ sym many i ∷ text i) handed

  pub bridge_read : (a b c d e count : ℕ) (bytes body rest : List ℕ) → bytes ≡ bridge_letter ∷ count ∷ body → count ≡ ARMS → body ≡ a ∷ b ∷ c ∷ d ∷ e ∷ rest →
      Handed (bridged_from a b c d e) rest → MakingRead file_kind file_weights k bytes r
  bridge_read a b c d e count bytes body rest is five text handed =
      subst (λ z. MakingRead file_kind file_weights k z r) (sym is) (read_as (bridged_from a b c d e) rest (inr (inr (inr refl))) (λ _. five, λ e. absurd (omega (arith, e)), omega (arith, five, ap length text)) (λ i. bridge_letter ∷ five i ∷ text i) handed)
