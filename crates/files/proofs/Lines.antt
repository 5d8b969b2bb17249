-- The lines of a report, one after the other: which values are read for them, and what is then on the page.
use Rattle.std.proofs.Common.{◌≡◌, ℕ, ◌+◌, ◌<◌, ◌≤◌, List, [], ◌∷◌, ◌++◌, length, get_or, take, drop, flat_map, add-one, length-drop, sym, ◌∙◌, ap, refl, inl, inr, arith}
use Rattle.std.proofs.lemmas.List.{flat_map_more, take_more, take_all, drop_all}
use Rattle.std.proofs.lemmas.Bool.{cases_lt}
use Rattle.std.proofs.Math.Seq.{drop-cons}
use Rattle.files.specs.declared.page.Page.{Page}
use Rattle.files.specs.declared.words.FilePerformance
use Rattle.files.specs.Contents.{Ahead, performance_bytes}
use Rattle.files.specs.Pages.{Wrote}
use Rattle.files.proofs.Pages.{nothing, ◌and_then◌, same}
use Rattle.files.proofs.Bytes.{FileKind, performance_once}

-- the lines of the first i elements are written after what page p holds
pub record Lines {X : Type 0} (line : X → List ℕ) (xs : List X) (i : ℕ) (p q : Page) : Type 0 where
  pub wrote : Wrote p (flat_map line (take i xs)) q

pub no_line : {X : Type 0} {line : X → List ℕ} {xs : List X} {p : Page} → Lines line xs 0 p p
no_line {p = p} = record { wrote = nothing p }

module _ {X : Type 0} {line : X → List ℕ} {xs : List X} {i : ℕ} {p q : Page} where
  pub one_more : {r : Page} (x : X) → i < length xs → get_or xs i x ≡ x → Lines line xs i p q → Wrote q (line x) r → Lines line xs (i + 1) p r
  one_more x l is before now =
      let longer : take i xs ++ x ∷ [] ≡ take (i + 1) xs = ap (λ y. take i xs ++ y ∷ []) (sym is) ∙ sym (take_more xs i x l) in
      record { wrote = same (flat_map_more line [] (take i xs) x ∙ ap (flat_map line) longer) (before.wrote and_then now) }

  pub all_lines : length xs ≤ i → Lines line xs i p q → Wrote p (flat_map line xs) q
  all_lines past x = same (ap (flat_map line) (take_all i xs past)) x.wrote

module _ {P : Type 0} {file_kind : FilePerformance.Ghosts P} (words : FileKind file_kind) (ds : List P) (i : ℕ) (rest : List ℕ) (from : rest ≡ flat_map (performance_bytes file_kind) (drop i ds)) where
  -- what is read is the next of the performances
  pub next_one : (d : P) (after : List ℕ) → rest ≡ performance_bytes file_kind d ++ after → (i < length ds) × (get_or ds i d ≡ d) × (after ≡ flat_map (performance_bytes file_kind) (drop (i + 1) ds))
  next_one d after is = elim (cases_lt i (length ds)) [
    | inl l ↦
        let same = performance_once words d (get_or ds i d) after _ (sym is ∙ from ∙ ap (flat_map (performance_bytes file_kind)) (drop-cons ds i d l)) in
        (l, sym same.0, rw add-one same.1)
    | inr past ↦ let e = sym is ∙ from ∙ ap (flat_map (performance_bytes file_kind)) (drop_all i ds past) in absurd (cc)
  ]

  -- where none is ahead, all are read
  pub none_left : ¬ Ahead (performance_bytes file_kind) rest → length ds ≤ i
  none_left none = at (drop i ds) refl
    where
      at : (left : List P) → drop i ds ≡ left → length ds ≤ i
      at [] e = omega (arith, ap length e, length-drop i ds)
      at (d ∷ left) e = absurd (none (d, flat_map (performance_bytes file_kind) left, from ∙ ap (flat_map (performance_bytes file_kind)) e))
