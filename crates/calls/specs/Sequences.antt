-- A sequence: the name of a kind in the first line, and then its calls.
use Rattle.std.specs.Prelude.{◌≡◌, ◌≢◌, ◌⊎◌, ℕ, ◌<◌, List, ◌++◌, length, slice_index, codes}

-- a text is without a line's end
abbrev pub OneLine : List ℕ → Type 0
OneLine text = (i : ℕ) → i < length text → slice_index text i ≢ 10

-- what holds of the calls after the name of each kind, and of how many they are; a text of one line has none
abbrev pub Sequence : (flow first delay first_or_out grade : List ℕ → ℕ → Type 0) → List ℕ → ℕ → Type 0
Sequence flow first delay first_or_out grade text n =
    (OneLine text × (n ≡ 0))
    ⊎ ((calls : List ℕ) × (((text ≡ codes "flow\n" ++ calls) × flow calls n) ⊎ (((text ≡ codes "first\n" ++ calls) × first calls n)
    ⊎ (((text ≡ codes "delay\n" ++ calls) × delay calls n)
    ⊎ (((text ≡ codes "first-or-out\n" ++ calls) × first_or_out calls n) ⊎ ((text ≡ codes "grade\n" ++ calls) × grade calls n))))))
