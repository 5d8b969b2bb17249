-- Numbers in a text, apart by white space.
use Rattle.std.specs.Prelude.{◌≡◌, ℕ, ◌^◌, ◌<◌, List, [], ◌∷◌, ◌++◌, length}
use Rattle.std.specs.Char.{is_whitespace, is_not_whitespace}
use Rattle.std.specs.Str.{NoCharPasses, EmptyOrStartsWithPassing}
use Rattle.std.specs.Str.Parse.{IsNumeral, digits_value, without_leading_plus}

-- the first word of a text, and what follows it
abbrev pub FirstWord : List ℕ → List ℕ → List ℕ → Type 0
FirstWord text word rest =
    (gap : List ℕ) × (text ≡ gap ++ (word ++ rest)) × (0 < length word) × NoCharPasses is_not_whitespace gap × NoCharPasses is_whitespace word
    × ((more : List ℕ) × EmptyOrStartsWithPassing is_whitespace rest more)

-- its digits, after a plus that may stand first, write this number of 32 bits
abbrev pub WritesNumber : List ℕ → ℕ → Type 0
WritesNumber word n = let digits = without_leading_plus word in IsNumeral 10 digits × (n ≡ digits_value 10 digits) × (n < 2 ^ 32)

-- the words of a text write these numbers
abbrev pub WritesNumbers : List ℕ → List ℕ → Type 0
WritesNumbers text [] = NoCharPasses is_not_whitespace text
WritesNumbers text (n ∷ ns) = (word : List ℕ) × (rest : List ℕ) × FirstWord text word rest × WritesNumber word n × WritesNumbers rest ns
