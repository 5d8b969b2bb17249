-- What a term prints, of what its performance and its weight print.
use Rattle.std.specs.Prelude.{ℕ, List, Option, Some, codes}
use Rattle.std.specs.Fmt.{◌++?◌}

abbrev pub term_output : Option (List ℕ) → Option (List ℕ) → Option (List ℕ)
term_output performance weight = performance ++? Some (codes ":") ++? weight
