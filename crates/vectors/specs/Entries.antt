-- How pieces of bytes, and entries of two pieces, are written one after the other.
use Rattle.std.specs.Prelude.{◌≡◌, ℕ, ◌^◌, ◌<◌, List, length, ◌++◌}
use Rattle.std.specs.Int.{w32, to_be_bytes}

-- its length in four bytes, the highest first, and then the piece
abbrev pub with_length : List ℕ → List ℕ
with_length piece = to_be_bytes w32 (length piece) ++ piece

-- this piece comes first, with a length that four bytes can tell, and this follows it
abbrev pub Piece : List ℕ → List ℕ → List ℕ → Type 0
Piece bytes piece rest = (length piece < 2 ^ 32) × (bytes ≡ with_length piece ++ rest)

-- a model file comes first, then what is to be printed of it, and this follows them
abbrev pub EntryOf : List ℕ → List ℕ → List ℕ → List ℕ → Type 0
EntryOf bytes model printed rest = (between : List ℕ) × Piece bytes model between × Piece between printed rest
