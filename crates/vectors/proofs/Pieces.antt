-- What is written of a piece tells the piece and what follows it.
use Rattle.std.proofs.Common.{◌≡◌, ℕ, ◌^◌, ◌<◌, List, ◌++◌, length, take, drop, sym, ◌∙◌, append_assoc}
use Rattle.std.proofs.Math.Seq.{take-append_seam, drop-append_seam}
use Rattle.std.specs.Int.{w32, to_be_bytes}
use Rattle.files.proofs.Bytes.{word32_once}
use Rattle.vectors.specs.Entries.{Piece}

-- a piece that comes first in what is written so is as long as the number says
pub first_length : (bytes : List ℕ) (n : ℕ) (rest : List ℕ) → bytes ≡ to_be_bytes w32 n ++ rest → n < 2 ^ 32 → (p r : List ℕ) → Piece bytes p r → (n ≡ length p) × (rest ≡ p ++ r)
first_length bytes n rest is h p r x = word32_once n (length p) rest (p ++ r) h x.0 (sym is ∙ x.1 ∙ append_assoc (to_be_bytes w32 (length p)) p r)

-- only one piece comes first, and only one list follows it
pub one_piece : (bytes p r q s : List ℕ) → Piece bytes p r → Piece bytes q s → (p ≡ q) × (r ≡ s)
one_piece bytes p r q s x y =
    let so = first_length bytes (length p) (p ++ r) (x.1 ∙ append_assoc (to_be_bytes w32 (length p)) p r) x.0 q s y in
    (sym (take-append_seam p r) ∙ (λ i. take (so.0 i) (so.1 i)) ∙ take-append_seam q s, sym (drop-append_seam p r) ∙ (λ i. drop (so.0 i) (so.1 i)) ∙ drop-append_seam q s)
