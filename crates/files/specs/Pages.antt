-- Cited by private functions only: text written on a page.
use Rattle.std.specs.Prelude.{◌≡◌, ℕ, ◌+◌, ◌<◌, ◌≤◌, List, ◌++◌, length, take, drop, Option, Some, None}
use Rattle.files.specs.declared.page.Page.{Page}

-- the bytes that a page holds
abbrev pub written : Page → List ℕ
written p = take p.len p.bytes

-- q is the page p with more bytes after it
pub record Wrote (p : Page) (more : List ℕ) (q : Page) : Type 0 where
  pub text : written q ≡ written p ++ more
  pub len : q.len ≡ p.len + length more

-- the text comes first in the output and leaves the rest, or there is no room and the output stays
abbrev pub Copied : List ℕ → List ℕ → Option ℕ → List ℕ → Type 0
Copied text out (Some n) out' = (n ≡ length text) × (length text ≤ length out) × (out' ≡ text ++ drop (length text) out)
Copied text out None out' = (length out < length text) × (out' ≡ out)
