-- A performance that is followed by no weight is no state.
use Rattle.std.proofs.Common.{◌≡◌, ℕ, ◌^◌, ◌<◌, List, ◌++◌, rules, arith, sym, ◌∙◌}
use Rattle.std.specs.Int.{w64, to_be_bytes}
use Rattle.files.specs.declared.words.FilePerformance
use Rattle.files.specs.declared.words.FileWeight
use Rattle.files.specs.Contents.{Ahead, performance_bytes, state_bytes}
use Rattle.files.proofs.Bytes.{FileKind, FileWeighing, file_kind_of, file_weighing_of, performance_once, word64_once}
use Rattle.files.proofs.front.state.Goals as goal

module _ {P W : Type 0} {file_kind : FilePerformance.Ghosts P} {file_weights : FileWeight.Ghosts W} (words : FileKind file_kind) (weighing : FileWeighing file_weights) where
  no_state : (bytes rest after : List ℕ) (p : P) (n : ℕ) → bytes ≡ performance_bytes file_kind p ++ rest → rest ≡ to_be_bytes w64 n ++ after → n < 2 ^ 64 →
      ((w : W) → ¬ (file_weights.word w ≡ n)) → ¬ Ahead (state_bytes file_kind file_weights) bytes
  no_state bytes rest after p n first second fits none (t, others, e) =
      let one = performance_once words p t.performance rest (to_be_bytes w64 (file_weights.word t.weight) ++ others) (sym first ∙ e) in
      none t.weight (sym (word64_once n (file_weights.word t.weight) after others fits (omega (arith, weighing.fits t.weight)) (sym second ∙ one.1)).0)

pub returns-in_err-weight-clause-none : goal.returns-in_err-weight-clause-none
returns-in_err-weight-clause-none g c =
    rw c.from_residual-in_err-weight.ensures
    (no_state (file_kind_of g.met.P.FilePerformance) (file_weighing_of g.met.W.FileWeight) _ _ _ _ _ c.in_ok-performance.ensures.some c.in_ok-word.ensures.some (search rules) c.in_err-weight.ensures)
