-- What reading makes of a file: a diagram that these calls have drawn, and the demands.
use Rattle.std.specs.Prelude.{◌≡◌, ℕ, ◌≤◌, List, length, flat_map, Result, Ok, Err, IsOkAnd}
use Rattle.kinds.specs.declared.performance.Performance
use Rattle.kinds.specs.declared.weight.Weight
use Rattle.terms.specs.declared.term.Term.{Term}
use Rattle.diagram.specs.declared.limits.TheConstants.{STORE}
use Rattle.diagram.specs.declared.refusal.Refusal.TheVariants.{ShortStore}
use Rattle.diagram.specs.Refusals.{Asked}
use Rattle.diagram.specs.Runs.{Run}
use Rattle.files.specs.declared.words.FilePerformance
use Rattle.files.specs.declared.words.FileWeight
use Rattle.files.specs.declared.fault.Fault.{Fault}
use Rattle.files.specs.declared.fault.Fault.TheVariants.{Refused}
use Rattle.files.specs.declared.model_file.ModelFile.{ModelFile}
use Rattle.files.specs.declared.limits.TheConstants.{NO_RECORD}
use Rattle.files.specs.Contents.{Contents, performance_bytes}
use Rattle.diagram.specs.Makings.{history_of}
use Rattle.files.specs.Reading.{ContentsRead}

module _ {P W : Type 0} (kind : Performance.Ghosts P) (weights : Weight.Ghosts W) (file_kind : FilePerformance.Ghosts P) (file_weights : FileWeight.Ghosts W) where
  abbrev Terms : Type 0
  Terms = List (Term P W)

  -- m holds these contents: its diagram and the store are what the calls that made the nodes have left
  pub record HoldsContents (lent : ℕ) (c : Contents P W) (s : Terms) (m : ModelFile P W) : Type 0 where
    pub run : Run kind weights (history_of lent c.nodes) m.diagram s
    pub nodes : m.nodes ≡ length c.nodes
    pub demands : m.demands.bytes.now ≡ flat_map (performance_bytes file_kind) c.demands

  abbrev pub HoldsContentsOr : ℕ → Result (Contents P W) Fault → Terms → Result (ModelFile P W) Fault → Type 0
  HoldsContentsOr lent (Ok c) s r = IsOkAnd r (HoldsContents lent c s)
  HoldsContentsOr lent (Err why) s r = r ≡ Err why

  -- a store that is long enough is asked for first; then the file is asked
  abbrev pub ReadInto : List ℕ → Terms → Result (ModelFile P W) Fault → Terms → Type 0
  ReadInto bytes s r s' =
      Asked (STORE ≤ length s) (r ≡ Err (Refused NO_RECORD ShortStore))
      ((answer : Result (Contents P W) Fault) × ContentsRead kind weights file_kind file_weights bytes answer × HoldsContentsOr (length s) answer s' r)
