-- What a model file holds, and the bytes that write it.
use Rattle.std.specs.Prelude.{◌≡◌, ℕ, ◌+◌, ◌*◌, List, [], ◌∷◌, ◌++◌, length, take, drop, flat_map}
use Rattle.std.specs.Int.{w32, w64, to_be_bytes}
use Rattle.terms.specs.declared.term.Term.{Term}
use Rattle.terms.specs.declared.term.Way.{Way}
use Rattle.terms.specs.declared.term.Way.TheVariants.{Series, Parallel}
use Rattle.diagram.specs.declared.limits.TheConstants.{ARMS}
use Rattle.diagram.specs.Histories.{Making, added, joined_from, bridged_from}
use Rattle.files.specs.declared.words.FilePerformance
use Rattle.files.specs.declared.words.FileWeight
use Rattle.files.specs.declared.limits.TheConstants.{DEMAND_BYTES}

-- how each node is made, the newest first, as in a history; and the demands, in the order of the file
pub record Contents (P W : Type 0) : Type 0 where
  pub nodes : List (Making P W)
  pub demands : List P

-- the letters P, S, L, B and Q
abbrev pub part_letter : ℕ
part_letter = 80

abbrev pub series_letter : ℕ
series_letter = 83

abbrev pub parallel_letter : ℕ
parallel_letter = 76

abbrev pub way_letter : Way → ℕ
way_letter Series = series_letter
way_letter Parallel = parallel_letter

abbrev pub bridge_letter : ℕ
bridge_letter = 66

abbrev pub demand_letter : ℕ
demand_letter = 81

-- some value is written at the front of the bytes
abbrev pub Ahead : {V : Type 0} → (V → List ℕ) → List ℕ → Type 0
Ahead {V} write bytes = (v : V) × (rest : List ℕ) × (bytes ≡ write v ++ rest)

module _ {P : Type 0} (file_kind : FilePerformance.Ghosts P) where
  -- two words of four bytes, the highest byte first
  abbrev pub performance_bytes : P → List ℕ
  performance_bytes p = to_be_bytes w32 (file_kind.high p) ++ to_be_bytes w32 (file_kind.low p)

  -- so demand i stands in bytes that write demands, or there is none
  abbrev pub DemandAt : List ℕ → ℕ → P → Type 0
  DemandAt bytes i p = take DEMAND_BYTES (drop (DEMAND_BYTES * i) bytes) ≡ performance_bytes p

  abbrev pub NoDemandAt : List ℕ → ℕ → Type 0
  NoDemandAt bytes i = ¬ Ahead performance_bytes (drop (DEMAND_BYTES * i) bytes)

  abbrev pub demand_bytes : List P → List ℕ
  demand_bytes demands = demand_letter ∷ length demands ∷ flat_map performance_bytes demands

module _ {P W : Type 0} (file_kind : FilePerformance.Ghosts P) (file_weights : FileWeight.Ghosts W) where
  -- a performance, and a weight of eight bytes
  abbrev pub state_bytes : Term P W → List ℕ
  state_bytes t = performance_bytes file_kind t.performance ++ to_be_bytes w64 (file_weights.word t.weight)

  -- a letter, a count and a body
  abbrev pub node_bytes : Making P W → List ℕ
  node_bytes (added states) = part_letter ∷ length states ∷ flat_map state_bytes states
  node_bytes (joined_from way children) = way_letter way ∷ length children ∷ children
  node_bytes (bridged_from a b c d e) = bridge_letter ∷ ARMS ∷ a ∷ b ∷ c ∷ d ∷ e ∷ []

  -- record k writes node k
  abbrev pub nodes_bytes : List (Making P W) → List ℕ
  nodes_bytes [] = []
  nodes_bytes (m ∷ ms) = nodes_bytes ms ++ node_bytes m

  -- the number of records, the nodes, and the demands as the last record; the byte of the model stands before it
  abbrev pub contents_bytes : Contents P W → List ℕ
  contents_bytes c = (length c.nodes + 1) ∷ nodes_bytes c.nodes ++ demand_bytes file_kind c.demands
