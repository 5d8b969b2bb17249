-- The states that were found are written by the numbers that were passed.
use Rattle.std.proofs.Common.{◌≡◌, ◌++◌, flat_map}
use Rattle.std.specs.Slice.Iter.{chunks_rest, chunks_size}
use Rattle.calls.specs.Played.{state_numbers}
use Rattle.calls.proofs.numbers.states.Given as goal

abbrev pub invariant-loop-state : goal.invariant-loop-state
invariant-loop-state g l = (flat_map (state_numbers g.P.Written) l.found.items ++ chunks_rest l.state-iterator ≡ l.numbers) × (chunks_size l.state-iterator ≡ 3)
