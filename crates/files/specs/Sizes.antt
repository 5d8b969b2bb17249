-- Cited by private functions only: the bytes that an analysis takes.
use Rattle.std.specs.Prelude.{◌*◌, ◌^◌, ◌<◌}
use prog.Memory.{size}
use denote.RattleType.{RattleType}
use denote.Param.{layout}
use Rattle.terms.specs.contracts.term.Term.{the_row}
use Rattle.diagram.specs.declared.limits.TheConstants.{STORE}

-- an array of so many terms as a store has takes fewer than 2 ^ 63 bytes
abbrev pub StoreFits : RattleType → RattleType → Type 0
StoreFits P W = STORE * size (layout (the_row P W)) < 2 ^ 63
