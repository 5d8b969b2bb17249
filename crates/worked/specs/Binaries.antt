-- Up or down: a series runs if all of it does, parallel ways if one does.
use Rattle.std.specs.Prelude.{Bool, true, false}
use Rattle.std.specs.declared.cmp.Ordering.TheVariants.{Less, Equal, Greater}
use Rattle.std.specs.declared.cmp.Ordering.{Ordering}
use Rattle.kinds.specs.Paths.{by_paths}
use Rattle.worked.specs.declared.service.Service.{Service}
use Rattle.worked.specs.declared.service.Service.TheVariants.{Down, Up}

abbrev pub binary_compared : Service → Service → Ordering
binary_compared Down Down = Equal
binary_compared Down Up = Less
binary_compared Up Down = Greater
binary_compared Up Up = Equal

abbrev pub both : Service → Service → Service
both Down b = Down
both Up b = b

abbrev pub either : Service → Service → Service
either Down b = b
either Up b = Up

-- some path of a-d, b-e, a-c-e and b-c-d runs
abbrev pub binary_bridge : Service → Service → Service → Service → Service → Service
binary_bridge = by_paths both either

-- what is up meets every demand, what is down only the demand down
abbrev pub binary_meets : Service → Service → Bool
binary_meets Down Down = true
binary_meets Down Up = false
binary_meets Up w = true
