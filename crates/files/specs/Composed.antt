-- The kinds that are made of kinds, as a model names them.
use Rattle.std.specs.Prelude.{◌||◌}
use Rattle.kinds.specs.declared.performance.Performance
use Rattle.kinds.specs.declared.values.Pair.{Pair}
use Rattle.kinds.specs.declared.values.OrOut.{OrOut}
use Rattle.kinds.specs.Pairs.{pair_compared, pair_joined, pair_bridge, pair_meets}
use Rattle.kinds.specs.Outs.{out_compared, out_series, out_parallel, out_bridge, out_meets}

-- two kinds side by side
abbrev pub pair : {A B : Type 0} → Performance.Ghosts A → Performance.Ghosts B → Performance.Ghosts (Pair A B)
pair a b = record {
  SERIES_ORDER_COUNTS = a.SERIES_ORDER_COUNTS || b.SERIES_ORDER_COUNTS;
  PARALLEL_ORDER_COUNTS = a.PARALLEL_ORDER_COUNTS || b.PARALLEL_ORDER_COUNTS;
  compared = pair_compared a.compared b.compared;
  series = pair_joined a.series b.series;
  parallel = pair_joined a.parallel b.parallel;
  bridge = pair_bridge a.bridge b.bridge;
  meets = pair_meets a.meets b.meets;
}

-- a kind, or out
abbrev pub or_out : {K : Type 0} → Performance.Ghosts K → Performance.Ghosts (OrOut K)
or_out k = record {
  SERIES_ORDER_COUNTS = k.SERIES_ORDER_COUNTS;
  PARALLEL_ORDER_COUNTS = k.PARALLEL_ORDER_COUNTS;
  compared = out_compared k.compared;
  series = out_series k.series;
  parallel = out_parallel k.parallel;
  bridge = out_bridge k.series k.parallel k.bridge;
  meets = out_meets k.meets;
}
