use Rattle.std.proofs.Common.{refl}
use Rattle.kinds.specs.Words.{top_word}
use Rattle.kinds.proofs.Absent.{all_absent}
use Rattle.kinds.proofs.fault_set.FaultSetPerformance.absent.Goals as goal

pub returns : goal.returns
returns c = rw (c.new.ensures.only top_word refl) all_absent
