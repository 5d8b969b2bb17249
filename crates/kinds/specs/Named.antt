-- The types of the named kinds and weights.
use Rattle.kinds.specs.declared.word.Word.{Word}
use Rattle.kinds.specs.declared.values.Rate.{Rate}
use Rattle.kinds.specs.declared.values.Time.{Time}
use Rattle.kinds.specs.declared.values.Classes.{Classes}
use Rattle.kinds.specs.declared.values.FaultNumber.{FaultNumber}
use Rattle.kinds.specs.declared.values.Count.{Count}
use Rattle.kinds.specs.declared.values.Members.{Members}
use Rattle.kinds.specs.declared.values.Cost.{Cost}

abbrev pub Flow : Type 0
Flow = Word Rate

abbrev pub Delay : Type 0
Delay = Word Time

abbrev pub FaultSet : Type 0
FaultSet = Word Classes

abbrev pub FirstFault : Type 0
FirstFault = Word FaultNumber

abbrev pub Parts : Type 0
Parts = Word Count

abbrev pub Scenarios : Type 0
Scenarios = Word Members

abbrev pub Effort : Type 0
Effort = Word Cost
