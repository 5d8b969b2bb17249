-- What a diagram shows to the contracts of its calls.
use Rattle.diagram.specs.declared.table.Table.{Table}
use Rattle.diagram.specs.declared.diagram.Diagram.{Diagram}

abbrev pub records : {P W : Type 0} → Diagram P W → Table
records d = d.table
