-- Variables that a verb has besides those of its program's slots.
use Rattle.std.specs.Prelude.{List, [], map, Option, Some, None}
use Rattle.std.specs.declared.vec.Vec.{Vec}
use Rattle.std.specs.declared.alloc.Global.{Global}
use Rattle.spec_value.specs.Datum.{Datum, Text}
use Rattle.moo_task.specs.declared.variables.Variable.{Variable}

abbrev pub variable_of : Variable → Text × Datum
variable_of v = (v.name, v.value)

abbrev pub shared_variables : Option (Vec Variable Global) → List (Text × Datum)
shared_variables None = []
shared_variables (Some vs) = map variable_of vs.items
