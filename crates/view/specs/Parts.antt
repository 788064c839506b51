-- The parts of a verb's argument specifier, by the names of the definitions.
use Rattle.spec_world.specs.World as meant
use Rattle.spec_world.specs.World.{no_object, any_object, this_object, no_preposition, any_preposition, preposition_set}
use Rattle.view.specs.declared.verb.ObjectPart.{ObjectPart}
use Rattle.view.specs.declared.verb.ObjectPart.TheVariants.{Absent, Any, This}
use Rattle.view.specs.declared.verb.PrepositionPart.{PrepositionPart}
use Rattle.view.specs.declared.verb.PrepositionPart.TheVariants.{Absent as Without, Any as AnyPreposition, Set}

abbrev pub object_part_of : ObjectPart → meant.ObjectPart
object_part_of Absent = no_object
object_part_of Any = any_object
object_part_of This = this_object

abbrev pub preposition_part_of : PrepositionPart → meant.PrepositionPart
preposition_part_of Without = no_preposition
preposition_part_of AnyPreposition = any_preposition
preposition_part_of (Set n) = preposition_set n
