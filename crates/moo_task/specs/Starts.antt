-- What a command line gave, as it is shared.
use Rattle.std.specs.Prelude.{negsuc}
use Rattle.spec_world.specs.World.{Start}
use Rattle.moo_task.specs.declared.start.Held.{Held}
use Rattle.moo_task.specs.declared.start.Held.TheVariants.{Unnamed, Named}
use Rattle.std.specs.Arc.{arc_value}

abbrev pub start_of : Held → Start
start_of (Unnamed t) = record { argstr = t; dobj = negsuc 0; dobjstr = t; prepstr = t; iobj = negsuc 0; iobjstr = t }
start_of (Named s) = arc_value s
