-- A construct under way.
use Rattle.moo_program.specs.Assembling as assembling
use Rattle.moo_program.specs.declared.open.Open.{Open}

abbrev pub open_of : Open → assembling.Open
open_of o = record { first = o.first; end = o.end; starts = o.starts.items }
