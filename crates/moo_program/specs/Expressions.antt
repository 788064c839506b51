-- How a part stands in its construct, by its own construct, how its value is received, and what catches.
use Rattle.std.specs.Prelude.{Option}
use Rattle.spec_program.specs.Construct.{Construct}
use Rattle.moo_code.specs.Layout.{Link, Reception, Caught, opens}

abbrev pub link_to : Construct → Reception → Option Caught → Link
link_to d r c = record { opens = opens d; reception = r; caught = c }
