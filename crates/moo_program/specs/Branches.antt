-- What stands after the branches of an `if`, as far as their own code tells: something or nothing.
use Rattle.std.specs.Prelude.{Bool, true, false}
use Rattle.spec_program.specs.Tree.{Otherwise, no_else, else_do, the_end}

abbrev pub otherwise_if : Bool → Otherwise
otherwise_if true = else_do the_end
otherwise_if false = no_else
