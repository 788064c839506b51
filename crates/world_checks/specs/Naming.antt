-- The names of variables that have values.
use Rattle.std.specs.Prelude.{Bool, ◌||◌, is_none}
use Rattle.spec_value.specs.Datum.{Datum, Text}
use Rattle.spec_value.specs.Table.{Named, named}
use Rattle.spec_world.specs.WellFormed.{is_variable}

-- a variable of that name has no value, or the name is one that a program can write
abbrev pub name_fits : Named Datum → Text → Bool
name_fits vars x = is_variable x || is_none (named vars x)
