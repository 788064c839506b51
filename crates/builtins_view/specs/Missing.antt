-- Why an object has no slot of a name, for a built-in function.
use Rattle.std.specs.Prelude.{Option, Some, None}
use Rattle.spec_value.specs.Datum.{ErrorCode, invalid_argument, property_not_found}
use Rattle.spec_world.specs.World.{Object}

abbrev pub missing_error : Option Object → ErrorCode
missing_error None = invalid_argument
missing_error (Some x) = property_not_found
