-- What built-in properties are.
use Rattle.std.specs.Prelude.{Option, Some, None}
use Rattle.spec_value.specs.Datum.{invalid_indirection}
use Rattle.spec_value.specs.Answer.{Answer, gives, raises}
use Rattle.spec_world.specs.World.{Object}
use Rattle.spec_moo.specs.Properties.{BuiltInProperty, built_in_value}

-- of an object that may not be there
abbrev pub built_in_at : Option Object → BuiltInProperty → Answer
built_in_at None b = raises invalid_indirection
built_in_at (Some x) b = gives (built_in_value x b)
