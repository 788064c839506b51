-- What is read of an object that may not be there.
use Rattle.std.specs.Prelude.{ℤ, Option, Some, None}
use Rattle.spec_value.specs.Datum.{Text, ErrorCode, invalid_indirection, property_not_found}
use Rattle.spec_value.specs.Answer.{Answer, raises}
use Rattle.spec_world.specs.World.{World, Object}
use Rattle.spec_world.specs.Inherit.{slot_at}
use Rattle.spec_moo.specs.Properties.{read_slot}

-- why an object has no slot of a name
abbrev pub missing_error : Option Object → ErrorCode
missing_error None = invalid_indirection
missing_error (Some x) = property_not_found

-- a property that is no built-in one
abbrev pub read_named : World → ℤ → ℤ → Text → Option Object → Answer
read_named w who o p None = raises invalid_indirection
read_named w who o p (Some x) = read_slot w who o p (slot_at w o p)
