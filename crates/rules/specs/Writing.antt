-- What is written to an object that may not be there, and what an answer says of it.
use Rattle.std.specs.Prelude.{◌≡◌, ℤ, Bool, true, false, ◌&&◌, not, Result, Ok, Err, Option, Some, None}
use Rattle.std.specs.Ordering.{int_eq}
use Rattle.spec_value.specs.Answer.{gives}
use Rattle.spec_value.specs.Datum.{Datum, Text, ErrorCode, integer, object, text, invalid_indirection, permission_denied}
use Rattle.spec_value.specs.Operators.{BinaryOperator, binary_value}
use Rattle.spec_world.specs.World.{World, Object, Header, object_at}
use Rattle.spec_world.specs.Inherit.{slot_at}
use Rattle.spec_world.specs.Permissions.{may}
use Rattle.spec_moo.specs.Properties.{BuiltInProperty, own_name, r_bit, w_bit, f_bit, Written, wrote, refused, writing, with_built_in, write_slot, write_built_in, write, read_object}
use Rattle.moo_value.specs.Errors.{code_of}
use Rattle.moo_value.specs.declared.error.MooError.{MooError}

-- where nothing is refused the world now is the written one, and else the one before
abbrev pub IsWritten : {A : Type 0} → World → World → Written → Result A MooError → Type 0
IsWritten before after written (Ok done) = written ≡ wrote after
IsWritten before after written (Err e) = (written ≡ refused (code_of e)) × (after ≡ before)

-- where it is done the world now is the written one, and else nothing is
abbrev pub IsSimplyWritten : Bool → ℤ → Datum → Datum → Datum → World → World → Type 0
IsSimplyWritten true who o p v before after = write before who o p v ≡ wrote after
IsSimplyWritten false who o p v before after = after ≡ before

-- a property that has an integer is written what an operator gives of that and another one
pub record IsReckonedOf (who o : ℤ) (p : Text) (operator : BinaryOperator) (second number : ℤ) (before after : World) : Type 0 where
  pub first : ℤ
  pub read : read_object before who o p (object_at before o) ≡ gives (integer first)
  pub answer : binary_value operator (integer first) (integer second) ≡ gives (integer number)
  pub written : write before who (object o) (text p) (integer number) ≡ wrote after

-- it is, where there is such an integer, and else nothing is
abbrev pub IsSimplyUpdated : ℤ → ℤ → Text → BinaryOperator → ℤ → Option ℤ → World → World → Type 0
IsSimplyUpdated who o p operator second (Some number) before after = IsReckonedOf who o p operator second number before after
IsSimplyUpdated who o p operator second None before after = after ≡ before

-- a property that is no built-in one
abbrev pub write_named : World → ℤ → ℤ → Text → Datum → Option Object → Written
write_named w who o p v None = refused invalid_indirection
write_named w who o p v (Some x) = write_slot w who o p v (slot_at w o p)

-- a built-in one
abbrev pub built_in_written : World → ℤ → ℤ → Datum → BuiltInProperty → Option Object → Written
built_in_written w who o v b None = refused invalid_indirection
built_in_written w who o v b (Some x) = write_built_in w o (may w who (writing o b)) (with_built_in x b v)

-- why none of those that nobody writes is written
abbrev pub place_error : Option Object → ErrorCode
place_error None = invalid_indirection
place_error (Some x) = permission_denied

-- one of the bits r, w, f
abbrev pub is_bit : BuiltInProperty → Bool
is_bit r_bit = true
is_bit w_bit = true
is_bit f_bit = true
is_bit b = false

-- who is no wizard, by an object's header
abbrev pub owner_may : Header → ℤ → BuiltInProperty → Bool
owner_may h who own_name = int_eq who h.owner && not h.is_player
owner_may h who b = is_bit b && int_eq who h.owner
