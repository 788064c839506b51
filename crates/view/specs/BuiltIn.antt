-- The built-in properties of the definitions.
use Rattle.std.specs.Prelude.{ℕ, ◌==◌, ◌+◌, ◌||◌, Bool}
use Rattle.spec_moo.specs.Properties.{BuiltInProperty, own_name, own_owner, own_location, own_contents, programmer_flag, wizard_flag, r_bit, w_bit, f_bit}
use Rattle.view.specs.declared.built_in.BuiltIn.{BuiltIn}
use Rattle.view.specs.declared.built_in.BuiltIn.TheVariants.{Contents, Location, Of}
use Rattle.view.specs.declared.built_in.Attribute.{Attribute}
use Rattle.view.specs.declared.built_in.Attribute.TheVariants.{Name, Owner, Flag as FlagOf}
use Rattle.view.specs.declared.built_in.Flag.{Flag}
use Rattle.view.specs.declared.built_in.Flag.TheVariants.{Programmer, Wizard, Readable, Writable, Fertile}

abbrev pub flag_of : Flag → BuiltInProperty
flag_of Programmer = programmer_flag
flag_of Wizard = wizard_flag
flag_of Readable = r_bit
flag_of Writable = w_bit
flag_of Fertile = f_bit

abbrev pub attribute_of : Attribute → BuiltInProperty
attribute_of Name = own_name
attribute_of Owner = own_owner
attribute_of (FlagOf f) = flag_of f

abbrev pub property_of : BuiltIn → BuiltInProperty
property_of Contents = own_contents
property_of Location = own_location
property_of (Of a) = attribute_of a

-- a letter, by its upper case, or its lower case
abbrev pub is_either : ℕ → ℕ → Bool
is_either x upper = (x == upper) || (x == upper + 32)

-- the letters that are the name of a bit
abbrev pub is_bit_letter : ℕ → Bool
is_bit_letter x = is_either x 82 || (is_either x 87 || is_either x 70)

-- with which the longer names begin
abbrev pub begins_one : ℕ → Bool
begins_one x = is_either x 78 || (is_either x 79 || (is_either x 76 || (is_either x 67 || (is_either x 80 || is_either x 87))))
