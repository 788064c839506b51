-- The flags and bits of objects, slots and verbs.
use Rattle.std.specs.Prelude.{ℕ, ◌==◌, Bool, true, not, [], ◌∷◌}
use Rattle.spec_value.specs.Datum.{Text}
use Rattle.spec_world.specs.World.{Object, Slot, Verb}
use Rattle.line_fields.specs.declared.bits.ObjectFlags.{ObjectFlags}
use Rattle.line_fields.specs.declared.bits.SlotBits.{SlotBits}
use Rattle.line_fields.specs.declared.bits.VerbBits.{VerbBits}

abbrev pub flags_of : Object → ObjectFlags
flags_of x =
    record {
      is_player = x.header.is_player;
      is_programmer = x.header.is_programmer;
      is_wizard = x.header.is_wizard;
      readable = x.header.readable;
      writable = x.header.writable;
      fertile = x.header.fertile;
    }

abbrev pub bits_of_slot : Slot → SlotBits
bits_of_slot s = record { readable = s.readable; writable = s.writable; changeable = s.changeable }

abbrev pub bits_of_verb : Verb → VerbBits
bits_of_verb v = record { readable = v.readable; writable = v.writable; callable = v.callable; debug = v.debug }

abbrev pub begins_otherwise : ℕ → Text → Bool
begins_otherwise letter [] = true
begins_otherwise letter (c ∷ t) = not (c == letter)
