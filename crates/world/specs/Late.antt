-- Light changes, after which answers follow from those before them.
use Rattle.std.specs.Prelude.{Bool, true, false, IsTrue, List, [], ◌∷◌, Option, None, Some}
use Rattle.spec_value.specs.Datum.{Datum}
use Rattle.spec_world.specs.World.{Slot}
use Rattle.spec_world.specs.Questions.{Question, about_slot, Answer, the_slot, Change, new_value, new_next}

-- another value in a slot, or the next step's number
abbrev pub is_light : Change → Bool
is_light (new_value o p v) = true
is_light (new_next n) = true
is_light _ = false

abbrev pub AllLight : List Change → Type 0
AllLight [] = Unit {0}
AllLight (c ∷ cs) = IsTrue (is_light c) × AllLight cs

abbrev pub is_about_slot : Question → Bool
is_about_slot (about_slot o p) = true
is_about_slot _ = false

-- the slot that an answer tells, if it is there
abbrev pub slot_told : Answer → Option Slot
slot_told (the_slot (Some (Some s))) = Some s
slot_told _ = None

-- a slot that may have got another value later
abbrev pub with_later : Slot → Option Datum → Slot
with_later s None = s
with_later s (Some v) = record s { content = Some v }
