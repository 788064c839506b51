-- Worlds of values: each number is in its range, each text has characters that are printed, and each program is a tree of the grammar.
use Rattle.std.specs.Prelude.{ℕ, ℤ, ◌^◌, nat_lt, nat_le, Bool, true, ◌&&◌, Option, Some, None}
use Rattle.std.specs.List.{list_all}
use Rattle.spec_value.specs.Datum.{Datum, is_text, in_number_range, is_value}
use Rattle.spec_program.specs.Construct.{Piece}
use Rattle.spec_program.specs.Trees.{is_tree}
use Rattle.spec_world.specs.World.{World, Slot, PrepositionPart, no_preposition, any_preposition, preposition_set, Verb, Header, Object, Call, Frame, Native, Entry, frame_entry, native_entry, Waiting, forked, timed, idle, reading_on, Task}
use Rattle.spec_world.specs.Checkpoint.{start_values}
use Rattle.spec_checkpoint.specs.Records.{link_holds}

abbrev pub is_number : ℕ → Bool
is_number n = nat_lt n (2 ^ 31)

-- ---- objects

abbrev pub content_holds : Option Datum → Bool
content_holds None = true
content_holds (Some v) = is_value v

abbrev pub slot_holds : Slot → Bool
slot_holds s = in_number_range s.owner && content_holds s.content

abbrev pub preposition_holds : PrepositionPart → Bool
preposition_holds no_preposition = true
preposition_holds any_preposition = true
preposition_holds (preposition_set n) = is_number n

abbrev pub verb_holds : Verb → Bool
verb_holds v = is_text v.names && (in_number_range v.owner && (preposition_holds v.preposition && is_tree v.program))

abbrev pub header_holds : Header → Bool
header_holds h = is_text h.name && (in_number_range h.owner && (in_number_range h.parent && in_number_range h.location))

abbrev pub object_holds : Object → Bool
object_holds x =
    header_holds x.header
    && (list_all in_number_range x.children
    && (list_all in_number_range x.contents && (list_all is_text x.defines && (list_all (λ e. slot_holds e.1) x.slots && list_all verb_holds x.verbs))))

abbrev pub numbered_object_holds : ℤ × Object → Bool
numbered_object_holds e = in_number_range e.0 && object_holds e.1

-- ---- tasks

abbrev pub call_holds : Call → Bool
call_holds c =
    in_number_range c.this && (in_number_range c.caller && (in_number_range c.definer && (in_number_range c.programmer && is_text c.verb)))

-- the parts of a construct are counted from 1
abbrev pub piece_holds : Piece → Bool
piece_holds p = (nat_le 1 p.part && is_number p.part) && list_all is_value p.held

abbrev pub frame_holds : Frame → Bool
frame_holds f =
    call_holds f.call
    && (list_all is_value (start_values f.start)
    && (is_tree f.program && (list_all (λ e. is_text e.0 && is_value e.1) f.variables && list_all piece_holds f.pieces)))

abbrev pub native_holds : Native → Bool
native_holds n = is_number n.stage && list_all is_value n.arguments

abbrev pub entry_holds : Entry → Bool
entry_holds (frame_entry f) = frame_holds f
entry_holds (native_entry n) = native_holds n

abbrev pub waiting_holds : Waiting → Bool
waiting_holds (forked due) = is_number due
waiting_holds (timed due v) = is_number due && is_value v
waiting_holds idle = true
waiting_holds (reading_on c) = in_number_range c

abbrev pub task_holds : Task → Bool
task_holds t = in_number_range t.player && (waiting_holds t.waiting && list_all entry_holds t.entries)

abbrev pub numbered_task_holds : ℤ × Task → Bool
numbered_task_holds e = in_number_range e.0 && task_holds e.1

-- ---- the whole

abbrev pub world_holds : World → Bool
world_holds w =
    is_number w.next
    && (in_number_range w.greatest
    && (list_all link_holds w.links && (list_all numbered_object_holds w.objects && list_all numbered_task_holds w.tasks)))
