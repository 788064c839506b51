-- Worlds in reach of readers: values nest no deeper than values are read, and verbs want sets of prepositions that there are.
use Rattle.std.specs.Prelude.{nat_le, Bool, true, ◌&&◌, Option, Some, None}
use Rattle.std.specs.List.{list_all}
use Rattle.spec_value.specs.Datum.{Datum, list, of_list}
use Rattle.spec_world.specs.World.{World, PrepositionPart, no_preposition, any_preposition, preposition_set, Object, Frame, Entry, frame_entry, native_entry, Waiting, forked, timed, idle, reading_on, Task}
use Rattle.spec_world.specs.Checkpoint.{values_held}
use Rattle.spec_faults.specs.Literals.{nests, deepest}

abbrev pub is_near : Datum → Bool
is_near v = nests deepest v

abbrev pub content_near : Option Datum → Bool
content_near None = true
content_near (Some v) = is_near v

abbrev pub preposition_near : PrepositionPart → Bool
preposition_near no_preposition = true
preposition_near any_preposition = true
preposition_near (preposition_set n) = nat_le n 14

abbrev pub object_near : Object → Bool
object_near x = list_all (λ e. content_near (e.1).content) x.slots && list_all (λ v. preposition_near v.preposition) x.verbs

abbrev pub frame_near : Frame → Bool
frame_near f = list_all (λ e. is_near e.1) f.variables && list_all is_near (values_held f.pieces)

abbrev pub entry_near : Entry → Bool
entry_near (frame_entry f) = frame_near f
entry_near (native_entry n) = is_near (list (of_list n.arguments))

abbrev pub waiting_near : Waiting → Bool
waiting_near (forked due) = true
waiting_near (timed due v) = is_near v
waiting_near idle = true
waiting_near (reading_on c) = true

abbrev pub task_near : Task → Bool
task_near t = waiting_near t.waiting && list_all entry_near t.entries

abbrev pub is_in_reach : World → Bool
is_in_reach w = list_all (λ e. object_near e.1) w.objects && list_all (λ e. task_near e.1) w.tasks
