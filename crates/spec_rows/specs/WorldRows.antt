-- Worked rows, true by computation: changed fixtures that are well formed and that are not, clause by clause.
use Rattle.std.specs.Prelude.{◌≡◌, ℕ, ℤ, pos, neg_ℤ, List, [], ◌∷◌, Some, None, Bool, true, false, replicate, codes}
use Rattle.spec_value.specs.Datum.{Datum, integer, object, text, list, no_data, Text}
use Rattle.spec_value.specs.Table.{is_numbered, is_named}
use Rattle.spec_program.specs.Tree.{call, no_arguments, evaluate, Program, the_end, seq}
use Rattle.spec_program.specs.Construct.{of_statement, of_program, Piece}
use Rattle.spec_world.specs.World.{World, Object, Slot, Call, Start, Frame, move_native, create_native, recycle_native, eval_native, Entry, frame_entry, native_entry, Task, Waiting, forked, timed, idle, reading_on, with_object}
use Rattle.spec_world.specs.Inherit.{ancestors, property_value}
use Rattle.spec_world.specs.WellFormed.{once, number_fits, has_no_cycle, is_in_no_cycle, children_agree, parent_agrees, contents_agree, location_agrees, line_names_once, slots_in_order, slots_agree, definers_filled, link_fits, frame_fits, native_fits, id_fits, entries_fit, wait_fits, links_read}
use Rattle.spec_world.specs.Families.{nowhere}
use Rattle.spec_fixture.specs.Fixture.{fixture, n_slot, room_verbs, room as room_with, person, box, thing}
use Rattle.spec_rows.specs.Told.{AllPass, NonePasses}

abbrev pub room : ℤ → Object
room n = room_with n room_verbs

-- the fixture with other objects
abbrev pub with_one : ℤ → Object → World
with_one o x = with_object fixture o x

abbrev pub with_two : ℤ → Object → ℤ → Object → World
with_two o x q y = with_object (with_one o x) q y

-- ---- parents and places

abbrev pub box_of_thing : Object
box_of_thing = record box { children = pos 7 ∷ [] }

abbrev pub thing_of_box : Object
thing_of_box = record thing { header = record (thing.header) { parent = pos 6 } }

-- box and thing are each the other's parent
abbrev pub knot : World
knot = with_two (pos 6) box_of_thing (pos 7) thing_of_box

-- box and player are each in the other
abbrev pub nest : World
nest = with_two (pos 6) (record box { header = record (box.header) { location = pos 4 }; contents = pos 4 ∷ [] }) (pos 4) (record (person (codes "Ann")) { header = record ((person (codes "Ann")).header) { location = pos 6 }; contents = pos 6 ∷ [] })

abbrev pub Cycles : Type 0
Cycles =
    AllPass (has_no_cycle fixture (pos 6) box ∷ is_in_no_cycle fixture (pos 6) box ∷ children_agree knot (pos 6) box_of_thing ∷ parent_agrees knot (pos 7) thing_of_box ∷ [])
    × NonePasses (has_no_cycle knot (pos 6) box_of_thing ∷ has_no_cycle knot (pos 7) thing_of_box ∷ is_in_no_cycle nest (pos 6) box ∷ is_in_no_cycle nest (pos 4) box ∷ [])

abbrev pub thing_with : List ℤ → Bool
thing_with children = children_agree fixture (pos 7) (record thing { children = children })

abbrev pub box_below : ℤ → Bool
box_below parent = parent_agrees fixture (pos 6) (record box { header = record (box.header) { parent = parent } })

-- a child stands once among the children of its parent, which is there
abbrev pub Children : Type 0
Children =
    AllPass (thing_with (pos 6 ∷ []) ∷ thing_with [] ∷ box_below (pos 7) ∷ box_below nowhere ∷ [])
    × NonePasses (
    thing_with (pos 6 ∷ pos 6 ∷ []) ∷ thing_with (pos 5 ∷ []) ∷ thing_with (pos 9 ∷ []) ∷ box_below (pos 1) ∷ box_below (pos 8) ∷ box_below (neg_ℤ (pos 2)) ∷ [])

abbrev pub room_with_contents : List ℤ → Bool
room_with_contents contents = contents_agree fixture (pos 3) (record (room (pos 0)) { contents = contents })

abbrev pub box_in : ℤ → Bool
box_in location = location_agrees fixture (pos 6) (record box { header = record (box.header) { location = location } })

abbrev pub Contents : Type 0
Contents =
    AllPass (room_with_contents (pos 4 ∷ pos 5 ∷ pos 6 ∷ []) ∷ box_in (pos 3) ∷ box_in nowhere ∷ [])
    × NonePasses (room_with_contents (pos 4 ∷ pos 4 ∷ []) ∷ room_with_contents (pos 7 ∷ []) ∷ room_with_contents (pos 9 ∷ []) ∷ box_in (pos 7) ∷ box_in (pos 8) ∷ [])

-- objects are numbered from 0 to the greatest
abbrev pub Numbers : Type 0
Numbers =
    AllPass (number_fits fixture (pos 0) thing ∷ number_fits fixture (pos 7) thing ∷ is_numbered fixture.objects ∷ [])
    × NonePasses (number_fits fixture (pos 8) thing ∷ number_fits fixture nowhere thing ∷ is_numbered ((pos 1, thing) ∷ (pos 0, thing) ∷ []) ∷ is_numbered ((pos 1, thing) ∷ (pos 1, thing) ∷ []) ∷ [])

-- ---- properties

abbrev pub defining : Object → Text → Object
defining x name = record x { defines = name ∷ [] }

-- thing defines P
abbrev pub thing_with_p : Object
thing_with_p = record (defining thing (codes "P")) { slots = (codes "p", n_slot (pos 5)) ∷ [] }

-- box inherits it, with a slot of its own
abbrev pub box_with_p : Slot → Object
box_with_p s = record box { slots = (codes "p", s) ∷ [] }

abbrev pub Properties : Type 0
Properties =
    AllPass (
    slots_agree fixture (pos 3) (room (pos 0))
    ∷ slots_agree (with_one (pos 7) thing_with_p) (pos 7) thing_with_p
    ∷ slots_agree (with_one (pos 7) thing_with_p) (pos 6) (box_with_p (n_slot (pos 1)))
    ∷ line_names_once (with_two (pos 7) thing_with_p (pos 6) (defining box (codes "p"))) (pos 7) thing
    ∷ definers_filled fixture (pos 3) (defining (room (pos 0)) (codes "N"))
    ∷ is_named ((codes "a", integer (pos 0)) ∷ (codes "b", integer (pos 0)) ∷ [])
    ∷ [])
    × NonePasses (
    slots_agree (with_one (pos 3) (record (room (pos 0)) { slots = [] })) (pos 3) (record (room (pos 0)) { slots = [] })
    ∷ slots_agree fixture (pos 6) (record box { slots = (codes "n", n_slot (pos 1)) ∷ [] })
    ∷ slots_agree (with_one (pos 7) thing_with_p) (pos 6) box
    ∷ line_names_once (with_two (pos 7) thing_with_p (pos 6) (defining box (codes "p"))) (pos 6) box
    ∷ definers_filled (with_one (pos 3) (record (room (pos 0)) { slots = (codes "n", record (n_slot (pos 0)) { content = None }) ∷ [] })) (pos 3) (room (pos 0))
    ∷ slots_in_order fixture (pos 3) (record (room (pos 0)) { slots = (codes "b", n_slot (pos 0)) ∷ (codes "a", n_slot (pos 0)) ∷ [] })
    ∷ [])

-- ---- links

abbrev pub linked : ℤ → ℤ → Bool
linked c who = link_fits fixture c (record { person = who; programming = None })

-- a link is a player's, or that of its own number while it is nobody's; no player has two
abbrev pub Links : Type 0
Links =
    AllPass (
    linked (pos 1) (pos 4) ∷ linked (pos 999999) (pos 4) ∷ linked (pos 1) (neg_ℤ (pos 4)) ∷ linked (pos 2) (neg_ℤ (pos 5)) ∷ once (pos 4 ∷ pos 5 ∷ []) ∷ [])
    × NonePasses (
    linked (pos 0) (pos 4) ∷ linked (pos 1000000) (pos 4) ∷ linked (pos 1) (pos 6) ∷ linked (pos 1) (pos 9) ∷ linked (pos 1) (neg_ℤ (pos 5)) ∷ linked (pos 2) (neg_ℤ (pos 4)) ∷ linked (pos 1) nowhere
    ∷ once (pos 4 ∷ pos 5 ∷ pos 4 ∷ []) ∷ [])

-- ---- tasks

abbrev pub a_call : Call
a_call = record { this = pos 3; caller = pos 4; definer = pos 3; programmer = pos 2; verb = codes "v"; debug = true }

abbrev pub without_words : Start
without_words = record { argstr = []; dobj = nowhere; dobjstr = []; prepstr = []; iobj = nowhere; iobjstr = [] }

-- f();
abbrev pub waiting_program : Program
waiting_program = seq (evaluate (call (codes "f") no_arguments)) the_end

abbrev pub frame_of : List (Text × Datum) → List Piece → Frame
frame_of variables pieces = record { call = a_call; start = without_words; program = waiting_program; variables = variables; pieces = pieces }

abbrev pub at_its_call : List Piece
at_its_call =
    record { construct = of_statement (evaluate (call (codes "f") no_arguments)); part = 1; held = [] } ∷ record { construct = of_program waiting_program; part = 1; held = [] } ∷ []

-- a verb that waits at its call, one at its beginning, and a built-in
abbrev pub waiting_frame : Entry
waiting_frame = frame_entry (frame_of ((codes "args", list no_data) ∷ (codes "this", object (pos 3)) ∷ []) at_its_call)

abbrev pub first_frame : Entry
first_frame = frame_entry (frame_of [] [])

abbrev pub a_native : Entry
a_native = native_entry (record { name = recycle_native; stage = 1; arguments = object (pos 6) ∷ [] })

abbrev pub task_of : Waiting → List Entry → Task
task_of waiting entries = record { player = pos 4; waiting = waiting; entries = entries }

abbrev pub numbered_before : ℕ → ℤ → Bool
numbered_before next id = id_fits (record fixture { next = next }) id (task_of idle (waiting_frame ∷ []))

abbrev pub has_entries : List Entry → Bool
has_entries entries = entries_fit fixture (pos 1) (task_of idle entries)

-- ids are those that steps before the next one can have given; a verb stands first and last, and no two built-ins beside each other
abbrev pub Entries : Type 0
Entries =
    AllPass (
    numbered_before 2 (pos 1) ∷ numbered_before 2 (pos 64) ∷ has_entries (waiting_frame ∷ []) ∷ has_entries (waiting_frame ∷ a_native ∷ waiting_frame ∷ [])
    ∷ has_entries (waiting_frame ∷ waiting_frame ∷ a_native ∷ waiting_frame ∷ []) ∷ has_entries (replicate 50 waiting_frame) ∷ [])
    × NonePasses (
    numbered_before 1 (pos 1) ∷ numbered_before 2 (pos 65) ∷ numbered_before 2 (pos 0) ∷ has_entries [] ∷ has_entries (a_native ∷ waiting_frame ∷ [])
    ∷ has_entries (waiting_frame ∷ a_native ∷ []) ∷ has_entries (waiting_frame ∷ a_native ∷ a_native ∷ waiting_frame ∷ []) ∷ has_entries (replicate 51 waiting_frame) ∷ [])

abbrev pub waits : Waiting → List Entry → Bool
waits waiting entries = wait_fits fixture (pos 1) (task_of waiting entries)

-- a fork is one verb at its beginning; moments are in their range; who reads does so on an open link, alone
abbrev pub Waits : Type 0
Waits =
    AllPass (
    waits (forked 0) (first_frame ∷ []) ∷ waits (forked 2147483647) (first_frame ∷ []) ∷ waits (timed 5 (integer (pos 0))) (waiting_frame ∷ [])
    ∷ waits idle (waiting_frame ∷ []) ∷ waits (reading_on (pos 1)) (waiting_frame ∷ []) ∷ once (links_read ((pos 1, task_of (reading_on (pos 1)) []) ∷ (pos 2, task_of idle []) ∷ [])) ∷ [])
    × NonePasses (
    waits (forked 0) (first_frame ∷ first_frame ∷ []) ∷ waits (forked 0) (waiting_frame ∷ []) ∷ waits (forked 2147483648) (first_frame ∷ [])
    ∷ waits (timed 2147483648 (integer (pos 0))) (waiting_frame ∷ []) ∷ waits (reading_on (pos 3)) (waiting_frame ∷ [])
    ∷ once (links_read ((pos 1, task_of (reading_on (pos 1)) []) ∷ (pos 2, task_of idle []) ∷ (pos 3, task_of (reading_on (pos 1)) []) ∷ [])) ∷ [])

abbrev pub has_variable : Text → Bool
has_variable x = frame_fits (frame_of ((x, integer (pos 0)) ∷ []) [])

-- variables are identifiers in lower case, none of them a keyword, and stand in the order of their names
abbrev pub Variables : Type 0
Variables =
    AllPass (has_variable (codes "a1_") ∷ has_variable (codes "_") ∷ has_variable (codes "e_permx") ∷ [])
    × NonePasses (
    has_variable (codes "A") ∷ has_variable (codes "1a") ∷ has_variable [] ∷ has_variable (codes "any") ∷ has_variable (codes "e_perm") ∷ has_variable (codes "in")
    ∷ frame_fits (frame_of ((codes "b", integer (pos 0)) ∷ (codes "a", integer (pos 0)) ∷ []) []) ∷ [])

abbrev pub objects : ℕ → List Datum
objects n = replicate n (object (pos 1))

abbrev pub Natives : Type 0
Natives =
    AllPass (
    native_fits move_native 1 (objects 2) ∷ native_fits move_native 2 (objects 3) ∷ native_fits move_native 3 (objects 3) ∷ native_fits create_native 1 (objects 2) ∷ native_fits create_native 1 (objects 3)
    ∷ native_fits recycle_native 1 (objects 1) ∷ native_fits eval_native 1 (text [] ∷ []) ∷ [])
    × NonePasses (
    native_fits move_native 0 (objects 2) ∷ native_fits move_native 2 (objects 2) ∷ native_fits move_native 4 (objects 3) ∷ native_fits create_native 1 (objects 1) ∷ native_fits create_native 2 (objects 2)
    ∷ native_fits recycle_native 1 (integer (pos 1) ∷ []) ∷ native_fits eval_native 1 (objects 1) ∷ [])

-- ---- inheritance

abbrev pub box_of_ann : Object → Object
box_of_ann x = record x { header = record (x.header) { owner = pos 4 } }

-- thing defines p with the value 5, and the box of another owner has a clear slot
abbrev pub inherited : World
inherited =
    with_two (pos 7) (record (defining thing (codes "p")) { slots = (codes "p", record (n_slot (pos 5)) { changeable = true }) ∷ [] })
    (pos 6) (box_of_ann (box_with_p (record { content = None; owner = pos 4; readable = true; writable = false; changeable = true })))

-- a clear slot has the value of the next ancestor whose slot is not clear
abbrev pub Inherits : Type 0
Inherits =
    (property_value inherited (pos 6) (codes "P") ≡ Some (integer (pos 5)))
    × (property_value inherited (pos 1) (codes "p") ≡ None)
    × (property_value (with_object inherited (pos 6) (box_with_p (n_slot (pos 7)))) (pos 6) (codes "p") ≡ Some (integer (pos 7)))
    × (ancestors inherited (pos 6) ≡ (pos 6 ∷ pos 7 ∷ pos 1 ∷ []))
    × (ancestors inherited (pos 9) ≡ [])
