-- Built-in functions, called with values, leave a world of values, answer values, and begin programs of the grammar.
use Rattle.std.proofs.Common.{◌≡◌, ℕ, zero, suc, ◌+◌, ◌-◌, ◌*◌, ◌%◌, ◌<◌, ◌≤◌, ◌^◌, min, ℤ, pos, negsuc, ◌+ℤ◌, int_le, Bool, true, false, not, ◌&&◌, ◌||◌, List, [], ◌∷◌, ◌++◌, length, Option, Some, None, IsTrue, refl, is_none, is_some, if◌then◌else◌, arith, le-leb, leb-true, length-append}
use Rattle.std.proofs.Math.Nat.{mod-lt}
use Rattle.std.specs.Prelude.{option_map, codes, FitsSigned}
use Rattle.std.specs.Int.{w32}
use Rattle.std.proofs.lemmas.Int.{ints}
use Rattle.std.specs.Fmt.{decimal}
use Rattle.std.specs.Ordering.{int_eq}
use Rattle.spec_value.specs.Datum.{Datum, integer, object, text, error, list, Data, no_data, item, of_list, Text, ErrorCode, same_text, is_true, weight, data_weight, invalid_argument, property_not_found, verb_not_found, limit_exceeded}
use Rattle.spec_value.specs.Answer.{weight_limit, is_allowed}
use Rattle.spec_value.specs.Literal.{to_text}
use Rattle.spec_value.specs.Table.{at}
use Rattle.spec_value.specs.PureBuiltins.{PureFunction, call_value}
use Rattle.spec_value.proofs.Entries.{both_hold}
use Rattle.spec_program.specs.Tree.{Program}
use Rattle.spec_program.specs.Spelling.{canonical_lines}
use Rattle.spec_program.specs.ReadPrograms.{Fault, Parsed, program, faulty, parsed, parsed_lines, joined_lines, fault_name, fault_text}
use Rattle.spec_program.specs.Tokens.{FaultKind, character, unclosed, token, nesting, number, loop_name}
use Rattle.spec_program.proofs.ParsedFits.{parsed_is_tree}
use Rattle.spec_world.specs.World.{World, Object, Slot, Native, NativeName, move_native, create_native, recycle_native, eval_native, ObjectPart, no_object, any_object, this_object, PrepositionPart, no_preposition, any_preposition, preposition_set, Verb, Call, Entry, frame_entry, native_entry, Task, Waiting, forked, timed, idle, reading_on, object_at}
use Rattle.spec_world.specs.Inherit.{slot_at}
use Rattle.spec_world.specs.Links.{connection_of, reader_of}
use Rattle.spec_world.specs.Permissions as act
use Rattle.spec_world.specs.Permissions.{is_wizard, of_object, in_place, list_members, change_members, change_owner, read_verb, write_verb, program_verb, evaluate, have_child, change_object, administer, act_as, control_task, may}
use Rattle.spec_world.specs.VerbsSought.{Sought, find_verb}
use Rattle.spec_world.specs.Naming.{location_of}
use Rattle.spec_world.specs.Families.{next_object, parent_of, is_below, created, clashes}
use Rattle.spec_world.specs.Whereabouts.{is_inside, moved}
use Rattle.spec_world.specs.Words.{spaced}
use Rattle.spec_world.specs.Prepositions.{Phrase, sets}
use Rattle.spec_moo.specs.Scene.{Scene, in_world, has_ids, next_id, id_taken, named_or_next, with_own_id, moment_after}
use Rattle.spec_moo.specs.Linking.{connection_closed, link_closed, has_lines, line_told}
use Rattle.spec_moo.specs.Properties.{row_of}
use Rattle.spec_moo.specs.Calling.{verb_call}
use Rattle.spec_moo.specs.NativeEffect.{Caller, NativeEffect, answers, waits}
use Rattle.spec_moo.specs.Natives.{or_later, native, stage_of, native_turn}
use Rattle.spec_moo.specs.Natives.Rows.{Row, by_row, in_group, if_there, is_valid, is_valid_or_none, answers_with, zero_value, counts_fit, all_fit}
use Rattle.spec_moo.specs.Natives.Values.{value_rows, values}
use Rattle.spec_moo.specs.Natives.Objects.{valid_row, is_player_row, parent_row, as_objects, children_of, children_row, max_object_row, players_among, players_row, calls_found, calls_if_there, stage, create_for, create_row, has_numbers, recycle_now, recycle_row, chparent_row, is_there, told_to_enter, later_stage, last_stage, gone_over, move_now, accepted, move_row, with_flag, set_player_flag_row, object_rows, objects, new_object, staged}
use Rattle.spec_moo.specs.Natives.Properties.{are_bits, letter_if, slot_bits, with_slot_bits, as_texts, properties_row, property_info_row, set_property_info_row, is_clear_property_row, defines_it, clear_property_row, is_new_name, slot_with, add_property_row, delete_property_row, property_rows, properties}
use Rattle.spec_moo.specs.Natives.Verbs.{verb_place, if_verb, verb_names, verbs_row, verb_bits, with_info, info_fits, verb_info_row, set_verb_info_row, object_part_text, between_slashes, set_text, preposition_text, object_part, has_member, set_with, preposition_part, Specifier, all_three, specifier, with_specifier, verb_args_row, set_verb_args_row, new_verb, add_verb_row, delete_verb_row, verb_code_row, texts_of, fault_value, programmed, set_verb_code_row, evaluated, eval_row, verb_rows, verbs}
use Rattle.spec_moo.specs.Natives.Tasks.{notify_row, waits_with_id, reads_on, read_row, suspend_row, innermost, first_of, programmer_of, task_programmer, is_suspended, resumes, resume_row, is_own_id, kills, kill_task_row, due_value, task_value, listed_tasks, queued_tasks_row, task_id_row, ticks_left_row, time_row, raise_row, set_task_perms_row, caller_perms_row, random_word, random_up_to, random_row, connected_among, connected_players_row, boot_player_row, dump_database_row, shutdown_row, task_rows, tasks}
use Rattle.spec_values_kept.specs.Values.{nests_within, is_short, InRange, IsPrinted, IsValue, AreData, Each, AreValues, IsKept, AreKept, IfThere}
use Rattle.spec_values_kept.specs.Nodes.{program_nodes}
use Rattle.spec_values_kept.specs.WorldValues.{IsNumber, ProgramHolds, SlotHolds, PrepositionHolds, VerbHolds, ObjectHolds, CallHolds, EntriesHold, NativeHolds, WaitingHolds, TaskHolds, NumberedHolds}
use Rattle.spec_values_kept.specs.UnderWay.{SceneHolds, CallerHolds, NativeGives, NativesHold, StagesHold}
use Rattle.spec_values_kept.proofs.Nesting.{nests_by_weight, light_kept, kept_value, kept_short, kept_values, answer_value, list_kept}
use Rattle.spec_values_kept.proofs.Numbers.{fits_range, below_in_range, small_number, small_negative}
use Rattle.spec_values_kept.proofs.Texts.{text_then, decimal_text, text_of}
use Rattle.spec_values_kept.proofs.ValuesGiven.{truth_value, onto_data, first_datum, later_data, data_of, calls_give}
use Rattle.spec_values_kept.proofs.Tables.{each_more, unless_none}
use Rattle.spec_values_kept.proofs.CodePrinted.{code_is_printed}
use Rattle.spec_values_kept.proofs.ParsedFew.{parsed_few}
use Rattle.spec_values_kept.proofs.WorldChanges.{object_there, objects_there, change_holds, place_in_range, slot_there, slot_holds, SoughtHolds, verbs_of_object, verb_sought, created_holds, reparented_holds, recycled_holds, moved_holds, property_added_holds, property_deleted_holds, verb_added_holds, verb_deleted_holds, verb_changed_holds, task_put, task_there, task_gone, link_gone, connection_in_range}

-- ---- checks

-- where a test fails, nothing has changed
tested_so : (b : Bool) (e f : NativeEffect) → NativeGives f → (b ≡ true → NativeGives e) → NativeGives (if b then e else f)
tested_so true e f h more = more refl
tested_so false e f h more = h

tested : (b : Bool) (e f : NativeEffect) → NativeGives f → NativeGives e → NativeGives (if b then e else f)
tested b e f h more = tested_so b e f h (λ i. more)

there : {X : Type 0} (s : Scene) (err : ErrorCode) (o : Option X) (f : X → NativeEffect) → SceneHolds s → ((x : X) → o ≡ Some x → NativeGives (f x))
    → NativeGives (if_there s err o f)
there s err None f h more = (h, tt)
there s err (Some x) f h more = more x refl

scene_if : (b : Bool) (s t : Scene) → SceneHolds s → SceneHolds t → SceneHolds (if b then s else t)
scene_if true s t h k = h
scene_if false s t h k = k

-- ---- rows

abbrev MayCall : Caller → List Datum → Type 0
MayCall c args = CallerHolds c × (AreKept args × IsTrue (is_allowed (list (of_list args))))

abbrev RowHolds : Row → Type 0
RowHolds r = (s : Scene) (c : Caller) (args : List Datum) → SceneHolds s → MayCall c args → NativeGives (r.act s c args)

abbrev AllHold : List (Text × Row) → Type 0
AllHold rs = Each (λ r. RowHolds r.1) rs

by_row_holds : (r : Row) → RowHolds r → (s : Scene) (c : Caller) (args : List Datum) → SceneHolds s → MayCall c args → NativeGives (by_row s c args r)
by_row_holds r keeps s c args h k = tested (counts_fit r args) _ _ (h, tt) (tested (all_fit r.wanted r.further args) _ _ (h, tt) (keeps s c args h k))

group_holds : (rows : List (Text × Row)) → AllHold rows → (s : Scene) (c : Caller) (name : Text) (args : List Datum) → SceneHolds s → MayCall c args
    → IfThere NativeGives (in_group rows s c name args)
unfolding row_of
group_holds [] keeps s c name args h k = tt
group_holds (r ∷ rs) keeps s c name args h k = go (group_holds rs keeps.1 s c name args h k) (same_text r.0 name)
  where
    go : IfThere NativeGives (option_map (by_row s c args) (row_of rs name)) → (b : Bool)
        → IfThere NativeGives (option_map (by_row s c args) (if b then Some r.1 else row_of rs name))
    go later true = by_row_holds r.1 keeps.0 s c args h k
    go later false = later

-- ---- links that are closed

pub closed_scene : (s : Scene) (o : ℤ) → SceneHolds s → SceneHolds (link_closed s o)
closed_scene s o h = go (connection_of s.world o)
  where
    go : (m : Option ℤ) → SceneHolds (connection_closed s m)
    go None = h
    go (Some c) = (link_gone s.world c h.0, h.1)

-- ---- objects

listed : (os : List ℤ) → Each InRange os → AreData (of_list (as_objects os))
listed [] h = refl
listed (o ∷ os) h = onto_data (object o) (of_list (as_objects os)) h.0 (listed os h.1)

pub called_holds : (c : Call) (o : ℤ) (word : Text) (f : Sought) → CallHolds c → InRange o → IsPrinted word → SoughtHolds f → CallHolds (verb_call c o word f)
called_holds c o word f h i j k = (i, (h.0, (k.0, (k.1.1.0, j))))

calls_hold : (s : Scene) (c : Caller) (n : Native) (o : ℤ) (word : Text) (args : Data) (e : NativeEffect) → SceneHolds s → CallerHolds c → NativeHolds n → InRange o
    → IsPrinted word → IsKept (list args) → NativeGives e → NativeGives (calls_if_there s c n o word args e)
calls_hold s c n o word args e h k i j l m more = go (find_verb s.world o word) (verb_sought s.world o word h.0)
  where
    go : (f : Option Sought) → IfThere SoughtHolds f → NativeGives (calls_found s c n o word args e f)
    go None g = more
    go (Some f) g = (h, (i, (called_holds c.call o word f (k.1).0 j l g, ((((g.1).1).1).1, m))))

valid_holds : (s : Scene) (c : Caller) (args : List Datum) → SceneHolds s → MayCall c args → NativeGives (valid_row s c args)
valid_holds s c (object o ∷ []) h k = (h, truth_value (is_valid s o))
valid_holds s c _ h k = (h, tt)

is_player_holds : (s : Scene) (c : Caller) (args : List Datum) → SceneHolds s → MayCall c args → NativeGives (is_player_row s c args)
is_player_holds s c (object o ∷ []) h k =
    tested (is_valid s o) _ _ (h, tt) (h, truth_value (of_object (object_at s.world o) (λ x. x.header.is_player)))
is_player_holds s c _ h k = (h, tt)

pub parent_in_range : (m : Option Object) → IfThere ObjectHolds m → InRange (parent_of m)
parent_in_range None h = refl
parent_in_range (Some x) h = (((h.0).1).1).0

parent_holds : (s : Scene) (c : Caller) (args : List Datum) → SceneHolds s → MayCall c args → NativeGives (parent_row s c args)
parent_holds s c (object o ∷ []) h k = tested (is_valid s o) _ _ (h, tt) (h, parent_in_range (object_at s.world o) (objects_there s.world o h.0))
parent_holds s c _ h k = (h, tt)

children_in_range : (m : Option Object) → IfThere ObjectHolds m → Each InRange (children_of m)
children_in_range None h = tt
children_in_range (Some x) h = (h.1).0

children_hold : (s : Scene) (c : Caller) (args : List Datum) → SceneHolds s → MayCall c args → NativeGives (children_row s c args)
children_hold s c (object o ∷ []) h k =
    tested (is_valid s o) _ _ (h, tt) (h, listed (children_of (object_at s.world o)) (children_in_range (object_at s.world o) (objects_there s.world o h.0)))
children_hold s c _ h k = (h, tt)

max_object_holds : (s : Scene) (c : Caller) (args : List Datum) → SceneHolds s → MayCall c args → NativeGives (max_object_row s c args)
max_object_holds s c args h k = (h, ((((h.0).1).1).1).1)

players_in_range : (es : List (ℤ × Object)) → Each (NumberedHolds ObjectHolds) es → Each InRange (players_among es)
players_in_range [] h = tt
players_in_range (e ∷ es) h = go ((e.1).header.is_player) (players_in_range es h.1)
  where
    go : (b : Bool) → Each InRange (players_among es) → Each InRange (if b then e.0 ∷ players_among es else players_among es)
    go true later = ((h.0).0, later)
    go false later = later

players_hold : (s : Scene) (c : Caller) (args : List Datum) → SceneHolds s → MayCall c args → NativeGives (players_row s c args)
players_hold s c args h k = (h, listed (players_among s.world.objects) (players_in_range s.world.objects (h.0).0))

pub fits : (z : ℤ) → InRange z → FitsSigned w32 z
fits (pos n) h = let l : n < 2 ^ 31 = small_number n h in record { sfits = l }
fits (negsuc n) h = let l : n < 2 ^ 31 = small_negative n h in record { sfits = l }

-- one more than a number, and no more than that
next_in_range : (z : ℤ) → InRange z → IsTrue (int_le (z +ℤ pos 1) (pos 999999)) → InRange (z +ℤ pos 1)
next_in_range z h l = let f : FitsSigned w32 z = fits z h in let g : FitsSigned w32 (z +ℤ pos 1) = omega (arith, ints, f, l) in fits_range (z +ℤ pos 1) g

create_for_holds : (s : Scene) (c : Caller) (p owner : ℤ) (args : List Datum) → SceneHolds s → CallerHolds c → AreValues args → InRange p → InRange owner
    → NativeGives (create_for s c p owner args)
create_for_holds s c p owner args h k a i j =
    tested (may s.world c.call.programmer (have_child p) && may s.world c.call.programmer (change_owner c.call.programmer owner)) _ _ (h, tt)
    (tested_so (has_numbers s) _ _ (h, tt) (λ e.
    let l : InRange (next_object s.world) = next_in_range s.world.greatest (((((h.0).1).1).1).1) e in
    let u : SceneHolds (in_world s (created s.world p owner)) = (created_holds s.world p owner i j l h.0, h.1) in
    calls_hold (in_world s (created s.world p owner)) c (stage create_native (args ++ object (next_object s.world) ∷ [])) (next_object s.world) (codes "initialize") no_data _ u k
    (refl, each_more IsValue args (object (next_object s.world)) a l) l refl refl (u, l)))

create_holds : (s : Scene) (c : Caller) (args : List Datum) → SceneHolds s → MayCall c args → NativeGives (create_row s c args)
create_holds s c (object p ∷ []) h k =
    tested (is_valid_or_none s p) _ _ (h, tt) (create_for_holds s c p c.call.programmer (object p ∷ []) h k.0 (k.1).0 (((k.1).0).0) ((((((k.0).1).0).1).1).1).0)
create_holds s c (object p ∷ object owner ∷ []) h k =
    tested (is_valid_or_none s p && is_valid s owner) _ _ (h, tt)
    (create_for_holds s c p owner (object p ∷ object owner ∷ []) h k.0 (k.1).0 ((k.1).0).0 (((k.1).0).1).0)
create_holds s c _ h k = (h, tt)

recycle_now_holds : (s : Scene) (o : ℤ) → SceneHolds s → SceneHolds (recycle_now s o)
recycle_now_holds s o h = let t = closed_scene s o h in scene_if (is_valid s o) _ _ (recycled_holds (link_closed s o).world o t.0, t.1) h

recycle_holds : (s : Scene) (c : Caller) (args : List Datum) → SceneHolds s → MayCall c args → NativeGives (recycle_row s c args)
recycle_holds s c (object o ∷ []) h k =
    tested (is_valid s o) _ _ (h, tt) (tested (may s.world c.call.programmer (change_object o)) _ _ (h, tt)
    (calls_hold s c (stage recycle_native (object o ∷ [])) o (codes "recycle") no_data (answers_with (recycle_now s o) zero_value) h k.0 (refl, (k.1).0) (((k.1).0).0) refl refl
    (recycle_now_holds s o h, refl)))
recycle_holds s c _ h k = (h, tt)

chparent_holds : (s : Scene) (c : Caller) (args : List Datum) → SceneHolds s → MayCall c args → NativeGives (chparent_row s c args)
chparent_holds s c (object o ∷ object p ∷ []) h k =
    tested (is_valid s o && is_valid_or_none s p) _ _ (h, tt)
    (tested (may s.world c.call.programmer (change_object o) && may s.world c.call.programmer (have_child p)) _ _ (h, tt)
    (tested (not (is_below s.world o p)) _ _ (h, tt) (tested (not (clashes s.world o p)) _ _ (h, tt)
    (scene_if (int_eq (parent_of (object_at s.world o)) p) _ _ h (reparented_holds s.world o p (((k.1).0).0) ((((k.1).0).1).0) h.0, h.1), refl))))
chparent_holds s c _ h k = (h, tt)

three_objects : (what place before : ℤ) → InRange what → InRange place → InRange before → AreValues (object what ∷ object place ∷ object before ∷ [])
three_objects what place before i j k = (i, (j, (k, tt)))

one_object : (o : ℤ) → InRange o → IsKept (list (item (object o) no_data))
one_object o i = onto_data (object o) no_data i refl

told_holds : (s : Scene) (c : Caller) (what place before : ℤ) → SceneHolds s → CallerHolds c → InRange what → InRange place → InRange before
    → NativeGives (told_to_enter s c what place before)
told_holds s c what place before h k i j l =
    tested (is_there s what place && is_valid s place) _ _ (h, refl)
    (calls_hold s c (last_stage move_native (object what ∷ object place ∷ object before ∷ [])) place (codes "enterfunc") (item (object what) no_data) (answers_with s zero_value) h k
    (refl, three_objects what place before i j l) j refl (one_object what i) (h, refl))

move_now_holds : (s : Scene) (c : Caller) (what place : ℤ) → SceneHolds s → CallerHolds c → InRange what → InRange place → NativeGives (move_now s c what place)
move_now_holds s c what place h k i j = tested (is_there s what place) _ _ gone (h, refl)
  where
    before : InRange (location_of (object_at s.world what))
    before = place_in_range s.world what h.0

    there_now : SceneHolds (in_world s (moved s.world what place))
    there_now = (moved_holds s.world what place i j h.0, h.1)

    gone : NativeGives (gone_over (in_world s (moved s.world what place)) c what place (location_of (object_at s.world what)))
    gone =
        calls_hold (in_world s (moved s.world what place)) c (later_stage move_native (object what ∷ object place ∷ object (location_of (object_at s.world what)) ∷ []))
        (location_of (object_at s.world what)) (codes "exitfunc") (item (object what) no_data) _ there_now k
        (refl, three_objects what place (location_of (object_at s.world what)) i j before) before refl (one_object what i)
        (told_holds (in_world s (moved s.world what place)) c what place (location_of (object_at s.world what)) there_now k i j before)

accepted_holds : (s : Scene) (c : Caller) (what place : ℤ) (let_in : Bool) → SceneHolds s → CallerHolds c → InRange what → InRange place
    → NativeGives (accepted s c what place let_in)
accepted_holds s c what place let_in h k i j =
    tested (let_in || is_wizard s.world c.call.programmer) _ _ (h, tt) (tested (is_valid s what && is_valid_or_none s place) _ _ (h, tt)
    (tested (not (is_inside s.world what place)) _ _ (h, tt) (move_now_holds s c what place h k i j)))

move_holds : (s : Scene) (c : Caller) (args : List Datum) → SceneHolds s → MayCall c args → NativeGives (move_row s c args)
move_holds s c (object what ∷ object place ∷ []) h k =
    let i : InRange what = ((k.1).0).0 in let j : InRange place = (((k.1).0).1).0 in
    tested (is_valid s what && is_valid_or_none s place) _ _ (h, tt) (tested (may s.world c.call.programmer (change_object what)) _ _ (h, tt)
    (tested (not (is_inside s.world what place)) _ _ (h, tt) (tested (is_valid s place) _ _ (move_now_holds s c what place h k.0 i j)
    (calls_hold s c (stage move_native (object what ∷ object place ∷ [])) place (codes "accept") (item (object what) no_data) (accepted s c what place (is_true zero_value)) h k.0
    (refl, (k.1).0) j refl (one_object what i) (accepted_holds s c what place (is_true zero_value) h k.0 i j)))))
move_holds s c _ h k = (h, tt)

flag_holds : (s : Scene) (o : ℤ) (flag : Bool) → SceneHolds s → SceneHolds (with_flag s o flag)
flag_holds s o flag h = (change_holds s.world o _ (λ x k. k) h.0, h.1)

set_player_flag_holds : (s : Scene) (c : Caller) (args : List Datum) → SceneHolds s → MayCall c args → NativeGives (set_player_flag_row s c args)
set_player_flag_holds s c (object o ∷ x ∷ []) h k =
    tested (is_valid s o) _ _ (h, tt) (tested (may s.world c.call.programmer administer) _ _ (h, tt)
    (scene_if (is_true x) _ _ (flag_holds s o (is_true x) h) (flag_holds (link_closed s o) o (is_true x) (closed_scene s o h)), refl))
set_player_flag_holds s c _ h k = (h, tt)

objects_hold : (s : Scene) (c : Caller) (name : Text) (args : List Datum) → SceneHolds s → MayCall c args → IfThere NativeGives (objects s c name args)
objects_hold =
    group_holds object_rows
    (valid_holds, (is_player_holds, (parent_holds, (children_hold, (max_object_holds, (players_hold, (create_holds, (recycle_holds, (chparent_holds, (move_holds, (set_player_flag_holds, tt)))))))))))

-- ---- properties

listed_texts : (ts : List Text) → Each IsPrinted ts → AreData (of_list (as_texts ts))
listed_texts [] h = refl
listed_texts (t ∷ ts) h = onto_data (text t) (of_list (as_texts ts)) h.0 (listed_texts ts h.1)

letter_printed : (b : Bool) (t : Text) → IsPrinted t → IsPrinted (letter_if b t)
letter_printed true t h = h
letter_printed false t h = refl

slot_bits_printed : (t : Slot) → IsPrinted (slot_bits t)
slot_bits_printed t =
    text_then (letter_if t.readable (codes "r")) (letter_if t.writable (codes "w") ++ letter_if t.changeable (codes "c")) (letter_printed t.readable (codes "r") refl)
    (text_then (letter_if t.writable (codes "w")) (letter_if t.changeable (codes "c")) (letter_printed t.writable (codes "w") refl) (letter_printed t.changeable (codes "c") refl))

properties_hold : (s : Scene) (c : Caller) (args : List Datum) → SceneHolds s → MayCall c args → NativeGives (properties_row s c args)
properties_hold s c (object o ∷ []) h k =
    there s invalid_argument (object_at s.world o) _ h (λ x e.
    tested (may s.world c.call.programmer (list_members o)) _ _ (h, tt) (h, listed_texts x.defines (object_there s.world o x h.0 e).1.1.1.1.0))
properties_hold s c _ h k = (h, tt)

slot_is : (s : Scene) (o : ℤ) (p : Text) (t : Slot) → SceneHolds s → slot_at s.world o p ≡ Some t → SlotHolds t
slot_is s o p t h e = unless_none SlotHolds (slot_at s.world o p) t (slot_there s.world o p h.0) e

info_holds : (s : Scene) (c : Caller) (args : List Datum) → SceneHolds s → MayCall c args → NativeGives (property_info_row s c args)
info_holds s c (object o ∷ text p ∷ []) h k =
    there s invalid_argument (object_at s.world o) _ h (λ x e. there s property_not_found (slot_at s.world o p) _ h (λ t d.
    tested (may s.world c.call.programmer (act.read_slot o p)) _ _ (h, tt)
    (h, data_of (object t.owner ∷ text (slot_bits t) ∷ []) ((slot_is s o p t h d).0, (slot_bits_printed t, tt)))))
info_holds s c _ h k = (h, tt)

-- the owner in a list that begins with it
owner_in : (owner : ℤ) (xs : Data) → IsValue (list (item (object owner) xs)) → InRange owner
owner_in owner xs h = first_datum (object owner) xs h

set_info_holds : (s : Scene) (c : Caller) (args : List Datum) → SceneHolds s → MayCall c args → NativeGives (set_property_info_row s c args)
set_info_holds s c (object o ∷ text p ∷ list (item (object owner) (item (text b) no_data)) ∷ []) h k =
    there s invalid_argument (object_at s.world o) _ h (λ x e. there s property_not_found (slot_at s.world o p) _ h (λ t d.
    tested (may s.world c.call.programmer (act.write_slot o p)) _ _ (h, tt) (tested (may s.world c.call.programmer (change_owner t.owner owner)) _ _ (h, tt)
    (tested (are_bits (codes "rwc") b && is_valid s owner) _ _ (h, tt)
    ((slot_holds s.world o p (with_slot_bits t owner b) (owner_in owner (item (text b) no_data) (((((k.1).0).1).1).0), (slot_is s o p t h d).1) h.0, h.1), refl)))))
set_info_holds s c _ h k = (h, tt)

is_clear_holds : (s : Scene) (c : Caller) (args : List Datum) → SceneHolds s → MayCall c args → NativeGives (is_clear_property_row s c args)
is_clear_holds s c (object o ∷ text p ∷ []) h k =
    there s invalid_argument (object_at s.world o) _ h (λ x e. there s property_not_found (slot_at s.world o p) _ h (λ t d.
    tested (may s.world c.call.programmer (act.read_slot o p)) _ _ (h, tt) (h, truth_value (is_none t.content))))
is_clear_holds s c _ h k = (h, tt)

clear_holds : (s : Scene) (c : Caller) (args : List Datum) → SceneHolds s → MayCall c args → NativeGives (clear_property_row s c args)
clear_holds s c (object o ∷ text p ∷ []) h k =
    there s invalid_argument (object_at s.world o) _ h (λ y e. there s property_not_found (slot_at s.world o p) _ h (λ t d.
    there s invalid_argument (object_at s.world o) _ h (λ x i.
    tested (may s.world c.call.programmer (act.write_slot o p)) _ _ (h, tt) (tested (not (defines_it x p)) _ _ (h, tt)
    ((slot_holds s.world o p (record t { content = None }) ((slot_is s o p t h d).0, tt) h.0, h.1), refl)))))
clear_holds s c _ h k = (h, tt)

add_holds : (s : Scene) (c : Caller) (args : List Datum) → SceneHolds s → MayCall c args → NativeGives (add_property_row s c args)
add_holds s c (object o ∷ text p ∷ v ∷ list (item (object owner) (item (text b) no_data)) ∷ []) h k =
    let a = (k.1).0 in
    there s invalid_argument (object_at s.world o) _ h (λ x e.
    tested (may s.world c.call.programmer (change_members o)) _ _ (h, tt) (tested (may s.world c.call.programmer (change_owner c.call.programmer owner)) _ _ (h, tt)
    (tested (is_new_name s o p && are_bits (codes "rwc") b && is_valid s owner) _ _ (h, tt)
    ((property_added_holds s.world o p (slot_with v owner b) ((a.1).0) (owner_in owner (item (text b) no_data) ((((a.1).1).1).0), ((a.1).1).0) h.0, h.1), refl))))
add_holds s c _ h k = (h, tt)

delete_holds : (s : Scene) (c : Caller) (args : List Datum) → SceneHolds s → MayCall c args → NativeGives (delete_property_row s c args)
delete_holds s c (object o ∷ text p ∷ []) h k =
    there s invalid_argument (object_at s.world o) _ h (λ x e.
    tested (defines_it x p) _ _ (h, tt) (tested (may s.world c.call.programmer (change_members o)) _ _ (h, tt) ((property_deleted_holds s.world o p h.0, h.1), refl)))
delete_holds s c _ h k = (h, tt)

properties_group : (s : Scene) (c : Caller) (name : Text) (args : List Datum) → SceneHolds s → MayCall c args → IfThere NativeGives (properties s c name args)
properties_group = group_holds property_rows (properties_hold, (info_holds, (set_info_holds, (add_holds, (delete_holds, (is_clear_holds, (clear_holds, tt)))))))

-- ---- verbs

verb_in_place : (vs : List Verb) (n : ℕ) → Each VerbHolds vs → IfThere VerbHolds (in_place vs n)
verb_in_place [] n h = tt
verb_in_place (v ∷ vs) zero h = h.0
verb_in_place (v ∷ vs) (suc n) h = verb_in_place vs n h.1

verb_there : (s : Scene) (o : ℤ) (d : Datum) (f : ℕ → Verb → NativeEffect) → SceneHolds s → ((n : ℕ) (v : Verb) → VerbHolds v → NativeGives (f n v))
    → NativeGives (if_verb s o d f)
verb_there s o d f h more =
    there s invalid_argument (object_at s.world o) _ h (λ x e. there s verb_not_found (verb_place x.verbs d) _ h (λ n k.
    there s verb_not_found (in_place x.verbs n) (f n) h (λ v l.
    more n v (unless_none VerbHolds (in_place x.verbs n) v (verb_in_place x.verbs n (verbs_of_object x (object_there s.world o x h.0 e).1)) l))))

names_printed : (vs : List Verb) → Each VerbHolds vs → Each IsPrinted (verb_names vs)
names_printed [] h = tt
names_printed (v ∷ vs) h = ((h.0).0, names_printed vs h.1)

verbs_hold : (s : Scene) (c : Caller) (args : List Datum) → SceneHolds s → MayCall c args → NativeGives (verbs_row s c args)
verbs_hold s c (object o ∷ []) h k =
    there s invalid_argument (object_at s.world o) _ h (λ x e.
    tested (may s.world c.call.programmer (list_members o)) _ _ (h, tt)
    (h, listed_texts (verb_names x.verbs) (names_printed x.verbs (verbs_of_object x (object_there s.world o x h.0 e).1))))
verbs_hold s c _ h k = (h, tt)

verb_bits_printed : (v : Verb) → IsPrinted (verb_bits v)
verb_bits_printed v =
    text_then (letter_if v.readable (codes "r")) (letter_if v.writable (codes "w") ++ (letter_if v.callable (codes "x") ++ letter_if v.debug (codes "d"))) (letter_printed v.readable (codes "r") refl)
    (text_then (letter_if v.writable (codes "w")) (letter_if v.callable (codes "x") ++ letter_if v.debug (codes "d")) (letter_printed v.writable (codes "w") refl)
    (text_then (letter_if v.callable (codes "x")) (letter_if v.debug (codes "d")) (letter_printed v.callable (codes "x") refl) (letter_printed v.debug (codes "d") refl)))

verb_info_holds : (s : Scene) (c : Caller) (args : List Datum) → SceneHolds s → MayCall c args → NativeGives (verb_info_row s c args)
verb_info_holds s c (object o ∷ d ∷ []) h k =
    verb_there s o d _ h (λ n v i. tested (may s.world c.call.programmer (read_verb o n)) _ _ (h, tt)
    (h, data_of (object v.owner ∷ text (verb_bits v) ∷ text v.names ∷ []) ((i.1).0, (verb_bits_printed v, (i.0, tt)))))
verb_info_holds s c _ h k = (h, tt)

module _ (owner : ℤ) (b names : Text) (i : IsValue (list (item (object owner) (item (text b) (item (text names) no_data))))) where
  info_owner : InRange owner
  info_owner = first_datum (object owner) (item (text b) (item (text names) no_data)) i

  info_names : IsPrinted names
  info_names = first_datum (text names) no_data (later_data (text b) (item (text names) no_data) (later_data (object owner) (item (text b) (item (text names) no_data)) i))

set_verb_info_holds : (s : Scene) (c : Caller) (args : List Datum) → SceneHolds s → MayCall c args → NativeGives (set_verb_info_row s c args)
set_verb_info_holds s c (object o ∷ d ∷ list (item (object owner) (item (text b) (item (text names) no_data))) ∷ []) h k =
    let i : IsValue (list (item (object owner) (item (text b) (item (text names) no_data)))) = ((((k.1).0).1).1).0 in
    verb_there s o d _ h (λ n v m.
    tested (may s.world c.call.programmer (write_verb o n)) _ _ (h, tt) (tested (may s.world c.call.programmer (change_owner v.owner owner)) _ _ (h, tt)
    (tested (info_fits s owner b names) _ _ (h, tt)
    ((verb_changed_holds s.world o n (with_info owner b names) (λ u l. (info_names owner b names i, (info_owner owner b names i, (l.1).1))) h.0, h.1), refl))))
set_verb_info_holds s c _ h k = (h, tt)

part_printed : (p : ObjectPart) → IsPrinted (object_part_text p)
part_printed no_object = refl
part_printed any_object = refl
part_printed this_object = refl

pub spaced_printed : (ts : List Text) → Each IsPrinted ts → IsPrinted (spaced ts)
spaced_printed [] h = refl
spaced_printed (t ∷ []) h = h.0
spaced_printed (t ∷ u ∷ ts) h = text_then t (32 ∷ spaced (u ∷ ts)) h.0 (spaced_printed (u ∷ ts) h.1)

slashes_printed : (ps : List Phrase) → Each (Each IsPrinted) ps → IsPrinted (between_slashes ps)
slashes_printed [] h = refl
slashes_printed (p ∷ []) h = spaced_printed p h.0
slashes_printed (p ∷ q ∷ ps) h = text_then (spaced p) (47 ∷ between_slashes (q ∷ ps)) (spaced_printed p h.0) (slashes_printed (q ∷ ps) h.1)

set_printed : (ss : List (List Phrase)) (n : ℕ) → Each (Each (Each IsPrinted)) ss → IsPrinted (set_text ss n)
set_printed [] n h = refl
set_printed (ps ∷ more) zero h = slashes_printed ps h.0
set_printed (ps ∷ more) (suc n) h = set_printed more n h.1

prepositions_printed : Each (Each (Each IsPrinted)) sets
prepositions_printed = (
  ((refl, tt), ((refl, tt), tt)),
  (
    ((refl, tt), ((refl, tt), tt)),
    (
      ((refl, (refl, (refl, tt))), tt),
      (
        ((refl, tt), ((refl, tt), ((refl, tt), tt))),
        (
          ((refl, (refl, (refl, tt))), ((refl, tt), ((refl, tt), ((refl, tt), tt)))),
          (
            ((refl, (refl, tt)), ((refl, (refl, tt)), ((refl, tt), tt))),
            (
              ((refl, tt), tt),
              (
                ((refl, tt), tt),
                (
                  ((refl, tt), ((refl, tt), ((refl, tt), tt))),
                  (((refl, tt), tt), (((refl, tt), tt), (((refl, tt), ((refl, tt), tt)), (((refl, tt), tt), (((refl, tt), tt), (((refl, tt), ((refl, (refl, tt)), tt)), tt)))))),
                ),
              ),
            ),
          ),
        ),
      ),
    ),
  ),
)

preposition_printed : (p : PrepositionPart) → IsPrinted (preposition_text p)
preposition_printed no_preposition = refl
preposition_printed any_preposition = refl
preposition_printed (preposition_set n) = set_printed sets n prepositions_printed

verb_args_hold : (s : Scene) (c : Caller) (args : List Datum) → SceneHolds s → MayCall c args → NativeGives (verb_args_row s c args)
verb_args_hold s c (object o ∷ d ∷ []) h k =
    verb_there s o d _ h (λ n v i. tested (may s.world c.call.programmer (read_verb o n)) _ _ (h, tt) (
      h,
      data_of (text (object_part_text v.direct) ∷ text (preposition_text v.preposition) ∷ text (object_part_text v.indirect) ∷ [])
          (part_printed v.direct, (preposition_printed v.preposition, (part_printed v.indirect, tt))),
    ))
verb_args_hold s c _ h k = (h, tt)

-- ---- the number of a set is less than their count

set_less : (t : Text) (ss : List (List Phrase)) → IfThere (λ n. n < length ss) (set_with t ss)
set_less t [] = tt
set_less t (ps ∷ more) = go (has_member t ps) (set_with t more) (set_less t more)
  where
    go : (b : Bool) (m : Option ℕ) → IfThere (λ n. n < length more) m → IfThere (λ n. n < length (ps ∷ more)) (if b then Some zero else option_map suc m)
    go true m h = omega arith
    go false None h = tt
    go false (Some n) h = let l : n < length more = h in omega (arith, l)

preposition_holds : (t : Text) → IfThere PrepositionHolds (preposition_part t)
preposition_holds t = go (same_text t (codes "none")) (same_text t (codes "any"))
  where
    named : (m : Option ℕ) → IfThere (λ n. n < 15) m → IfThere PrepositionHolds (option_map preposition_set m)
    named None h = tt
    named (Some n) h = let l : n < 15 = h in le-leb n 14 (omega (arith, l))

    go : (a b : Bool) → IfThere PrepositionHolds (if a then Some no_preposition else if b then Some any_preposition else option_map preposition_set (set_with t sets))
    go true b = tt
    go false true = tt
    go false false = named (set_with t sets) (set_less t sets)

three_hold : (d : Option ObjectPart) (p : Option PrepositionPart) (i : Option ObjectPart) → IfThere PrepositionHolds p
    → IfThere (λ a. PrepositionHolds (a.preposition)) (all_three d p i)
three_hold (Some d) (Some p) (Some i) h = h
three_hold None p i h = tt
three_hold (Some d) None i h = tt
three_hold (Some d) (Some p) None h = tt

specifier_holds : (t p i : Text) (a : Specifier) → specifier t p i ≡ Some a → PrepositionHolds a.preposition
specifier_holds t p i a e = unless_none (λ x. PrepositionHolds (x.preposition)) (specifier t p i) a (three_hold (object_part t) (preposition_part p) (object_part i) (preposition_holds p)) e

set_verb_args_hold : (s : Scene) (c : Caller) (args : List Datum) → SceneHolds s → MayCall c args → NativeGives (set_verb_args_row s c args)
set_verb_args_hold s c (object o ∷ d ∷ list (item (text t) (item (text p) (item (text i) no_data))) ∷ []) h k =
    verb_there s o d _ h (λ n v m.
    tested (may s.world c.call.programmer (write_verb o n)) _ _ (h, tt)
    (there s invalid_argument (specifier t p i) _ h (λ a e.
    ((verb_changed_holds s.world o n (with_specifier a) (λ u l. (l.0, ((l.1).0, (specifier_holds t p i a e, ((l.1).1).1)))) h.0, h.1), refl))))
set_verb_args_hold s c _ h k = (h, tt)

add_verb_holds : (s : Scene) (c : Caller) (args : List Datum) → SceneHolds s → MayCall c args → NativeGives (add_verb_row s c args)
add_verb_holds s c (object o ∷ list (item (object owner) (item (text b) (item (text names) no_data))) ∷ list (item (text t) (item (text p) (item (text i) no_data))) ∷ []) h k =
    let j : IsValue (list (item (object owner) (item (text b) (item (text names) no_data)))) = (((k.1).0).1).0 in
    there s invalid_argument (object_at s.world o) _ h (λ x e.
    tested (may s.world c.call.programmer (change_members o)) _ _ (h, tt) (tested (may s.world c.call.programmer (change_owner c.call.programmer owner)) _ _ (h, tt)
    (tested (info_fits s owner b names) _ _ (h, tt)
    (there s invalid_argument (specifier t p i) _ h (λ a d.
    ((verb_added_holds s.world o (new_verb a owner b names) (info_names owner b names j, (info_owner owner b names j, (specifier_holds t p i a d, (refl, refl)))) h.0, h.1), refl))))))
add_verb_holds s c _ h k = (h, tt)

delete_verb_holds : (s : Scene) (c : Caller) (args : List Datum) → SceneHolds s → MayCall c args → NativeGives (delete_verb_row s c args)
delete_verb_holds s c (object o ∷ d ∷ []) h k =
    verb_there s o d _ h (λ n v i. tested (may s.world c.call.programmer (change_members o)) _ _ (h, tt) ((verb_deleted_holds s.world o n h.0, h.1), refl))
delete_verb_holds s c _ h k = (h, tt)

verb_code_holds : (s : Scene) (c : Caller) (args : List Datum) → SceneHolds s → MayCall c args → NativeGives (verb_code_row s c args)
verb_code_holds s c (object o ∷ d ∷ []) h k =
    verb_there s o d _ h (λ n v i. tested (may s.world c.call.programmer (read_verb o n)) _ _ (h, tt)
    (h, listed_texts (canonical_lines v.program) (code_is_printed v.program (((i.1).1).1).0)))
verb_code_holds s c _ h k = (h, tt)

-- ---- programs that are read

fault_printed : (f : Fault) → IsPrinted (fault_text f)
fault_printed f = text_then (decimal f.line) (codes ": " ++ fault_name f.kind) (decimal_text f.line) (name_is f.kind)
  where
    name_is : (k : FaultKind) → IsPrinted (fault_name k)
    name_is character = refl
    name_is unclosed = refl
    name_is token = refl
    name_is nesting = refl
    name_is number = refl
    name_is loop_name = refl

fault_is_value : (f : Fault) → IsValue (fault_value f)
fault_is_value f = data_of (text (fault_text f) ∷ []) (fault_printed f, tt)

-- a text of no more characters than a value may weigh
pub read_holds : (t : Text) (p : Program) → length t ≤ 65536 → parsed t ≡ program p → ProgramHolds p
read_holds t p l e =
    let few : program_nodes p ≤ 2 * length t = parsed_few t p e in (parsed_is_tree t p e, below_in_range (program_nodes p) (omega (arith, l, few)))

pub lines_weigh : (xs : Data) → length (joined_lines (texts_of xs)) ≤ data_weight xs
lines_weigh no_data = omega arith
lines_weigh (item (integer n) xs) = let l : length (joined_lines (texts_of xs)) ≤ data_weight xs = lines_weigh xs in omega (arith, l)
lines_weigh (item (object n) xs) = let l : length (joined_lines (texts_of xs)) ≤ data_weight xs = lines_weigh xs in omega (arith, l)
lines_weigh (item (text t) xs) =
    let l : length (joined_lines (texts_of xs)) ≤ data_weight xs = lines_weigh xs in
    let k : length (t ++ 10 ∷ joined_lines (texts_of xs)) ≡ length t + length (10 ∷ joined_lines (texts_of xs)) = length-append t (10 ∷ joined_lines (texts_of xs)) in
    omega (arith, l, k)
lines_weigh (item (error n) xs) = let l : length (joined_lines (texts_of xs)) ≤ data_weight xs = lines_weigh xs in omega (arith, l)
lines_weigh (item (list ys) xs) = let l : length (joined_lines (texts_of xs)) ≤ data_weight xs = lines_weigh xs in omega (arith, l)

allowed_weighs : (v : Datum) → IsTrue (is_allowed v) → weight v ≤ 65536
allowed_weighs v h = leb-true (weight v) 65536 h

set_verb_code_holds : (s : Scene) (c : Caller) (args : List Datum) → SceneHolds s → MayCall c args → NativeGives (set_verb_code_row s c args)
set_verb_code_holds s c (object o ∷ d ∷ list lines ∷ []) h k =
    verb_there s o d _ h (λ n v i. tested (may s.world c.call.programmer (program_verb o n)) _ _ (h, tt) (go n (parsed_lines (texts_of lines)) refl))
  where
    short : length (joined_lines (texts_of lines)) ≤ 65536
    short =
        let l : length (joined_lines (texts_of lines)) ≤ data_weight lines = lines_weigh lines in
        let m : weight (list (of_list (object o ∷ d ∷ list lines ∷ []))) ≤ 65536 = allowed_weighs (list (of_list (object o ∷ d ∷ list lines ∷ []))) (k.1).1 in omega (arith, l, m)

    go : (n : ℕ) (r : Parsed) → parsed_lines (texts_of lines) ≡ r → NativeGives (programmed s o n r)
    go n (program p) e =
        ((verb_changed_holds s.world o n (λ v. record v { program = p }) (λ v l. (l.0, ((l.1).0, (((l.1).1).0, read_holds (joined_lines (texts_of lines)) p short e)))) h.0, h.1), refl)
    go n (faulty f) e = (h, fault_is_value f)
set_verb_code_holds s c _ h k = (h, tt)

eval_holds : (s : Scene) (c : Caller) (args : List Datum) → SceneHolds s → MayCall c args → NativeGives (eval_row s c args)
eval_holds s c (text t ∷ []) h k = tested (may s.world c.call.programmer evaluate) _ _ (h, tt) (go (parsed t) refl)
  where
    short : length t ≤ 65536
    short = let m : weight (list (of_list (text t ∷ []))) ≤ 65536 = allowed_weighs (list (of_list (text t ∷ []))) (k.1).1 in omega (arith, m)

    own : CallHolds c.call
    own = ((k.0).1).0

    go : (r : Parsed) → parsed t ≡ r → NativeGives (evaluated s c t r)
    go (program p) e = (h, ((refl, (k.1).0), ((refl, (own.0, (refl, ((((own.1).1).1).0, refl)))), (read_holds t p short e, refl))))
    go (faulty f) e = (h, data_of (integer (pos 0) ∷ fault_value f ∷ []) (refl, (fault_is_value f, tt)))
eval_holds s c _ h k = (h, tt)

verbs_group : (s : Scene) (c : Caller) (name : Text) (args : List Datum) → SceneHolds s → MayCall c args → IfThere NativeGives (verbs s c name args)
verbs_group =
    group_holds verb_rows
    (verbs_hold, (verb_info_holds, (set_verb_info_holds, (verb_args_hold, (set_verb_args_hold, (add_verb_holds, (delete_verb_holds, (verb_code_holds, (set_verb_code_holds, (eval_holds, tt))))))))))

-- ---- tasks

pub id_in_range : (s : Scene) → SceneHolds s → has_ids s ≡ true → InRange (next_id s)
id_in_range s h e =
    let n : s.number ≤ 33554431 = leb-true s.number 33554431 (h.1).0 in let l : suc s.ids_used ≤ 64 = leb-true (suc s.ids_used) 64 e in
    below_in_range ((s.number - 1) * 64 + suc s.ids_used) (omega (arith, n, l))

own_id : (s : Scene) (r : ℤ × Scene) → with_own_id s ≡ Some r → SceneHolds s → InRange r.0 × SceneHolds r.1
own_id s r e h = unless_none (λ (x : ℤ × Scene). InRange x.0 × SceneHolds x.1) (named_or_next s s.task) r (go s.task (((h.1).1).1).1) e
  where
    by : (b : Bool) → has_ids s ≡ b → IfThere (λ (x : ℤ × Scene). InRange x.0 × SceneHolds x.1) (if b then Some (next_id s, record (id_taken s) { task = Some (next_id s) }) else None)
    by true i = let j : InRange (next_id s) = id_in_range s h i in (j, (h.0, ((h.1).0, (((h.1).1).0, ((((h.1).1).1).0, j)))))
    by false i = tt

    go : (own : Option ℤ) → IfThere InRange own → IfThere (λ (x : ℤ × Scene). InRange x.0 × SceneHolds x.1) (named_or_next s own)
    go (Some i) k = (k, h)
    go None k = by (has_ids s) refl

waits_hold : (s : Scene) (f : ℤ × Scene → NativeEffect) → SceneHolds s → ((r : ℤ × Scene) → InRange r.0 → SceneHolds r.1 → NativeGives (f r)) → NativeGives (waits_with_id s f)
waits_hold s f h more = there s limit_exceeded (with_own_id s) f h (λ r e. let k = own_id s r e h in more r k.0 k.1)

line_holds : (s : Scene) (t : Text) (m : Option ℤ) → SceneHolds s → SceneHolds (line_told s t m)
line_holds s t None h = h
line_holds s t (Some c) h = h

notify_holds : (s : Scene) (c : Caller) (args : List Datum) → SceneHolds s → MayCall c args → NativeGives (notify_row s c args)
notify_holds s c (object o ∷ text t ∷ []) h k =
    tested (may s.world c.call.programmer (act_as o)) _ _ (h, tt)
    (tested (has_lines s (connection_of s.world o)) _ _ (h, tt) (line_holds s t (connection_of s.world o) h, refl))
notify_holds s c _ h k = (h, tt)

read_waits : (s : Scene) (c : Caller) (args : List Datum) → SceneHolds s → MayCall c args → NativeGives (read_row s c args)
read_waits s c args h k =
    tested (may s.world c.call.programmer (act_as c.player)) _ _ (h, tt) (there s invalid_argument (connection_of s.world c.player) (reads_on s) h (λ n e.
    tested (is_none (reader_of s.world n)) _ _ (h, tt)
    (waits_hold s (λ r. waits r.1 (reading_on n)) h (λ r i g. (g, unless_none InRange (connection_of s.world c.player) n (connection_in_range s.world c.player h.0) e)))))

pub moment_is_number : (s : Scene) (n : ℕ) → IsNumber (moment_after s n)
moment_is_number s n = below_in_range (min (s.moment + n) 2147483647) (omega arith)

suspend_holds : (s : Scene) (c : Caller) (args : List Datum) → SceneHolds s → MayCall c args → NativeGives (suspend_row s c args)
suspend_holds s c [] h k = waits_hold s (λ r. waits r.1 idle) h (λ r i g. (g, tt))
suspend_holds s c (integer (pos n) ∷ []) h k =
    waits_hold s (λ r. waits r.1 (timed (moment_after s n) zero_value)) h (λ r i g. (g, (moment_is_number s n, refl)))
suspend_holds s c (integer (negsuc n) ∷ []) h k = (h, tt)
suspend_holds s c _ h k = (h, tt)

resumes_hold : (s : Scene) (c : Caller) (i : ℤ) (v : Datum) → SceneHolds s → IsKept v → NativeGives (resumes s c i v)
resumes_hold s c i v h l =
    there s invalid_argument (at s.world.tasks i) _ h (λ t e.
    tested (may s.world c.call.programmer (control_task (task_programmer t))) _ _ (h, tt) (tested (is_suspended t.waiting) _ _ (h, tt)
    (let k = task_there s.world i t h.0 e in
    ((task_put s.world i (record t { waiting = timed s.moment v }) k.0 ((k.1).0, ((((h.1).1).0, l), ((k.1).1).1)) h.0, h.1), refl))))

resume_holds : (s : Scene) (c : Caller) (args : List Datum) → SceneHolds s → MayCall c args → NativeGives (resume_row s c args)
resume_holds s c (integer i ∷ []) h k = resumes_hold s c i zero_value h refl
resume_holds s c (integer i ∷ v ∷ []) h k = resumes_hold s c i v h (((k.1).0).1).0
resume_holds s c _ h k = (h, tt)

kills_hold : (s : Scene) (c : Caller) (i : ℤ) → SceneHolds s → NativeGives (kills s c i)
kills_hold s c i h =
    there s invalid_argument (at s.world.tasks i) _ h (λ t e.
    tested (may s.world c.call.programmer (control_task (task_programmer t))) _ _ (h, tt) ((task_gone s.world i h.0, h.1), refl))

kill_task_holds : (s : Scene) (c : Caller) (args : List Datum) → SceneHolds s → MayCall c args → NativeGives (kill_task_row s c args)
kill_task_holds s c (integer i ∷ []) h k = tested (is_own_id i s.task) _ _ (kills_hold s c i h) h
kill_task_holds s c _ h k = (h, tt)

innermost_holds : (es : List Entry) → EntriesHold es → IfThere CallHolds (innermost es)
innermost_holds [] h = tt
innermost_holds (frame_entry f ∷ es) h = (h.0).0
innermost_holds (native_entry n ∷ es) h = innermost_holds es h.1

due_is_value : (w : Waiting) → WaitingHolds w → IsValue (due_value w)
due_is_value (forked m) h = h
due_is_value (timed m v) h = h.0
due_is_value idle h = refl
due_is_value (reading_on k) h = refl

task_is_value : (i : ℤ) (w : Waiting) (m : Option Call) → InRange i → WaitingHolds w → IfThere CallHolds m → IsValue (task_value i w m)
task_is_value i w None h k l = data_of (integer i ∷ due_value w ∷ []) (h, (due_is_value w k, tt))
task_is_value i w (Some d) h k l =
    data_of (integer i ∷ due_value w ∷ object d.programmer ∷ object d.definer ∷ text d.verb ∷ object d.this ∷ [])
    (h, (due_is_value w k, ((((l.1).1).1).0, (((l.1).1).0, ((((l.1).1).1).1, (l.0, tt))))))

tasks_are_values : (s : Scene) (c : Caller) (es : List (ℤ × Task)) → Each (NumberedHolds TaskHolds) es → AreValues (listed_tasks s c es)
tasks_are_values s c [] h = tt
tasks_are_values s c (e ∷ es) h = go (is_wizard s.world c.call.programmer || int_eq (task_programmer e.1) c.call.programmer) (tasks_are_values s c es h.1)
  where
    go : (b : Bool) → AreValues (listed_tasks s c es)
        → AreValues (if b then task_value e.0 (e.1).waiting (innermost (e.1).entries) ∷ listed_tasks s c es else listed_tasks s c es)
    go true later = (task_is_value e.0 (e.1).waiting (innermost (e.1).entries) (h.0).0 (((h.0).1).1).0 (innermost_holds (e.1).entries (((h.0).1).1).1), later)
    go false later = later

queued_hold : (s : Scene) (c : Caller) (args : List Datum) → SceneHolds s → MayCall c args → NativeGives (queued_tasks_row s c args)
queued_hold s c args h k = (h, data_of (listed_tasks s c s.world.tasks) (tasks_are_values s c s.world.tasks ((h.0).1).0))

task_id_holds : (s : Scene) (c : Caller) (args : List Datum) → SceneHolds s → MayCall c args → NativeGives (task_id_row s c args)
task_id_holds s c args h k = waits_hold s (λ r. answers_with r.1 (integer r.0)) h (λ r i g. (g, i))

ticks_hold : (s : Scene) (c : Caller) (args : List Datum) → SceneHolds s → MayCall c args → NativeGives (ticks_left_row s c args)
ticks_hold s c args h k = (h, (((h.1).1).1).0)

time_holds : (s : Scene) (c : Caller) (args : List Datum) → SceneHolds s → MayCall c args → NativeGives (time_row s c args)
time_holds s c args h k = (h, ((h.1).1).0)

-- an error with its code, its message and its value, where it is raised
pub raised_holds : (v : Datum) (m : Text) (x : Datum) → IsTrue (nests_within (weight_limit - 1) v) → IsTrue (nests_within (weight_limit - 1) x) → IsKept v → IsPrinted m → IsKept x
    → IsKept (list (of_list (v ∷ text m ∷ x ∷ list no_data ∷ [])))
raised_holds v m x i j h k l =
    list_kept (of_list (v ∷ text m ∷ x ∷ list no_data ∷ []))
    (both_hold (nests_within (weight_limit - 1) v) (nests_within (weight_limit - 1) x && true) i (both_hold (nests_within (weight_limit - 1) x) true j refl)) (omega arith)
    (both_hold (is_short v) (is_short x && true) (kept_short v h) (both_hold (is_short x) true (kept_short x l) refl))
    (data_of (v ∷ text m ∷ x ∷ list no_data ∷ []) (kept_value v h, (k, (kept_value x l, (refl, tt)))))

raise_holds : (s : Scene) (c : Caller) (args : List Datum) → SceneHolds s → MayCall c args → NativeGives (raise_row s c args)
raise_holds s c (v ∷ []) h k =
    let w : weight (list (of_list (v ∷ []))) ≤ 65536 = allowed_weighs (list (of_list (v ∷ []))) (k.1).1 in
    (h, (raised_holds v (to_text v) zero_value (nests_by_weight (weight_limit - 1) v (omega (arith, w))) refl ((k.1).0).0 (text_of v (kept_value v ((k.1).0).0)) refl, refl))
raise_holds s c (v ∷ text m ∷ []) h k =
    let w : weight (list (of_list (v ∷ text m ∷ []))) ≤ 65536 = allowed_weighs (list (of_list (v ∷ text m ∷ []))) (k.1).1 in
    (h, (raised_holds v m zero_value (nests_by_weight (weight_limit - 1) v (omega (arith, w))) refl ((k.1).0).0 (((k.1).0).1).0 refl, refl))
raise_holds s c (v ∷ text m ∷ x ∷ []) h k =
    let w : weight (list (of_list (v ∷ text m ∷ x ∷ []))) ≤ 65536 = allowed_weighs (list (of_list (v ∷ text m ∷ x ∷ []))) (k.1).1 in (
      h,
      (
        raised_holds v m x (nests_by_weight (weight_limit - 1) v (omega (arith, w))) (nests_by_weight (weight_limit - 1) x (omega (arith, w))) ((k.1).0).0 (((k.1).0).1).0
            ((((k.1).0).1).1).0,
        refl,
      ),
    )
raise_holds s c _ h k = (h, tt)

perms_hold : (s : Scene) (c : Caller) (args : List Datum) → SceneHolds s → MayCall c args → NativeGives (set_task_perms_row s c args)
perms_hold s c (object o ∷ []) h k = tested (is_valid s o) _ _ (h, tt) (tested (may s.world c.call.programmer (act_as o)) _ _ (h, tt) (h, ((k.1).0).0))
perms_hold s c _ h k = (h, tt)

programmer_in_range : (cs : List Call) → Each CallHolds cs → InRange (programmer_of (first_of cs))
programmer_in_range [] h = refl
programmer_in_range (c ∷ cs) h = (((((h.0).1).1).1)).0

caller_perms_hold : (s : Scene) (c : Caller) (args : List Datum) → SceneHolds s → MayCall c args → NativeGives (caller_perms_row s c args)
caller_perms_hold s c args h k = (h, programmer_in_range c.callers ((k.0).1).1)

random_up_to_holds : (s : Scene) (n : ℕ) → SceneHolds s → InRange (pos n) → NativeGives (random_up_to s n)
random_up_to_holds s zero h k = (h, tt)
random_up_to_holds s (suc m) h k =
    let l : suc m < 2 ^ 31 = small_number (suc m) k in let below : random_word s % suc m < suc m = mod-lt (random_word s) (omega arith) in
    (h, below_in_range (1 + (random_word s % suc m)) (omega (arith, l, below)))

random_holds : (s : Scene) (c : Caller) (args : List Datum) → SceneHolds s → MayCall c args → NativeGives (random_row s c args)
random_holds s c [] h k = random_up_to_holds s 2147483647 h refl
random_holds s c (integer (pos m) ∷ []) h k = random_up_to_holds s m h ((k.1).0).0
random_holds s c (integer (negsuc m) ∷ []) h k = random_up_to_holds s 0 h refl
random_holds s c _ h k = (h, tt)

connected_are_values : (w : World) (es : List (ℤ × Object)) → Each (NumberedHolds ObjectHolds) es → AreValues (connected_among w es)
connected_are_values w [] h = tt
connected_are_values w (e ∷ es) h = go (is_some (connection_of w e.0)) (connected_are_values w es h.1)
  where
    go : (b : Bool) → AreValues (connected_among w es) → AreValues (if b then object e.0 ∷ connected_among w es else connected_among w es)
    go true later = ((h.0).0, later)
    go false later = later

connected_hold : (s : Scene) (c : Caller) (args : List Datum) → SceneHolds s → MayCall c args → NativeGives (connected_players_row s c args)
connected_hold s c args h k = (h, data_of (connected_among s.world s.world.objects) (connected_are_values s.world s.world.objects (h.0).0))

boot_holds : (s : Scene) (c : Caller) (args : List Datum) → SceneHolds s → MayCall c args → NativeGives (boot_player_row s c args)
boot_holds s c (object o ∷ []) h k =
    tested (is_valid s o) _ _ (h, tt) (tested (may s.world c.call.programmer (act_as o)) _ _ (h, tt) (closed_scene s o h, refl))
boot_holds s c _ h k = (h, tt)

dump_holds : (s : Scene) (c : Caller) (args : List Datum) → SceneHolds s → MayCall c args → NativeGives (dump_database_row s c args)
dump_holds s c args h k = tested (may s.world c.call.programmer administer) _ _ (h, tt) (h, refl)

shutdown_holds : (s : Scene) (c : Caller) (args : List Datum) → SceneHolds s → MayCall c args → NativeGives (shutdown_row s c args)
shutdown_holds s c args h k = tested (may s.world c.call.programmer administer) _ _ (h, tt) (h, refl)

tasks_group : (s : Scene) (c : Caller) (name : Text) (args : List Datum) → SceneHolds s → MayCall c args → IfThere NativeGives (tasks s c name args)
tasks_group =
    group_holds task_rows
    (notify_holds, (read_waits, (suspend_holds, (resume_holds, (kill_task_holds, (queued_hold, (task_id_holds, (ticks_hold, (raise_holds, (perms_hold, (caller_perms_hold, (random_holds, (time_holds, (connected_hold, (boot_holds, (dump_holds, (shutdown_holds, tt)))))))))))))))))

-- ---- all of them

values_hold : (s : Scene) (c : Caller) (name : Text) (args : List Datum) → SceneHolds s → MayCall c args → IfThere NativeGives (values s c name args)
values_hold s c name args h k = go (row_of value_rows name)
  where
    go : (m : Option PureFunction) → IfThere NativeGives (option_map (λ f. answers s (call_value f args)) m)
    go None = tt
    go (Some f) = (h, answer_value (call_value f args) (calls_give f args (kept_values args (k.1).0)))

later_holds : (o : Option NativeEffect) (later : Text → NativeEffect) (name : Text) → IfThere NativeGives o → NativeGives (later name) → NativeGives (or_later o later name)
later_holds None later name h k = k
later_holds (Some e) later name h k = h

-- arguments weigh no more than the list of them
each_kept : (vs : List Datum) → data_weight (of_list vs) ≤ weight_limit → AreValues vs → AreKept vs
each_kept [] l h = tt
each_kept (v ∷ vs) l h = (light_kept v (omega (arith, l)) h.0, each_kept vs (omega (arith, l)) h.1)

pub natives_hold : NativesHold
unfolding native
natives_hold s c name args h i j l =
    let w : weight (list (of_list args)) ≤ 65536 = allowed_weighs (list (of_list args)) l in
    let k : MayCall c args = (i, (each_kept args (omega (arith, w)) j, l)) in
    later_holds (values s c name args) _ name (values_hold s c name args h k) (later_holds (objects s c name args) _ name (objects_hold s c name args h k)
    (later_holds (properties s c name args) _ name (properties_group s c name args h k) (later_holds (verbs s c name args) _ name (verbs_group s c name args h k)
    (later_holds (tasks s c name args) _ name (tasks_group s c name args h k) (h, tt)))))

-- ---- later stages

object_made : (args : List Datum) → AreValues args → IsValue (new_object args)
object_made [] h = refl
object_made (v ∷ []) h = h.0
object_made (v ∷ w ∷ vs) h = object_made (w ∷ vs) h.1

pub stages_hold : StagesHold
unfolding native_turn
stages_hold s c n v h k m l = go n.name
  where
    staged_holds : (name : NativeName) (j : ℕ) (args : List Datum) → AreValues args → NativeGives (staged s c name j args v)
    staged_holds move_native (suc zero) (object what ∷ object place ∷ []) a = accepted_holds s c what place (is_true v) h k a.0 (a.1).0
    staged_holds move_native (suc (suc zero)) (object what ∷ object place ∷ object before ∷ []) a = told_holds s c what place before h k a.0 (a.1).0 ((a.1).1).0
    staged_holds create_native j args a = (h, object_made args a)
    staged_holds recycle_native j (object o ∷ []) a = (recycle_now_holds s o h, refl)
    staged_holds _ _ _ a = (h, refl)

    go : (name : NativeName) → NativeGives (stage_of s c name n v)
    go eval_native = (h, data_of (integer (pos 1) ∷ v ∷ []) (refl, (l, tt)))
    go move_native = staged_holds n.name n.stage n.arguments m.1
    go create_native = staged_holds n.name n.stage n.arguments m.1
    go recycle_native = staged_holds n.name n.stage n.arguments m.1
