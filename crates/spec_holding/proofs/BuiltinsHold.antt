-- Built-in functions keep the programs of a world and what its waiting tasks hold, and begin programs that texts spell.
use Rattle.std.proofs.Common.{◌≡◌, ℕ, zero, suc, ℤ, pos, negsuc, Bool, true, false, not, ◌&&◌, ◌||◌, List, [], ◌∷◌, ◌++◌, Option, Some, None, refl, ap, subst, is_none, if◌then◌else◌}
use Rattle.std.specs.Prelude.{option_map, codes}
use Rattle.std.specs.Ordering.{int_eq}
use Rattle.spec_value.specs.Datum.{Datum, integer, object, text, list, Data, no_data, item, Text, ErrorCode, same_text, is_true, invalid_argument, property_not_found, verb_not_found, limit_exceeded}
use Rattle.spec_value.specs.Table.{at}
use Rattle.spec_value.specs.PureBuiltins.{PureFunction, call_value}
use Rattle.spec_program.specs.ReadPrograms.{Parsed, program, faulty, parsed, parsed_lines}
use Rattle.spec_program.proofs.ParsedFits.{parsed_fits}
use Rattle.spec_world.specs.World.{Native, NativeName, move_native, create_native, recycle_native, eval_native, Verb, timed, idle, reading_on, object_at}
use Rattle.spec_world.specs.Inherit.{slot_at}
use Rattle.spec_world.specs.Links.{connection_of, reader_of}
use Rattle.spec_world.specs.Permissions as act
use Rattle.spec_world.specs.Permissions.{is_wizard, in_place, list_members, change_members, change_owner, read_verb, write_verb, program_verb, evaluate, have_child, change_object, administer, act_as, control_task, may}
use Rattle.spec_world.specs.VerbsSought.{Sought, find_verb}
use Rattle.spec_world.specs.Naming.{location_of}
use Rattle.spec_world.specs.Families.{next_object, parent_of, is_below, created, clashes}
use Rattle.spec_world.specs.Whereabouts.{is_inside, moved}
use Rattle.spec_moo.specs.Scene.{Scene, in_world, has_ids, next_id, id_taken, named_or_next, with_own_id, moment_after}
use Rattle.spec_moo.specs.Linking.{connection_closed, link_closed, has_lines, line_told}
use Rattle.spec_moo.specs.Properties.{row_of}
use Rattle.spec_moo.specs.NativeEffect.{Caller, NativeEffect, answers, waits}
use Rattle.spec_moo.specs.Natives.{or_later, native, stage_of, native_turn}
use Rattle.spec_moo.specs.Natives.Rows.{Row, by_row, in_group, if_there, is_valid, is_valid_or_none, answers_with, zero_value, counts_fit, all_fit}
use Rattle.spec_moo.specs.Natives.Values.{value_rows, values}
use Rattle.spec_moo.specs.Natives.Objects.{valid_row, is_player_row, parent_row, children_row, calls_found, calls_if_there, stage, create_for, create_row, has_numbers, recycle_now, recycle_row, chparent_row, is_there, told_to_enter, later_stage, last_stage, gone_over, move_now, accepted, move_row, with_flag, set_player_flag_row, object_rows, objects, staged}
use Rattle.spec_moo.specs.Natives.Properties.{are_bits, with_slot_bits, properties_row, property_info_row, set_property_info_row, is_clear_property_row, defines_it, clear_property_row, is_new_name, slot_with, add_property_row, delete_property_row, property_rows, properties}
use Rattle.spec_moo.specs.Natives.Verbs.{verb_place, if_verb, verbs_row, with_info, info_fits, verb_info_row, set_verb_info_row, specifier, with_specifier, verb_args_row, set_verb_args_row, new_verb, add_verb_row, delete_verb_row, verb_code_row, texts_of, programmed, set_verb_code_row, evaluated, eval_row, verb_rows, verbs}
use Rattle.spec_moo.specs.Natives.Tasks.{notify_row, waits_with_id, reads_on, read_row, suspend_row, task_programmer, is_suspended, resumes, resume_row, is_own_id, kills, kill_task_row, task_id_row, raise_row, set_task_perms_row, random_up_to, random_row, boot_player_row, dump_database_row, shutdown_row, task_rows, tasks}
use Rattle.spec_holding.specs.UnderWay.{SceneHolds, NativeHolds, NativesHold, StagesHold}
use Rattle.spec_holding.proofs.WorldsHold.{SoughtFits, verb_fits, slot_holds, task_put}
use Rattle.spec_holding.proofs.ChangesHold.{change_holds, tasks_left, entries_there, created_holds, reparented_holds, recycled_holds, moved_holds, property_added_holds, property_deleted_holds, verb_added_holds, verb_deleted_holds, verb_changed_holds, link_closed_holds}

-- ---- checks

-- where a test fails, nothing has changed
tested : (b : Bool) (e f : NativeEffect) → NativeHolds f → NativeHolds e → NativeHolds (if b then e else f)
tested true e f h more = more
tested false e f h more = h

there : {X : Type 0} (s : Scene) (err : ErrorCode) (o : Option X) (f : X → NativeEffect) → SceneHolds s → ((x : X) → o ≡ Some x → NativeHolds (f x))
    → NativeHolds (if_there s err o f)
there s err None f h more = h
there s err (Some x) f h more = more x refl

scene_if : (b : Bool) (s t : Scene) → SceneHolds s → SceneHolds t → SceneHolds (if b then s else t)
scene_if true s t h k = h
scene_if false s t h k = k

-- ---- rows

abbrev RowHolds : Row → Type 0
RowHolds r = (s : Scene) (c : Caller) (args : List Datum) → SceneHolds s → NativeHolds (r.act s c args)

abbrev AllHold : List (Text × Row) → Type 0
AllHold [] = Unit {0}
AllHold (r ∷ rs) = RowHolds r.1 × AllHold rs

abbrev SomeHolds : Option NativeEffect → Type 0
SomeHolds None = Unit {0}
SomeHolds (Some e) = NativeHolds e

by_row_holds : (r : Row) → RowHolds r → (s : Scene) (c : Caller) (args : List Datum) → SceneHolds s → NativeHolds (by_row s c args r)
by_row_holds r keeps s c args h = tested (counts_fit r args) _ _ h (tested (all_fit r.wanted r.further args) _ _ h (keeps s c args h))

group_holds : (rows : List (Text × Row)) → AllHold rows → (s : Scene) (c : Caller) (name : Text) (args : List Datum) → SceneHolds s
    → SomeHolds (in_group rows s c name args)
unfolding row_of
group_holds [] keeps s c name args h = tt
group_holds (r ∷ rs) keeps s c name args h = go (group_holds rs keeps.1 s c name args h) (same_text r.0 name)
  where
    go : SomeHolds (option_map (by_row s c args) (row_of rs name)) → (b : Bool)
        → SomeHolds (option_map (by_row s c args) (if b then Some r.1 else row_of rs name))
    go later true = by_row_holds r.1 keeps.0 s c args h
    go later false = later

-- ---- links that are closed

pub closed_scene : (s : Scene) (o : ℤ) → SceneHolds s → SceneHolds (link_closed s o)
closed_scene s o h = go (connection_of s.world o)
  where
    go : (m : Option ℤ) → SceneHolds (connection_closed s m)
    go None = h
    go (Some c) = link_closed_holds s.world c h

-- ---- objects

calls_hold : (s : Scene) (c : Caller) (n : Native) (o : ℤ) (word : Text) (args : Data) (e : NativeEffect) → SceneHolds s → NativeHolds e
    → NativeHolds (calls_if_there s c n o word args e)
calls_hold s c n o word args e h k = go (find_verb s.world o word) (verb_fits s.world o word h)
  where
    go : (f : Option Sought) → SoughtFits f → NativeHolds (calls_found s c n o word args e f)
    go None i = k
    go (Some f) i = (h, i)

valid_holds : (s : Scene) (c : Caller) (args : List Datum) → SceneHolds s → NativeHolds (valid_row s c args)
valid_holds s c (object o ∷ []) h = h
valid_holds s c _ h = h

is_player_holds : (s : Scene) (c : Caller) (args : List Datum) → SceneHolds s → NativeHolds (is_player_row s c args)
is_player_holds s c (object o ∷ []) h = tested (is_valid s o) _ _ h h
is_player_holds s c _ h = h

parent_holds : (s : Scene) (c : Caller) (args : List Datum) → SceneHolds s → NativeHolds (parent_row s c args)
parent_holds s c (object o ∷ []) h = tested (is_valid s o) _ _ h h
parent_holds s c _ h = h

children_hold : (s : Scene) (c : Caller) (args : List Datum) → SceneHolds s → NativeHolds (children_row s c args)
children_hold s c (object o ∷ []) h = tested (is_valid s o) _ _ h h
children_hold s c _ h = h

create_for_holds : (s : Scene) (c : Caller) (p owner : ℤ) (args : List Datum) → SceneHolds s → NativeHolds (create_for s c p owner args)
create_for_holds s c p owner args h =
    tested (may s.world c.call.programmer (have_child p) && may s.world c.call.programmer (change_owner c.call.programmer owner)) _ _ h
    (tested (has_numbers s) _ _ h
    (calls_hold (in_world s (created s.world p owner)) c (stage create_native (args ++ object (next_object s.world) ∷ [])) (next_object s.world) (codes "initialize") no_data _ (created_holds s.world p owner h) (created_holds s.world p owner h)))

create_holds : (s : Scene) (c : Caller) (args : List Datum) → SceneHolds s → NativeHolds (create_row s c args)
create_holds s c (object p ∷ []) h = tested (is_valid_or_none s p) _ _ h (create_for_holds s c p c.call.programmer (object p ∷ []) h)
create_holds s c (object p ∷ object owner ∷ []) h =
    tested (is_valid_or_none s p && is_valid s owner) _ _ h (create_for_holds s c p owner (object p ∷ object owner ∷ []) h)
create_holds s c _ h = h

recycle_now_holds : (s : Scene) (o : ℤ) → SceneHolds s → SceneHolds (recycle_now s o)
recycle_now_holds s o h = scene_if (is_valid s o) _ _ (recycled_holds (link_closed s o).world o (closed_scene s o h)) h

recycle_holds : (s : Scene) (c : Caller) (args : List Datum) → SceneHolds s → NativeHolds (recycle_row s c args)
recycle_holds s c (object o ∷ []) h =
    tested (is_valid s o) _ _ h (tested (may s.world c.call.programmer (change_object o)) _ _ h
    (calls_hold s c (stage recycle_native (object o ∷ [])) o (codes "recycle") no_data (answers_with (recycle_now s o) zero_value) h (recycle_now_holds s o h)))
recycle_holds s c _ h = h

chparent_holds : (s : Scene) (c : Caller) (args : List Datum) → SceneHolds s → NativeHolds (chparent_row s c args)
chparent_holds s c (object o ∷ object p ∷ []) h =
    tested (is_valid s o && is_valid_or_none s p) _ _ h
    (tested (may s.world c.call.programmer (change_object o) && may s.world c.call.programmer (have_child p)) _ _ h
    (tested (not (is_below s.world o p)) _ _ h (tested (not (clashes s.world o p)) _ _ h
    (scene_if (int_eq (parent_of (object_at s.world o)) p) _ _ h (reparented_holds s.world o p h)))))
chparent_holds s c _ h = h

told_holds : (s : Scene) (c : Caller) (what place before : ℤ) → SceneHolds s → NativeHolds (told_to_enter s c what place before)
told_holds s c what place before h =
    tested (is_there s what place && is_valid s place) _ _ h
    (calls_hold s c (last_stage move_native (object what ∷ object place ∷ object before ∷ [])) place (codes "enterfunc") (item (object what) no_data) (answers_with s zero_value) h h)

move_now_holds : (s : Scene) (c : Caller) (what place : ℤ) → SceneHolds s → NativeHolds (move_now s c what place)
move_now_holds s c what place h = tested (is_there s what place) _ _ gone h
  where
    gone : NativeHolds (gone_over (in_world s (moved s.world what place)) c what place (location_of (object_at s.world what)))
    gone =
        calls_hold (in_world s (moved s.world what place)) c (later_stage move_native (object what ∷ object place ∷ object (location_of (object_at s.world what)) ∷ [])) (location_of (object_at s.world what)) (codes "exitfunc") (item (object what) no_data) _ (moved_holds s.world what place h)
        (told_holds (in_world s (moved s.world what place)) c what place (location_of (object_at s.world what)) (moved_holds s.world what place h))

accepted_holds : (s : Scene) (c : Caller) (what place : ℤ) (let_in : Bool) → SceneHolds s → NativeHolds (accepted s c what place let_in)
accepted_holds s c what place let_in h =
    tested (let_in || is_wizard s.world c.call.programmer) _ _ h (tested (is_valid s what && is_valid_or_none s place) _ _ h
    (tested (not (is_inside s.world what place)) _ _ h (move_now_holds s c what place h)))

move_holds : (s : Scene) (c : Caller) (args : List Datum) → SceneHolds s → NativeHolds (move_row s c args)
move_holds s c (object what ∷ object place ∷ []) h =
    tested (is_valid s what && is_valid_or_none s place) _ _ h (tested (may s.world c.call.programmer (change_object what)) _ _ h
    (tested (not (is_inside s.world what place)) _ _ h (tested (is_valid s place) _ _ (move_now_holds s c what place h)
    (calls_hold s c (stage move_native (object what ∷ object place ∷ [])) place (codes "accept") (item (object what) no_data) (accepted s c what place (is_true zero_value)) h (accepted_holds s c what place (is_true zero_value) h)))))
move_holds s c _ h = h

flag_holds : (s : Scene) (o : ℤ) (flag : Bool) → SceneHolds s → SceneHolds (with_flag s o flag)
flag_holds s o flag h = change_holds s.world o _ (λ x k. k) h

set_player_flag_holds : (s : Scene) (c : Caller) (args : List Datum) → SceneHolds s → NativeHolds (set_player_flag_row s c args)
set_player_flag_holds s c (object o ∷ x ∷ []) h =
    tested (is_valid s o) _ _ h (tested (may s.world c.call.programmer administer) _ _ h
    (scene_if (is_true x) _ _ (flag_holds s o (is_true x) h) (flag_holds (link_closed s o) o (is_true x) (closed_scene s o h))))
set_player_flag_holds s c _ h = h

objects_hold : (s : Scene) (c : Caller) (name : Text) (args : List Datum) → SceneHolds s → SomeHolds (objects s c name args)
objects_hold =
    group_holds object_rows
    (valid_holds, (is_player_holds, (parent_holds, (children_hold, ((λ s c args h. h), ((λ s c args h. h), (create_holds, (recycle_holds, (chparent_holds, (move_holds, (set_player_flag_holds, tt)))))))))))

-- ---- properties

properties_hold : (s : Scene) (c : Caller) (args : List Datum) → SceneHolds s → NativeHolds (properties_row s c args)
properties_hold s c (object o ∷ []) h = there s invalid_argument (object_at s.world o) _ h (λ x e. tested (may s.world c.call.programmer (list_members o)) _ _ h h)
properties_hold s c _ h = h

info_holds : (s : Scene) (c : Caller) (args : List Datum) → SceneHolds s → NativeHolds (property_info_row s c args)
info_holds s c (object o ∷ text p ∷ []) h =
    there s invalid_argument (object_at s.world o) _ h (λ x e. there s property_not_found (slot_at s.world o p) _ h (λ t d.
    tested (may s.world c.call.programmer (act.read_slot o p)) _ _ h h))
info_holds s c _ h = h

set_info_holds : (s : Scene) (c : Caller) (args : List Datum) → SceneHolds s → NativeHolds (set_property_info_row s c args)
set_info_holds s c (object o ∷ text p ∷ list (item (object owner) (item (text b) no_data)) ∷ []) h =
    there s invalid_argument (object_at s.world o) _ h (λ x e. there s property_not_found (slot_at s.world o p) _ h (λ t d.
    tested (may s.world c.call.programmer (act.write_slot o p)) _ _ h (tested (may s.world c.call.programmer (change_owner t.owner owner)) _ _ h
    (tested (are_bits (codes "rwc") b && is_valid s owner) _ _ h (slot_holds s.world o p (with_slot_bits t owner b) h)))))
set_info_holds s c _ h = h

is_clear_holds : (s : Scene) (c : Caller) (args : List Datum) → SceneHolds s → NativeHolds (is_clear_property_row s c args)
is_clear_holds s c (object o ∷ text p ∷ []) h =
    there s invalid_argument (object_at s.world o) _ h (λ x e. there s property_not_found (slot_at s.world o p) _ h (λ t d.
    tested (may s.world c.call.programmer (act.read_slot o p)) _ _ h h))
is_clear_holds s c _ h = h

clear_holds : (s : Scene) (c : Caller) (args : List Datum) → SceneHolds s → NativeHolds (clear_property_row s c args)
clear_holds s c (object o ∷ text p ∷ []) h =
    there s invalid_argument (object_at s.world o) _ h (λ y e. there s property_not_found (slot_at s.world o p) _ h (λ t d.
    there s invalid_argument (object_at s.world o) _ h (λ x i.
    tested (may s.world c.call.programmer (act.write_slot o p)) _ _ h (tested (not (defines_it x p)) _ _ h (slot_holds s.world o p _ h)))))
clear_holds s c _ h = h

add_holds : (s : Scene) (c : Caller) (args : List Datum) → SceneHolds s → NativeHolds (add_property_row s c args)
add_holds s c (object o ∷ text p ∷ v ∷ list (item (object owner) (item (text b) no_data)) ∷ []) h =
    there s invalid_argument (object_at s.world o) _ h (λ x e.
    tested (may s.world c.call.programmer (change_members o)) _ _ h (tested (may s.world c.call.programmer (change_owner c.call.programmer owner)) _ _ h
    (tested (is_new_name s o p && are_bits (codes "rwc") b && is_valid s owner) _ _ h (property_added_holds s.world o p (slot_with v owner b) h))))
add_holds s c _ h = h

delete_holds : (s : Scene) (c : Caller) (args : List Datum) → SceneHolds s → NativeHolds (delete_property_row s c args)
delete_holds s c (object o ∷ text p ∷ []) h =
    there s invalid_argument (object_at s.world o) _ h (λ x e.
    tested (defines_it x p) _ _ h (tested (may s.world c.call.programmer (change_members o)) _ _ h (property_deleted_holds s.world o p h)))
delete_holds s c _ h = h

properties_group : (s : Scene) (c : Caller) (name : Text) (args : List Datum) → SceneHolds s → SomeHolds (properties s c name args)
properties_group = group_holds property_rows (properties_hold, (info_holds, (set_info_holds, (add_holds, (delete_holds, (is_clear_holds, (clear_holds, tt)))))))

-- ---- verbs

verb_there : (s : Scene) (o : ℤ) (d : Datum) (f : ℕ → Verb → NativeEffect) → SceneHolds s → ((n : ℕ) (v : Verb) → NativeHolds (f n v)) → NativeHolds (if_verb s o d f)
verb_there s o d f h more =
    there s invalid_argument (object_at s.world o) _ h (λ x e. there s verb_not_found (verb_place x.verbs d) _ h (λ n k.
    there s verb_not_found (in_place x.verbs n) (f n) h (λ v l. more n v)))

verbs_hold : (s : Scene) (c : Caller) (args : List Datum) → SceneHolds s → NativeHolds (verbs_row s c args)
verbs_hold s c (object o ∷ []) h = there s invalid_argument (object_at s.world o) _ h (λ x e. tested (may s.world c.call.programmer (list_members o)) _ _ h h)
verbs_hold s c _ h = h

verb_info_holds : (s : Scene) (c : Caller) (args : List Datum) → SceneHolds s → NativeHolds (verb_info_row s c args)
verb_info_holds s c (object o ∷ d ∷ []) h = verb_there s o d _ h (λ n v. tested (may s.world c.call.programmer (read_verb o n)) _ _ h h)
verb_info_holds s c _ h = h

set_verb_info_holds : (s : Scene) (c : Caller) (args : List Datum) → SceneHolds s → NativeHolds (set_verb_info_row s c args)
set_verb_info_holds s c (object o ∷ d ∷ list (item (object owner) (item (text b) (item (text names) no_data))) ∷ []) h =
    verb_there s o d _ h (λ n v.
    tested (may s.world c.call.programmer (write_verb o n)) _ _ h (tested (may s.world c.call.programmer (change_owner v.owner owner)) _ _ h
    (tested (info_fits s owner b names) _ _ h (verb_changed_holds s.world o n (with_info owner b names) (λ u k. k) h))))
set_verb_info_holds s c _ h = h

verb_args_hold : (s : Scene) (c : Caller) (args : List Datum) → SceneHolds s → NativeHolds (verb_args_row s c args)
verb_args_hold s c (object o ∷ d ∷ []) h = verb_there s o d _ h (λ n v. tested (may s.world c.call.programmer (read_verb o n)) _ _ h h)
verb_args_hold s c _ h = h

set_verb_args_hold : (s : Scene) (c : Caller) (args : List Datum) → SceneHolds s → NativeHolds (set_verb_args_row s c args)
set_verb_args_hold s c (object o ∷ d ∷ list (item (text t) (item (text p) (item (text i) no_data))) ∷ []) h =
    verb_there s o d _ h (λ n v.
    tested (may s.world c.call.programmer (write_verb o n)) _ _ h
    (there s invalid_argument (specifier t p i) _ h (λ a e. verb_changed_holds s.world o n (with_specifier a) (λ u k. k) h)))
set_verb_args_hold s c _ h = h

add_verb_holds : (s : Scene) (c : Caller) (args : List Datum) → SceneHolds s → NativeHolds (add_verb_row s c args)
add_verb_holds s c (object o ∷ list (item (object owner) (item (text b) (item (text names) no_data))) ∷ list (item (text t) (item (text p) (item (text i) no_data))) ∷ []) h =
    there s invalid_argument (object_at s.world o) _ h (λ x e.
    tested (may s.world c.call.programmer (change_members o)) _ _ h (tested (may s.world c.call.programmer (change_owner c.call.programmer owner)) _ _ h
    (tested (info_fits s owner b names) _ _ h
    (there s invalid_argument (specifier t p i) _ h (λ a d. verb_added_holds s.world o (new_verb a owner b names) refl h)))))
add_verb_holds s c _ h = h

delete_verb_holds : (s : Scene) (c : Caller) (args : List Datum) → SceneHolds s → NativeHolds (delete_verb_row s c args)
delete_verb_holds s c (object o ∷ d ∷ []) h =
    verb_there s o d _ h (λ n v. tested (may s.world c.call.programmer (change_members o)) _ _ h (verb_deleted_holds s.world o n h))
delete_verb_holds s c _ h = h

verb_code_holds : (s : Scene) (c : Caller) (args : List Datum) → SceneHolds s → NativeHolds (verb_code_row s c args)
verb_code_holds s c (object o ∷ d ∷ []) h = verb_there s o d _ h (λ n v. tested (may s.world c.call.programmer (read_verb o n)) _ _ h h)
verb_code_holds s c _ h = h

set_verb_code_holds : (s : Scene) (c : Caller) (args : List Datum) → SceneHolds s → NativeHolds (set_verb_code_row s c args)
set_verb_code_holds s c (object o ∷ d ∷ list lines ∷ []) h =
    verb_there s o d _ h (λ n v. tested (may s.world c.call.programmer (program_verb o n)) _ _ h (go n (parsed_lines (texts_of lines)) refl))
  where
    go : (n : ℕ) (r : Parsed) → parsed_lines (texts_of lines) ≡ r → NativeHolds (programmed s o n r)
    go n (program p) e = verb_changed_holds s.world o n (λ v. record v { program = p }) (λ v k. parsed_fits _ p e) h
    go n (faulty f) e = h
set_verb_code_holds s c _ h = h

eval_holds : (s : Scene) (c : Caller) (args : List Datum) → SceneHolds s → NativeHolds (eval_row s c args)
eval_holds s c (text t ∷ []) h = tested (may s.world c.call.programmer evaluate) _ _ h (go (parsed t) refl)
  where
    go : (r : Parsed) → parsed t ≡ r → NativeHolds (evaluated s c t r)
    go (program p) e = (h, parsed_fits t p e)
    go (faulty f) e = h
eval_holds s c _ h = h

verbs_group : (s : Scene) (c : Caller) (name : Text) (args : List Datum) → SceneHolds s → SomeHolds (verbs s c name args)
verbs_group =
    group_holds verb_rows
    (verbs_hold, (verb_info_holds, (set_verb_info_holds, (verb_args_hold, (set_verb_args_hold, (add_verb_holds, (delete_verb_holds, (verb_code_holds, (set_verb_code_holds, (eval_holds, tt))))))))))

-- ---- tasks

own_id : (s : Scene) (r : ℤ × Scene) → with_own_id s ≡ Some r → SceneHolds s → SceneHolds r.1
own_id s r e h = go s.task e
  where
    world_of : Option (ℤ × Scene) → Scene
    world_of None = s
    world_of (Some x) = x.1

    go : (own : Option ℤ) → named_or_next s own ≡ Some r → SceneHolds r.1
    go (Some i) k = subst (λ t. SceneHolds t) (ap (λ o. world_of o) k) h
    go None k = by (has_ids s) k
      where
        by : (b : Bool) → (if b then Some (next_id s, record (id_taken s) { task = Some (next_id s) }) else None) ≡ Some r → SceneHolds r.1
        by true m = subst (λ t. SceneHolds t) (ap (λ o. world_of o) m) h
        by false m = cc

waits_hold : (s : Scene) (f : ℤ × Scene → NativeEffect) → SceneHolds s → ((r : ℤ × Scene) → SceneHolds r.1 → NativeHolds (f r)) → NativeHolds (waits_with_id s f)
waits_hold s f h more = there s limit_exceeded (with_own_id s) f h (λ r e. more r (own_id s r e h))

line_holds : (s : Scene) (t : Text) (m : Option ℤ) → SceneHolds s → SceneHolds (line_told s t m)
line_holds s t None h = h
line_holds s t (Some c) h = h

notify_holds : (s : Scene) (c : Caller) (args : List Datum) → SceneHolds s → NativeHolds (notify_row s c args)
notify_holds s c (object o ∷ text t ∷ []) h =
    tested (may s.world c.call.programmer (act_as o)) _ _ h (tested (has_lines s (connection_of s.world o)) _ _ h (line_holds s t (connection_of s.world o) h))
notify_holds s c _ h = h

read_holds : (s : Scene) (c : Caller) (args : List Datum) → SceneHolds s → NativeHolds (read_row s c args)
read_holds s c args h =
    tested (may s.world c.call.programmer (act_as c.player)) _ _ h (there s invalid_argument (connection_of s.world c.player) (reads_on s) h (λ k e.
    tested (is_none (reader_of s.world k)) _ _ h (waits_hold s (λ r. waits r.1 (reading_on k)) h (λ r g. g))))

suspend_holds : (s : Scene) (c : Caller) (args : List Datum) → SceneHolds s → NativeHolds (suspend_row s c args)
suspend_holds s c [] h = waits_hold s (λ r. waits r.1 idle) h (λ r g. g)
suspend_holds s c (integer (pos n) ∷ []) h = waits_hold s (λ r. waits r.1 (timed (moment_after s n) zero_value)) h (λ r g. g)
suspend_holds s c (integer (negsuc n) ∷ []) h = h
suspend_holds s c _ h = h

resumes_hold : (s : Scene) (c : Caller) (i : ℤ) (v : Datum) → SceneHolds s → NativeHolds (resumes s c i v)
resumes_hold s c i v h =
    there s invalid_argument (at s.world.tasks i) _ h (λ t e.
    tested (may s.world c.call.programmer (control_task (task_programmer t))) _ _ h (tested (is_suspended t.waiting) _ _ h
    (h.0, task_put s.world.tasks i (record t { waiting = timed s.moment v }) (entries_there s.world.tasks i t h.1 e) h.1)))

resume_holds : (s : Scene) (c : Caller) (args : List Datum) → SceneHolds s → NativeHolds (resume_row s c args)
resume_holds s c (integer i ∷ []) h = resumes_hold s c i zero_value h
resume_holds s c (integer i ∷ v ∷ []) h = resumes_hold s c i v h
resume_holds s c _ h = h

kills_hold : (s : Scene) (c : Caller) (i : ℤ) → SceneHolds s → NativeHolds (kills s c i)
kills_hold s c i h =
    there s invalid_argument (at s.world.tasks i) _ h (λ t e.
    tested (may s.world c.call.programmer (control_task (task_programmer t))) _ _ h (h.0, tasks_left _ s.world.tasks h.1))

kill_task_holds : (s : Scene) (c : Caller) (args : List Datum) → SceneHolds s → NativeHolds (kill_task_row s c args)
kill_task_holds s c (integer i ∷ []) h = tested (is_own_id i s.task) _ _ (kills_hold s c i h) h
kill_task_holds s c _ h = h

task_id_holds : (s : Scene) (c : Caller) (args : List Datum) → SceneHolds s → NativeHolds (task_id_row s c args)
task_id_holds s c args h = waits_hold s (λ r. answers_with r.1 (integer r.0)) h (λ r g. g)

raise_holds : (s : Scene) (c : Caller) (args : List Datum) → SceneHolds s → NativeHolds (raise_row s c args)
raise_holds s c (v ∷ []) h = h
raise_holds s c (v ∷ text m ∷ []) h = h
raise_holds s c (v ∷ text m ∷ x ∷ []) h = h
raise_holds s c _ h = h

perms_hold : (s : Scene) (c : Caller) (args : List Datum) → SceneHolds s → NativeHolds (set_task_perms_row s c args)
perms_hold s c (object o ∷ []) h = tested (is_valid s o) _ _ h (tested (may s.world c.call.programmer (act_as o)) _ _ h h)
perms_hold s c _ h = h

random_up_to_holds : (s : Scene) (n : ℕ) → SceneHolds s → NativeHolds (random_up_to s n)
random_up_to_holds s zero h = h
random_up_to_holds s (suc m) h = h

random_holds : (s : Scene) (c : Caller) (args : List Datum) → SceneHolds s → NativeHolds (random_row s c args)
random_holds s c [] h = random_up_to_holds s 2147483647 h
random_holds s c (integer (pos m) ∷ []) h = random_up_to_holds s m h
random_holds s c (integer (negsuc m) ∷ []) h = random_up_to_holds s 0 h
random_holds s c _ h = h

boot_holds : (s : Scene) (c : Caller) (args : List Datum) → SceneHolds s → NativeHolds (boot_player_row s c args)
boot_holds s c (object o ∷ []) h = tested (is_valid s o) _ _ h (tested (may s.world c.call.programmer (act_as o)) _ _ h (closed_scene s o h))
boot_holds s c _ h = h

dump_holds : (s : Scene) (c : Caller) (args : List Datum) → SceneHolds s → NativeHolds (dump_database_row s c args)
dump_holds s c args h = tested (may s.world c.call.programmer administer) _ _ h h

shutdown_holds : (s : Scene) (c : Caller) (args : List Datum) → SceneHolds s → NativeHolds (shutdown_row s c args)
shutdown_holds s c args h = tested (may s.world c.call.programmer administer) _ _ h h

tasks_group : (s : Scene) (c : Caller) (name : Text) (args : List Datum) → SceneHolds s → SomeHolds (tasks s c name args)
tasks_group =
    group_holds task_rows
    (notify_holds, (read_holds, (suspend_holds, (resume_holds, (kill_task_holds, ((λ s c args h. h), (task_id_holds, ((λ s c args h. h), (raise_holds, (perms_hold, ((λ s c args h. h), (random_holds, ((λ s c args h. h), ((λ s c args h. h), (boot_holds, (dump_holds, (shutdown_holds, tt)))))))))))))))))

-- ---- all of them

values_hold : (s : Scene) (c : Caller) (name : Text) (args : List Datum) → SceneHolds s → SomeHolds (values s c name args)
values_hold s c name args h = go (row_of value_rows name)
  where
    go : (m : Option PureFunction) → SomeHolds (option_map (λ f. answers s (call_value f args)) m)
    go None = tt
    go (Some f) = h

later_holds : (o : Option NativeEffect) (later : Text → NativeEffect) (name : Text) → SomeHolds o → NativeHolds (later name) → NativeHolds (or_later o later name)
later_holds None later name h k = k
later_holds (Some e) later name h k = h

pub natives_hold : NativesHold
unfolding native
natives_hold s c name args h =
    later_holds (values s c name args) _ name (values_hold s c name args h) (later_holds (objects s c name args) _ name (objects_hold s c name args h)
    (later_holds (properties s c name args) _ name (properties_group s c name args h) (later_holds (verbs s c name args) _ name (verbs_group s c name args h)
    (later_holds (tasks s c name args) _ name (tasks_group s c name args h) h))))

pub stages_hold : StagesHold
unfolding native_turn
stages_hold s c n v h = go n.name
  where
    staged_holds : (name : NativeName) (k : ℕ) (args : List Datum) → NativeHolds (staged s c name k args v)
    staged_holds move_native (suc zero) (object what ∷ object place ∷ []) = accepted_holds s c what place (is_true v) h
    staged_holds move_native (suc (suc zero)) (object what ∷ object place ∷ object before ∷ []) = told_holds s c what place before h
    staged_holds create_native k args = h
    staged_holds recycle_native k (object o ∷ []) = recycle_now_holds s o h
    staged_holds _ _ _ = h

    go : (m : NativeName) → NativeHolds (stage_of s c m n v)
    go eval_native = h
    go move_native = staged_holds n.name n.stage n.arguments
    go create_native = staged_holds n.name n.stage n.arguments
    go recycle_native = staged_holds n.name n.stage n.arguments
