-- Each built-in function does what the permission table allows to the programmer of the verb that calls it.
use Rattle.std.proofs.Common.{◌≡◌, ◌⊎◌, inl, inr, ◌∙◌, ℕ, zero, suc, ℤ, pos, negsuc, Bool, true, false, not, ◌&&◌, ◌||◌, List, [], ◌∷◌, ◌++◌, Option, Some, None, refl, sym, ap, subst, is_none, is_some, IsTrue, if◌then◌else◌}
use Rattle.std.specs.Prelude.{option_map, codes}
use Rattle.std.specs.Ordering.{int_eq}
use Rattle.spec_value.specs.Datum.{Datum, integer, object, text, list, Data, no_data, item, Text, ErrorCode, same_text, is_true, invalid_argument, property_not_found, verb_not_found, limit_exceeded}
use Rattle.spec_value.specs.Table.{at}
use Rattle.spec_value.specs.PureBuiltins.{PureFunction, call_value}
use Rattle.spec_value.proofs.Entries.{first_holds, second_holds}
use Rattle.spec_value.proofs.Same.{same_integer}
use Rattle.spec_program.specs.ReadPrograms.{Parsed, program, faulty, parsed, parsed_lines}
use Rattle.spec_world.specs.World.{World, Object, Slot, Link, Native, NativeName, move_native, create_native, recycle_native, eval_native, Verb, timed, idle, reading_on, object_at}
use Rattle.spec_world.specs.Agreeing.{Agrees}
use Rattle.spec_world.specs.Inherit.{slot_at}
use Rattle.spec_world.specs.Links.{connection_of, reader_of, close_link}
use Rattle.spec_world.specs.Permissions as act
use Rattle.spec_world.specs.Permissions.{is_wizard, in_place, list_members, change_members, change_owner, read_verb, write_verb, program_verb, evaluate, have_child, change_object, administer, act_as, control_task, may}
use Rattle.spec_world.specs.VerbsSought.{Sought, find_verb}
use Rattle.spec_world.specs.Naming.{location_of}
use Rattle.spec_world.specs.Families.{next_object, parent_of, is_below, created, reparented, recycled, clashes}
use Rattle.spec_world.specs.Whereabouts.{is_inside, moved}
use Rattle.spec_world.proofs.Trees.{some_same, either}
use Rattle.spec_moo.specs.Scene.{Scene, in_world, has_ids, next_id, id_taken, named_or_next, with_own_id, moment_after}
use Rattle.spec_moo.specs.Linking.{connection_closed, link_closed, has_lines, line_told}
use Rattle.spec_moo.specs.Properties.{built_in, row_of}
use Rattle.spec_moo.specs.NativeEffect.{Caller, NativeEffect, answers, waits}
use Rattle.spec_moo.specs.Natives.{or_later, native, stage_of, native_turn}
use Rattle.spec_moo.specs.Natives.Rows.{Row, by_row, in_group, if_there, is_valid, is_valid_or_none, answers_with, zero_value, counts_fit, all_fit}
use Rattle.spec_moo.specs.Natives.Values.{value_rows, values}
use Rattle.spec_moo.specs.Natives.Objects.{valid_row, is_player_row, parent_row, children_row, calls_found, calls_if_there, stage, create_with, create_for, create_row, has_numbers, recycle_now, recycle_row, chparent_row, is_there, told_to_enter, later_stage, last_stage, gone_over, move_now, accepted, move_row, with_flag, set_player_flag_row, object_rows, objects, staged}
use Rattle.spec_moo.specs.Natives.Properties.{are_bits, with_slot_bits, properties_row, property_info_row, set_property_info_row, is_clear_property_row, defines_it, clear_property_row, is_new_name, is_empty, slot_with, add_property_row, delete_property_row, property_rows, properties}
use Rattle.spec_moo.specs.Natives.Verbs.{verb_place, if_verb, verbs_row, with_info, info_fits, verb_info_row, set_verb_info_row, specifier, with_specifier, verb_args_row, set_verb_args_row, new_verb, add_verb_row, delete_verb_row, verb_code_row, texts_of, programmed, set_verb_code_row, evaluated, eval_row, verb_rows, verbs}
use Rattle.spec_moo.specs.Natives.Tasks.{notify_row, waits_with_id, reads_on, read_row, suspend_row, task_programmer, is_suspended, resumes, resume_row, is_own_id, kills, kill_task_row, task_id_row, raise_row, set_task_perms_row, random_up_to, random_row, boot_player_row, dump_database_row, shutdown_row, task_rows, tasks}
use Rattle.spec_world.proofs.WorldsKept.{connection_open}
use Rattle.spec_moo.proofs.NativeWorlds.{place}
use Rattle.spec_rights.specs.Permitted.{Allows, Taken, Concerns, concerned, Permitted, MayClose, QueueKept}
use Rattle.spec_rights.specs.Chains.{SameObjects, scene_of, NativesPermit, StagesPermit, NativesLeaveTasks, StagesLeaveTasks}
use Rattle.spec_rights.proofs.Changes.{nothing_changed, flag_set, slot_changed, property_comes, property_goes, verb_comes, verb_goes, verb_changes, object_made, object_moved, object_hung}
use Rattle.spec_rights.proofs.Recycled.{object_recycled}
use Rattle.spec_rights.proofs.Doing.{Among, TasksFrom, among_left, among_again, SoughtOwned, verb_owned, Does, NativeDoes, nothing_done, same_done, done, closing, same_queue, queue_then, queue_closed, queue_put, queue_left, persons_link}

-- of a table's act that may be done by oneself or by a wizard
pub as_oneself : (w : World) (who o : ℤ) → Allows w who (act_as o) → (o ≡ who) ⊎ (is_wizard w who ≡ true)
unfolding may
as_oneself w who o k = go (either (is_wizard w who) (int_eq who o) k)
  where
    go : IsTrue (is_wizard w who) ⊎ IsTrue (int_eq who o) → (o ≡ who) ⊎ (is_wizard w who ≡ true)
    go (inl e) = inr e
    go (inr e) = inl (sym (same_integer who o e))

-- the objects that waiting built-ins may move or recycle, at the beginning of this call
module _ (begun : ℤ → Type 0) where
  abbrev Fits : Scene → Caller → NativeEffect → Type 0
  Fits s c e = NativeDoes begun s.world c.call.programmer e

  same : (s : Scene) (c : Caller) → Does begun s.world c.call.programmer s.world
  same s c = nothing_done begun s.world c.call.programmer

  -- ---- checks

  tested : (w : World) (who : ℤ) (b : Bool) (e f : NativeEffect) → NativeDoes begun w who f → (b ≡ true → NativeDoes begun w who e)
      → NativeDoes begun w who (if b then e else f)
  tested w who true e f h more = more refl
  tested w who false e f h more = h

  there : {X : Type 0} (w : World) (who : ℤ) (s : Scene) (err : ErrorCode) (o : Option X) (f : X → NativeEffect) → Does begun w who s.world
      → ((x : X) → o ≡ Some x → NativeDoes begun w who (f x)) → NativeDoes begun w who (if_there s err o f)
  there w who s err None f h more = h
  there w who s err (Some x) f h more = more x refl

  of_choice : (w : World) (who : ℤ) (b : Bool) (s t : Scene) → Does begun w who s.world → Does begun w who t.world → Does begun w who (if b then s else t).world
  of_choice w who true s t h k = h
  of_choice w who false s t h k = k

  -- ---- rows

  abbrev RowDoes : Row → Type 0
  RowDoes r = (s : Scene) (c : Caller) (args : List Datum) → Agrees s.world → Fits s c (r.act s c args)

  abbrev AllDo : List (Text × Row) → Type 0
  AllDo [] = Unit {0}
  AllDo (r ∷ rs) = RowDoes r.1 × AllDo rs

  abbrev SomeDoes : Scene → Caller → Option NativeEffect → Type 0
  SomeDoes s c None = Unit {0}
  SomeDoes s c (Some e) = Fits s c e

  by_row_does : (r : Row) → RowDoes r → (s : Scene) (c : Caller) (args : List Datum) → Agrees s.world → Fits s c (by_row s c args r)
  by_row_does r does s c args h =
      tested s.world c.call.programmer (counts_fit r args) _ _ (same s c)
      (λ e. tested s.world c.call.programmer (all_fit r.wanted r.further args) _ _ (same s c) (λ d. does s c args h))

  group_does : (rows : List (Text × Row)) → AllDo rows → (s : Scene) (c : Caller) (name : Text) (args : List Datum) → Agrees s.world
      → SomeDoes s c (in_group rows s c name args)
  unfolding row_of
  group_does [] each s c name args h = tt
  group_does (r ∷ rs) each s c name args h = go (group_does rs each.1 s c name args h) (same_text r.0 name)
    where
      go : SomeDoes s c (option_map (by_row s c args) (row_of rs name)) → (b : Bool)
          → SomeDoes s c (option_map (by_row s c args) (if b then Some r.1 else row_of rs name))
      go later true = by_row_does r.1 each.0 s c args h
      go later false = later

  -- ---- objects

  -- a verb that is called by a built-in, or what happens without it
  calls_do : (w : World) (who : ℤ) (s : Scene) (c : Caller) (n : Native) (o : ℤ) (word : Text) (args : Data) (e : NativeEffect) → Does begun w who s.world
      → ((q : ℤ) → Concerns n q → Taken begun w who q) → NativeDoes begun w who e → NativeDoes begun w who (calls_if_there s c n o word args e)
  calls_do w who s c n o word args e h takes k = go (find_verb s.world o word) (verb_owned s.world o word)
    where
      go : (f : Option Sought) → SoughtOwned s.world f → NativeDoes begun w who (calls_found s c n o word args e f)
      go None i = k
      go (Some f) i = (h, (inr i, takes))

  valid_does : (s : Scene) (c : Caller) (args : List Datum) → Agrees s.world → Fits s c (valid_row s c args)
  valid_does s c (object o ∷ []) h = same s c
  valid_does s c _ h = same s c

  is_player_does : (s : Scene) (c : Caller) (args : List Datum) → Agrees s.world → Fits s c (is_player_row s c args)
  is_player_does s c (object o ∷ []) h = tested s.world c.call.programmer (is_valid s o) _ _ (same s c) (λ e. same s c)
  is_player_does s c _ h = same s c

  parent_does : (s : Scene) (c : Caller) (args : List Datum) → Agrees s.world → Fits s c (parent_row s c args)
  parent_does s c (object o ∷ []) h = tested s.world c.call.programmer (is_valid s o) _ _ (same s c) (λ e. same s c)
  parent_does s c _ h = same s c

  children_do : (s : Scene) (c : Caller) (args : List Datum) → Agrees s.world → Fits s c (children_row s c args)
  children_do s c (object o ∷ []) h = tested s.world c.call.programmer (is_valid s o) _ _ (same s c) (λ e. same s c)
  children_do s c _ h = same s c

  create_for_does : (s : Scene) (c : Caller) (p owner : ℤ) (args : List Datum) → is_valid_or_none s p ≡ true → Agrees s.world → Fits s c (create_for s c p owner args)
  create_for_does s c p owner args at_p h =
      tested s.world c.call.programmer (may s.world c.call.programmer (have_child p) && may s.world c.call.programmer (change_owner c.call.programmer owner)) _ _ (same s c) (λ e.
      tested s.world c.call.programmer (has_numbers s) _ _ (same s c) (λ d. after e d))
    where
      after : (may s.world c.call.programmer (have_child p) && may s.world c.call.programmer (change_owner c.call.programmer owner)) ≡ true → has_numbers s ≡ true
          → Fits s c (create_with s c p owner args)
      after e d =
          let made : Does begun s.world c.call.programmer (created s.world p owner) =
          done begun s.world c.call.programmer (created s.world p owner)
          (object_made begun s.world c.call.programmer h.objects p owner d (place 0 s p at_p) (first_holds (may s.world c.call.programmer (have_child p)) _ e) (second_holds (may s.world c.call.programmer (have_child p)) _ e))
          (Rattle.spec_world.proofs.WorldsKept.created_rest s.world p owner) in
          calls_do s.world c.call.programmer (in_world s (created s.world p owner)) c (stage create_native (args ++ object (next_object s.world) ∷ [])) (next_object s.world) (codes "initialize") no_data _ made (λ q k. cc) made

  create_does : (s : Scene) (c : Caller) (args : List Datum) → Agrees s.world → Fits s c (create_row s c args)
  create_does s c (object p ∷ []) h =
      tested s.world c.call.programmer (is_valid_or_none s p) _ _ (same s c) (λ e. create_for_does s c p c.call.programmer (object p ∷ []) e h)
  create_does s c (object p ∷ object owner ∷ []) h =
      tested s.world c.call.programmer (is_valid_or_none s p && is_valid s owner) _ _ (same s c)
      (λ e. create_for_does s c p owner (object p ∷ object owner ∷ []) (first_holds (is_valid_or_none s p) _ e) h)
  create_does s c _ h = same s c

  -- a link that is closed leaves the objects
  closed_link : (s : Scene) (o : ℤ) → SameObjects s.world (link_closed s o).world × TasksFrom s.world.tasks (link_closed s o).world.tasks
  closed_link s o = go (connection_of s.world o)
    where
      go : (m : Option ℤ) → SameObjects s.world (connection_closed s m).world × TasksFrom s.world.tasks (connection_closed s m).world.tasks
      go None = ((refl, refl, refl), λ es h. h)
      go (Some k) = closing s.world k

  closed_queue : (s : Scene) (who o : ℤ) → Agrees s.world → MayClose begun s.world who o → QueueKept begun s.world who (link_closed s o).world
  closed_queue s who o h may = go (connection_of s.world o) refl
    where
      go : (m : Option ℤ) → connection_of s.world o ≡ m → QueueKept begun s.world who (connection_closed s m).world
      go None e = same_queue begun s.world who s.world refl refl
      go (Some k) e = by (at s.world.links k) refl
        where
          by : (m : Option Link) → at s.world.links k ≡ m → QueueKept begun s.world who (close_link s.world k)
          by None i = let linked : IsTrue (is_some (at s.world.links k)) = connection_open s.world.links k o e in absurd (cc (linked, i))
          by (Some l) i =
              queue_closed begun s.world who k l i (subst (MayClose begun s.world who) (sym (persons_link s.world.links o k l h.links.links_in_order e i)) may)

  recycle_now_does : (s : Scene) (who o : ℤ) → Agrees s.world → Taken begun s.world who o → Does begun s.world who (recycle_now s o).world
  recycle_now_does s who o h taken =
      of_choice s.world who (is_valid s o) _ s
      (record {
        permitted = object_recycled begun s.world who o h.objects taken (link_closed s o).world (closed_link s o).0;
        tasks = λ es k. (closed_link s o).1 es (subst (λ ts. Among ts es) (Rattle.spec_world.proofs.WorldsKept.recycled_rest (link_closed s o).world o).tasks k);
        queue = queue_then begun s.world who (link_closed s o).world (recycled (link_closed s o).world o) (closed_queue s who o h (inr (inr taken))) (Rattle.spec_world.proofs.WorldsKept.recycled_rest (link_closed s o).world o);
      })
      (nothing_done begun s.world who)

  recycle_does : (s : Scene) (c : Caller) (args : List Datum) → Agrees s.world → Fits s c (recycle_row s c args)
  recycle_does s c (object o ∷ []) h =
      tested s.world c.call.programmer (is_valid s o) _ _ (same s c) (λ e1.
      tested s.world c.call.programmer (may s.world c.call.programmer (change_object o)) _ _ (same s c) (λ e2.
      calls_do s.world c.call.programmer s c (stage recycle_native (object o ∷ [])) o (codes "recycle") no_data (answers_with (recycle_now s o) zero_value) (same s c)
      (λ q k. inl (subst (λ z. Allows s.world c.call.programmer (change_object z)) (some_same k) e2)) (recycle_now_does s c.call.programmer o h (inl e2))))
  recycle_does s c _ h = same s c

  chparent_does : (s : Scene) (c : Caller) (args : List Datum) → Agrees s.world → Fits s c (chparent_row s c args)
  chparent_does s c (object o ∷ object p ∷ []) h =
      tested s.world c.call.programmer (is_valid s o && is_valid_or_none s p) _ _ (same s c) (λ e1.
      tested s.world c.call.programmer (may s.world c.call.programmer (change_object o) && may s.world c.call.programmer (have_child p)) _ _ (same s c) (λ e2.
      tested s.world c.call.programmer (not (is_below s.world o p)) _ _ (same s c) (λ e3.
      tested s.world c.call.programmer (not (clashes s.world o p)) _ _ (same s c) (λ e4.
      of_choice s.world c.call.programmer (int_eq (parent_of (object_at s.world o)) p) s (in_world s (reparented s.world o p)) (same s c)
      (done begun s.world c.call.programmer (reparented s.world o p)
      (object_hung begun s.world c.call.programmer o p (first_holds (may s.world c.call.programmer (change_object o)) _ e2) (second_holds (may s.world c.call.programmer (change_object o)) _ e2))
      (Rattle.spec_world.proofs.WorldsKept.reparented_rest s.world o p))))))
  chparent_does s c _ h = same s c

  concerns_it : (w : World) (who what : ℤ) → Taken begun w who what → (q : ℤ) → Some what ≡ Some q → Taken begun w who q
  concerns_it w who what taken q k = subst (Taken begun w who) (some_same k) taken

  told_does : (w : World) (s : Scene) (c : Caller) (what to before : ℤ) → Taken begun w c.call.programmer what → Does begun w c.call.programmer s.world
      → NativeDoes begun w c.call.programmer (told_to_enter s c what to before)
  told_does w s c what to before taken h =
      tested w c.call.programmer (is_there s what to && is_valid s to) _ _ h (λ e.
      calls_do w c.call.programmer s c (last_stage move_native (object what ∷ object to ∷ object before ∷ [])) to (codes "enterfunc") (item (object what) no_data) (answers_with s zero_value) h (concerns_it w c.call.programmer what taken) h)

  move_now_does : (s : Scene) (c : Caller) (what to : ℤ) → Taken begun s.world c.call.programmer what → Fits s c (move_now s c what to)
  move_now_does s c what to taken =
      go (is_there s what to)
    where
      after : Does begun s.world c.call.programmer (moved s.world what to)
      after = done begun s.world c.call.programmer (moved s.world what to) (object_moved begun s.world c.call.programmer what to taken) (Rattle.spec_world.proofs.WorldsKept.moved_rest s.world what to)

      go : (b : Bool) → Fits s c (if b then answers_with s zero_value else gone_over (in_world s (moved s.world what to)) c what to (location_of (object_at s.world what)))
      go true = same s c
      go false =
          calls_do s.world c.call.programmer (in_world s (moved s.world what to)) c (later_stage move_native (object what ∷ object to ∷ object (location_of (object_at s.world what)) ∷ [])) (location_of (object_at s.world what)) (codes "exitfunc") (item (object what) no_data) _ after
          (concerns_it s.world c.call.programmer what taken) (told_does s.world (in_world s (moved s.world what to)) c what to (location_of (object_at s.world what)) taken after)

  accepted_does : (s : Scene) (c : Caller) (what to : ℤ) (let_in : Bool) → Taken begun s.world c.call.programmer what → Fits s c (accepted s c what to let_in)
  accepted_does s c what to let_in taken =
      tested s.world c.call.programmer (let_in || is_wizard s.world c.call.programmer) _ _ (same s c) (λ e0.
      tested s.world c.call.programmer (is_valid s what && is_valid_or_none s to) _ _ (same s c) (λ e1.
      tested s.world c.call.programmer (not (is_inside s.world what to)) _ _ (same s c) (λ e2. move_now_does s c what to taken)))

  move_does : (s : Scene) (c : Caller) (args : List Datum) → Agrees s.world → Fits s c (move_row s c args)
  move_does s c (object what ∷ object to ∷ []) h =
      tested s.world c.call.programmer (is_valid s what && is_valid_or_none s to) _ _ (same s c) (λ e1.
      tested s.world c.call.programmer (may s.world c.call.programmer (change_object what)) _ _ (same s c) (λ e2.
      tested s.world c.call.programmer (not (is_inside s.world what to)) _ _ (same s c) (λ e3.
      tested s.world c.call.programmer (is_valid s to) _ _ (move_now_does s c what to (inl e2)) (λ e4.
      calls_do s.world c.call.programmer s c (stage move_native (object what ∷ object to ∷ [])) to (codes "accept") (item (object what) no_data) (accepted s c what to (is_true zero_value)) (same s c)
      (concerns_it s.world c.call.programmer what (inl e2)) (accepted_does s c what to (is_true zero_value) (inl e2))))))
  move_does s c _ h = same s c

  set_player_flag_does : (s : Scene) (c : Caller) (args : List Datum) → Agrees s.world → Fits s c (set_player_flag_row s c args)
  set_player_flag_does s c (object o ∷ x ∷ []) h =
      tested s.world c.call.programmer (is_valid s o) _ _ (same s c) (λ e1.
      tested s.world c.call.programmer (may s.world c.call.programmer administer) _ _ (same s c) (λ e2.
      of_choice s.world c.call.programmer (is_true x) (with_flag s o (is_true x)) (with_flag (link_closed s o) o (is_true x))
      (done begun s.world c.call.programmer (with_flag s o (is_true x)).world (flag_set begun s.world c.call.programmer s.world o (is_true x) (refl, refl, refl) e2) (Rattle.spec_world.proofs.WorldsKept.change_rest s.world o _))
      (record {
        permitted = flag_set begun s.world c.call.programmer (link_closed s o).world o (is_true x) (closed_link s o).0 e2;
        tasks = λ es k. (closed_link s o).1 es (subst (λ ts. Among ts es) (Rattle.spec_world.proofs.WorldsKept.change_rest (link_closed s o).world o _).tasks k);
        queue = queue_then begun s.world c.call.programmer (link_closed s o).world (with_flag (link_closed s o) o (is_true x)).world (closed_queue s c.call.programmer o h (inr (inl e2))) (Rattle.spec_world.proofs.WorldsKept.change_rest (link_closed s o).world o _);
      })))
  set_player_flag_does s c _ h = same s c

  objects_do : (s : Scene) (c : Caller) (name : Text) (args : List Datum) → Agrees s.world → SomeDoes s c (objects s c name args)
  objects_do =
      group_does object_rows
      (valid_does, (is_player_does, (parent_does, (children_do, ((λ s c args h. same s c), ((λ s c args h. same s c), (create_does, (recycle_does, (chparent_does, (move_does, (set_player_flag_does, tt)))))))))))

  -- ---- properties

  properties_do : (s : Scene) (c : Caller) (args : List Datum) → Agrees s.world → Fits s c (properties_row s c args)
  properties_do s c (object o ∷ []) h =
      there s.world c.call.programmer s invalid_argument (object_at s.world o) _ (same s c) (λ x e. tested s.world c.call.programmer (may s.world c.call.programmer (list_members o)) _ _ (same s c) (λ k. same s c))
  properties_do s c _ h = same s c

  info_does : (s : Scene) (c : Caller) (args : List Datum) → Agrees s.world → Fits s c (property_info_row s c args)
  info_does s c (object o ∷ text p ∷ []) h =
      there s.world c.call.programmer s invalid_argument (object_at s.world o) _ (same s c) (λ x e. there s.world c.call.programmer s property_not_found (slot_at s.world o p) _ (same s c) (λ t d.
      tested s.world c.call.programmer (may s.world c.call.programmer (act.read_slot o p)) _ _ (same s c) (λ k. same s c)))
  info_does s c _ h = same s c

  slot_done : (s : Scene) (c : Caller) (o : ℤ) (p : Text) (t u : Slot) → slot_at s.world o p ≡ Some t → Allows s.world c.call.programmer (act.write_slot o p)
      → (u.owner ≡ t.owner) ⊎ Allows s.world c.call.programmer (change_owner t.owner u.owner)
      → Does begun s.world c.call.programmer (Rattle.spec_world.specs.Inherit.with_slot s.world o p u)
  slot_done s c o p t u e k own =
      done begun s.world c.call.programmer (Rattle.spec_world.specs.Inherit.with_slot s.world o p u)
      (slot_changed begun s.world c.call.programmer o p t u e (record { rest = inr k; owner = go own })) (Rattle.spec_world.proofs.WorldsKept.slot_rest s.world o p u)
    where
      go : (u.owner ≡ t.owner) ⊎ Allows s.world c.call.programmer (change_owner t.owner u.owner)
          → (u.owner ≡ t.owner) ⊎ (Allows s.world c.call.programmer (act.write_slot o p) × Allows s.world c.call.programmer (change_owner t.owner u.owner))
      go (inl i) = inl i
      go (inr i) = inr (k, i)

  set_info_does : (s : Scene) (c : Caller) (args : List Datum) → Agrees s.world → Fits s c (set_property_info_row s c args)
  set_info_does s c (object o ∷ text p ∷ list (item (object owner) (item (text b) no_data)) ∷ []) h =
      there s.world c.call.programmer s invalid_argument (object_at s.world o) _ (same s c) (λ x e. there s.world c.call.programmer s property_not_found (slot_at s.world o p) _ (same s c) (λ t d.
      tested s.world c.call.programmer (may s.world c.call.programmer (act.write_slot o p)) _ _ (same s c) (λ k1.
      tested s.world c.call.programmer (may s.world c.call.programmer (change_owner t.owner owner)) _ _ (same s c) (λ k2.
      tested s.world c.call.programmer (are_bits (codes "rwc") b && is_valid s owner) _ _ (same s c) (λ k3. slot_done s c o p t (with_slot_bits t owner b) d k1 (inr k2))))))
  set_info_does s c _ h = same s c

  is_clear_does : (s : Scene) (c : Caller) (args : List Datum) → Agrees s.world → Fits s c (is_clear_property_row s c args)
  is_clear_does s c (object o ∷ text p ∷ []) h =
      there s.world c.call.programmer s invalid_argument (object_at s.world o) _ (same s c) (λ x e. there s.world c.call.programmer s property_not_found (slot_at s.world o p) _ (same s c) (λ t d.
      tested s.world c.call.programmer (may s.world c.call.programmer (act.read_slot o p)) _ _ (same s c) (λ k. same s c)))
  is_clear_does s c _ h = same s c

  clear_does : (s : Scene) (c : Caller) (args : List Datum) → Agrees s.world → Fits s c (clear_property_row s c args)
  clear_does s c (object o ∷ text p ∷ []) h =
      there s.world c.call.programmer s invalid_argument (object_at s.world o) _ (same s c) (λ y e. there s.world c.call.programmer s property_not_found (slot_at s.world o p) _ (same s c) (λ t d.
      there s.world c.call.programmer s invalid_argument (object_at s.world o) _ (same s c) (λ x i.
      tested s.world c.call.programmer (may s.world c.call.programmer (act.write_slot o p)) _ _ (same s c) (λ k1.
      tested s.world c.call.programmer (not (defines_it x p)) _ _ (same s c) (λ k2. slot_done s c o p t (record t { content = None }) d k1 (inl refl))))))
  clear_does s c _ h = same s c

  add_does : (s : Scene) (c : Caller) (args : List Datum) → Agrees s.world → Fits s c (add_property_row s c args)
  unfolding Rattle.spec_world.specs.Members.property_added
  add_does s c (object o ∷ text p ∷ v ∷ list (item (object owner) (item (text b) no_data)) ∷ []) h =
      there s.world c.call.programmer s invalid_argument (object_at s.world o) _ (same s c) (λ x e.
      tested s.world c.call.programmer (may s.world c.call.programmer (change_members o)) _ _ (same s c) (λ k1.
      tested s.world c.call.programmer (may s.world c.call.programmer (change_owner c.call.programmer owner)) _ _ (same s c) (λ k2.
      tested s.world c.call.programmer (is_new_name s o p && are_bits (codes "rwc") b && is_valid s owner) _ _ (same s c) (λ k3. added p (slot_with v owner b) k1 (unknown p (first_holds (is_new_name s o p) _ (first_holds (is_new_name s o p && are_bits (codes "rwc") b) _ k3)))))))
    where
      none_there : (m : Option Slot) → is_none m ≡ true → m ≡ None
      none_there None k = refl
      none_there (Some t) k = cc

      unknown : (p : Text) → is_new_name s o p ≡ true → slot_at s.world o p ≡ None
      unknown p k =
          none_there (slot_at s.world o p)
          (second_holds (not (is_empty p) && is_none (built_in p)) _ (first_holds (not (is_empty p) && is_none (built_in p) && is_none (slot_at s.world o p)) _ k))

      added : (p : Text) (t : Slot) → Allows s.world c.call.programmer (change_members o) → slot_at s.world o p ≡ None
          → Does begun s.world c.call.programmer (Rattle.spec_world.specs.Members.property_added s.world o p t)
      added p t k absent = done begun s.world c.call.programmer (Rattle.spec_world.specs.Members.property_added s.world o p t) (property_comes begun s.world c.call.programmer h.objects o k p t absent) (record { links = refl; tasks = refl; next = refl })
  add_does s c _ h = same s c

  delete_does : (s : Scene) (c : Caller) (args : List Datum) → Agrees s.world → Fits s c (delete_property_row s c args)
  unfolding Rattle.spec_world.specs.Members.property_deleted
  delete_does s c (object o ∷ text p ∷ []) h =
      there s.world c.call.programmer s invalid_argument (object_at s.world o) _ (same s c) (λ x e.
      tested s.world c.call.programmer (defines_it x p) _ _ (same s c) (λ k1.
      tested s.world c.call.programmer (may s.world c.call.programmer (change_members o)) _ _ (same s c) (λ k2.
      done begun s.world c.call.programmer (Rattle.spec_world.specs.Members.property_deleted s.world o p) (property_goes begun s.world c.call.programmer h.objects o k2 p) (record { links = refl; tasks = refl; next = refl }))))
  delete_does s c _ h = same s c

  properties_group : (s : Scene) (c : Caller) (name : Text) (args : List Datum) → Agrees s.world → SomeDoes s c (properties s c name args)
  properties_group = group_does property_rows (properties_do, (info_does, (set_info_does, (add_does, (delete_does, (is_clear_does, (clear_does, tt)))))))

  -- ---- verbs

  verb_there : (s : Scene) (c : Caller) (o : ℤ) (d : Datum) (f : ℕ → Verb → NativeEffect)
      → ((x : Object) (n : ℕ) (v : Verb) → object_at s.world o ≡ Some x → in_place x.verbs n ≡ Some v → Fits s c (f n v)) → Fits s c (if_verb s o d f)
  verb_there s c o d f more =
      there s.world c.call.programmer s invalid_argument (object_at s.world o) _ (same s c) (λ x e. there s.world c.call.programmer s verb_not_found (verb_place x.verbs d) _ (same s c) (λ n k.
      there s.world c.call.programmer s verb_not_found (in_place x.verbs n) (f n) (same s c) (λ v l. more x n v e l)))

  verb_done : (s : Scene) (c : Caller) (o : ℤ) (n : ℕ) (f : Verb → Verb)
      → ((x : Object) (v : Verb) → object_at s.world o ≡ Some x → in_place x.verbs n ≡ Some v → Rattle.spec_rights.specs.Permitted.VerbKept s.world c.call.programmer o n v (f v))
      → Does begun s.world c.call.programmer (Rattle.spec_world.specs.Members.verb_changed s.world o n f)
  unfolding Rattle.spec_world.specs.Members.verb_changed
  verb_done s c o n f each =
      done begun s.world c.call.programmer (Rattle.spec_world.specs.Members.verb_changed s.world o n f) (verb_changes begun s.world c.call.programmer o n f each) (Rattle.spec_world.proofs.WorldsKept.change_rest s.world o _)

  verbs_do : (s : Scene) (c : Caller) (args : List Datum) → Agrees s.world → Fits s c (verbs_row s c args)
  verbs_do s c (object o ∷ []) h =
      there s.world c.call.programmer s invalid_argument (object_at s.world o) _ (same s c) (λ x e. tested s.world c.call.programmer (may s.world c.call.programmer (list_members o)) _ _ (same s c) (λ k. same s c))
  verbs_do s c _ h = same s c

  verb_info_does : (s : Scene) (c : Caller) (args : List Datum) → Agrees s.world → Fits s c (verb_info_row s c args)
  verb_info_does s c (object o ∷ d ∷ []) h = verb_there s c o d _ (λ x n v e l. tested s.world c.call.programmer (may s.world c.call.programmer (read_verb o n)) _ _ (same s c) (λ k. same s c))
  verb_info_does s c _ h = same s c

  set_verb_info_does : (s : Scene) (c : Caller) (args : List Datum) → Agrees s.world → Fits s c (set_verb_info_row s c args)
  set_verb_info_does s c (object o ∷ d ∷ list (item (object owner) (item (text b) (item (text names) no_data))) ∷ []) h =
      verb_there s c o d _ (λ x n v e l.
      tested s.world c.call.programmer (may s.world c.call.programmer (write_verb o n)) _ _ (same s c) (λ k1.
      tested s.world c.call.programmer (may s.world c.call.programmer (change_owner v.owner owner)) _ _ (same s c) (λ k2.
      tested s.world c.call.programmer (info_fits s owner b names) _ _ (same s c) (λ k3.
      verb_done s c o n (with_info owner b names) (λ y u d i.
      record { rest = inr k1; owner = inr (k1, subst (λ z. Allows s.world c.call.programmer (change_owner z owner)) (the_verb x y n v u e d l i) k2); program = inl refl })))))
    where
      the_verb : (x y : Object) (n : ℕ) (v u : Verb) → object_at s.world o ≡ Some x → object_at s.world o ≡ Some y → in_place x.verbs n ≡ Some v → in_place y.verbs n ≡ Some u
          → v.owner ≡ u.owner
      the_verb x y n v u e d l i = ap (λ (z : Verb). z.owner) (some_same (sym l ∙ ap (λ (z : Object). in_place z.verbs n) (some_same (sym e ∙ d)) ∙ i))
  set_verb_info_does s c _ h = same s c

  verb_args_do : (s : Scene) (c : Caller) (args : List Datum) → Agrees s.world → Fits s c (verb_args_row s c args)
  verb_args_do s c (object o ∷ d ∷ []) h = verb_there s c o d _ (λ x n v e l. tested s.world c.call.programmer (may s.world c.call.programmer (read_verb o n)) _ _ (same s c) (λ k. same s c))
  verb_args_do s c _ h = same s c

  set_verb_args_do : (s : Scene) (c : Caller) (args : List Datum) → Agrees s.world → Fits s c (set_verb_args_row s c args)
  set_verb_args_do s c (object o ∷ d ∷ list (item (text t) (item (text p) (item (text i) no_data))) ∷ []) h =
      verb_there s c o d _ (λ x n v e l.
      tested s.world c.call.programmer (may s.world c.call.programmer (write_verb o n)) _ _ (same s c) (λ k1.
      there s.world c.call.programmer s invalid_argument (specifier t p i) _ (same s c) (λ a m. verb_done s c o n (with_specifier a) (λ y u d j. record { rest = inr k1; owner = inl refl; program = inl refl }))))
  set_verb_args_do s c _ h = same s c

  add_verb_does : (s : Scene) (c : Caller) (args : List Datum) → Agrees s.world → Fits s c (add_verb_row s c args)
  unfolding Rattle.spec_world.specs.Members.verb_added
  add_verb_does s c (object o ∷ list (item (object owner) (item (text b) (item (text names) no_data))) ∷ list (item (text t) (item (text p) (item (text i) no_data))) ∷ []) h =
      there s.world c.call.programmer s invalid_argument (object_at s.world o) _ (same s c) (λ x e.
      tested s.world c.call.programmer (may s.world c.call.programmer (change_members o)) _ _ (same s c) (λ k1.
      tested s.world c.call.programmer (may s.world c.call.programmer (change_owner c.call.programmer owner)) _ _ (same s c) (λ k2.
      tested s.world c.call.programmer (info_fits s owner b names) _ _ (same s c) (λ k3.
      there s.world c.call.programmer s invalid_argument (specifier t p i) _ (same s c) (λ a d.
      done begun s.world c.call.programmer (Rattle.spec_world.specs.Members.verb_added s.world o (new_verb a owner b names)) (verb_comes begun s.world c.call.programmer o (new_verb a owner b names) k1 k2) (Rattle.spec_world.proofs.WorldsKept.change_rest s.world o _))))))
  add_verb_does s c _ h = same s c

  delete_verb_does : (s : Scene) (c : Caller) (args : List Datum) → Agrees s.world → Fits s c (delete_verb_row s c args)
  unfolding Rattle.spec_world.specs.Members.verb_deleted
  delete_verb_does s c (object o ∷ d ∷ []) h =
      verb_there s c o d _ (λ x n v e l. tested s.world c.call.programmer (may s.world c.call.programmer (change_members o)) _ _ (same s c) (λ k.
      done begun s.world c.call.programmer (Rattle.spec_world.specs.Members.verb_deleted s.world o n) (verb_goes begun s.world c.call.programmer o n k) (Rattle.spec_world.proofs.WorldsKept.change_rest s.world o _)))
  delete_verb_does s c _ h = same s c

  verb_code_does : (s : Scene) (c : Caller) (args : List Datum) → Agrees s.world → Fits s c (verb_code_row s c args)
  verb_code_does s c (object o ∷ d ∷ []) h = verb_there s c o d _ (λ x n v e l. tested s.world c.call.programmer (may s.world c.call.programmer (read_verb o n)) _ _ (same s c) (λ k. same s c))
  verb_code_does s c _ h = same s c

  set_verb_code_does : (s : Scene) (c : Caller) (args : List Datum) → Agrees s.world → Fits s c (set_verb_code_row s c args)
  set_verb_code_does s c (object o ∷ d ∷ list lines ∷ []) h =
      verb_there s c o d _ (λ x n v e l. tested s.world c.call.programmer (may s.world c.call.programmer (program_verb o n)) _ _ (same s c) (λ k. go n k (parsed_lines (texts_of lines))))
    where
      go : (n : ℕ) → Allows s.world c.call.programmer (program_verb o n) → (r : Parsed) → Fits s c (programmed s o n r)
      go n k (program p) = verb_done s c o n (λ v. record v { program = p }) (λ y u d i. record { rest = inl refl; owner = inl refl; program = inr k })
      go n k (faulty f) = same s c
  set_verb_code_does s c _ h = same s c

  eval_does : (s : Scene) (c : Caller) (args : List Datum) → Agrees s.world → Fits s c (eval_row s c args)
  eval_does s c (text t ∷ []) h = tested s.world c.call.programmer (may s.world c.call.programmer evaluate) _ _ (same s c) (λ k. go (parsed t))
    where
      go : (r : Parsed) → Fits s c (evaluated s c t r)
      go (program p) = (same s c, (inl refl, λ q i. cc))
      go (faulty f) = same s c
  eval_does s c _ h = same s c

  verbs_group : (s : Scene) (c : Caller) (name : Text) (args : List Datum) → Agrees s.world → SomeDoes s c (verbs s c name args)
  verbs_group =
      group_does verb_rows
      (verbs_do, (verb_info_does, (set_verb_info_does, (verb_args_do, (set_verb_args_do, (add_verb_does, (delete_verb_does, (verb_code_does, (set_verb_code_does, (eval_does, tt))))))))))

  -- ---- tasks

  own_id : (s : Scene) (r : ℤ × Scene) → with_own_id s ≡ Some r → r.1.world ≡ s.world
  own_id s r e = go s.task e
    where
      world_of : Option (ℤ × Scene) → World
      world_of None = s.world
      world_of (Some x) = x.1.world

      go : (own : Option ℤ) → named_or_next s own ≡ Some r → r.1.world ≡ s.world
      go (Some i) k = sym (ap (λ o. world_of o) k)
      go None k = by (has_ids s) k
        where
          by : (b : Bool) → (if b then Some (next_id s, record (id_taken s) { task = Some (next_id s) }) else None) ≡ Some r → r.1.world ≡ s.world
          by true m = sym (ap (λ o. world_of o) m)
          by false m = cc

  waits_do : (s : Scene) (c : Caller) (f : ℤ × Scene → NativeEffect) → ((r : ℤ × Scene) → Does begun s.world c.call.programmer r.1.world → Fits s c (f r)) → Fits s c (waits_with_id s f)
  waits_do s c f more =
      there s.world c.call.programmer s limit_exceeded (with_own_id s) f (same s c) (λ r e. more r (subst (λ u. Does begun s.world c.call.programmer u) (sym (own_id s r e)) (same s c)))

  line_done : (s : Scene) (c : Caller) (t : Text) (m : Option ℤ) → Does begun s.world c.call.programmer (line_told s t m).world
  line_done s c t None = same s c
  line_done s c t (Some k) = same s c

  notify_does : (s : Scene) (c : Caller) (args : List Datum) → Agrees s.world → Fits s c (notify_row s c args)
  notify_does s c (object o ∷ text t ∷ []) h =
      tested s.world c.call.programmer (may s.world c.call.programmer (act_as o)) _ _ (same s c) (λ k1.
      tested s.world c.call.programmer (has_lines s (connection_of s.world o)) _ _ (same s c) (λ k2. line_done s c t (connection_of s.world o)))
  notify_does s c _ h = same s c

  read_does : (s : Scene) (c : Caller) (args : List Datum) → Agrees s.world → Fits s c (read_row s c args)
  read_does s c args h =
      tested s.world c.call.programmer (may s.world c.call.programmer (act_as c.player)) _ _ (same s c) (λ k1.
      there s.world c.call.programmer s invalid_argument (connection_of s.world c.player) (reads_on s) (same s c) (λ k e.
      tested s.world c.call.programmer (is_none (reader_of s.world k)) _ _ (same s c) (λ k2. waits_do s c (λ r. waits r.1 (reading_on k)) (λ r g. g))))

  suspend_does : (s : Scene) (c : Caller) (args : List Datum) → Agrees s.world → Fits s c (suspend_row s c args)
  suspend_does s c [] h = waits_do s c (λ r. waits r.1 idle) (λ r g. g)
  suspend_does s c (integer (pos n) ∷ []) h = waits_do s c (λ r. waits r.1 (timed (moment_after s n) zero_value)) (λ r g. g)
  suspend_does s c (integer (negsuc n) ∷ []) h = same s c
  suspend_does s c _ h = same s c

  resumes_do : (s : Scene) (c : Caller) (i : ℤ) (v : Datum) → Fits s c (resumes s c i v)
  resumes_do s c i v =
      there s.world c.call.programmer s invalid_argument (at s.world.tasks i) _ (same s c) (λ t e.
      tested s.world c.call.programmer (may s.world c.call.programmer (control_task (task_programmer t))) _ _ (same s c) (λ k1.
      tested s.world c.call.programmer (is_suspended t.waiting) _ _ (same s c) (λ k2.
      same_done begun s.world c.call.programmer _ (refl, refl, refl) (among_again s.world.tasks i t (record t { waiting = timed s.moment v }) e refl)
      (queue_put begun s.world c.call.programmer i t (record t { waiting = timed s.moment v }) e k1))))

  resume_does : (s : Scene) (c : Caller) (args : List Datum) → Agrees s.world → Fits s c (resume_row s c args)
  resume_does s c (integer i ∷ []) h = resumes_do s c i zero_value
  resume_does s c (integer i ∷ v ∷ []) h = resumes_do s c i v
  resume_does s c _ h = same s c

  kills_do : (s : Scene) (c : Caller) (i : ℤ) → Fits s c (kills s c i)
  kills_do s c i =
      there s.world c.call.programmer s invalid_argument (at s.world.tasks i) _ (same s c) (λ t e.
      tested s.world c.call.programmer (may s.world c.call.programmer (control_task (task_programmer t))) _ _ (same s c) (λ k1.
      same_done begun s.world c.call.programmer _ (refl, refl, refl) (among_left _ s.world.tasks) (queue_left begun s.world c.call.programmer i t e k1)))

  kill_task_does : (s : Scene) (c : Caller) (args : List Datum) → Agrees s.world → Fits s c (kill_task_row s c args)
  kill_task_does s c (integer i ∷ []) h = tested s.world c.call.programmer (is_own_id i s.task) _ _ (kills_do s c i) (λ e. same s c)
  kill_task_does s c _ h = same s c

  task_id_does : (s : Scene) (c : Caller) (args : List Datum) → Agrees s.world → Fits s c (task_id_row s c args)
  task_id_does s c args h = waits_do s c (λ r. answers_with r.1 (integer r.0)) (λ r g. g)

  raise_does : (s : Scene) (c : Caller) (args : List Datum) → Agrees s.world → Fits s c (raise_row s c args)
  raise_does s c (v ∷ []) h = same s c
  raise_does s c (v ∷ text m ∷ []) h = same s c
  raise_does s c (v ∷ text m ∷ x ∷ []) h = same s c
  raise_does s c _ h = same s c

  perms_do : (s : Scene) (c : Caller) (args : List Datum) → Agrees s.world → Fits s c (set_task_perms_row s c args)
  perms_do s c (object o ∷ []) h =
      tested s.world c.call.programmer (is_valid s o) _ _ (same s c) (λ k1.
      tested s.world c.call.programmer (may s.world c.call.programmer (act_as o)) _ _ (same s c) (λ k2. (same s c, as_oneself s.world c.call.programmer o k2)))
  perms_do s c _ h = same s c

  random_up_to_does : (s : Scene) (c : Caller) (n : ℕ) → Fits s c (random_up_to s n)
  random_up_to_does s c zero = same s c
  random_up_to_does s c (suc m) = same s c

  random_does : (s : Scene) (c : Caller) (args : List Datum) → Agrees s.world → Fits s c (random_row s c args)
  random_does s c [] h = random_up_to_does s c 2147483647
  random_does s c (integer (pos m) ∷ []) h = random_up_to_does s c m
  random_does s c (integer (negsuc m) ∷ []) h = random_up_to_does s c 0
  random_does s c _ h = same s c

  boot_does : (s : Scene) (c : Caller) (args : List Datum) → Agrees s.world → Fits s c (boot_player_row s c args)
  boot_does s c (object o ∷ []) h =
      tested s.world c.call.programmer (is_valid s o) _ _ (same s c) (λ k1.
      tested s.world c.call.programmer (may s.world c.call.programmer (act_as o)) _ _ (same s c) (λ k2.
      same_done begun s.world c.call.programmer (link_closed s o).world (closed_link s o).0 (closed_link s o).1 (closed_queue s c.call.programmer o h (inl k2))))
  boot_does s c _ h = same s c

  dump_does : (s : Scene) (c : Caller) (args : List Datum) → Agrees s.world → Fits s c (dump_database_row s c args)
  dump_does s c args h = tested s.world c.call.programmer (may s.world c.call.programmer administer) _ _ (same s c) (λ k. same s c)

  shutdown_does : (s : Scene) (c : Caller) (args : List Datum) → Agrees s.world → Fits s c (shutdown_row s c args)
  shutdown_does s c args h =
      tested s.world c.call.programmer (may s.world c.call.programmer administer) _ _ (same s c) (λ k.
      done begun s.world c.call.programmer (record (s.world) { ending = true }) (nothing_changed begun s.world c.call.programmer (record (s.world) { ending = true }) refl refl (inr k)) (record { links = refl; tasks = refl; next = refl }))

  tasks_group : (s : Scene) (c : Caller) (name : Text) (args : List Datum) → Agrees s.world → SomeDoes s c (tasks s c name args)
  tasks_group =
      group_does task_rows
      (notify_does, (read_does, (suspend_does, (resume_does, (kill_task_does, ((λ s c args h. same s c), (task_id_does, ((λ s c args h. same s c), (raise_does, (perms_do, ((λ s c args h. same s c), (random_does, ((λ s c args h. same s c), ((λ s c args h. same s c), (boot_does, (dump_does, (shutdown_does, tt)))))))))))))))))

  -- ---- all of them

  values_do : (s : Scene) (c : Caller) (name : Text) (args : List Datum) → SomeDoes s c (values s c name args)
  values_do s c name args = go (row_of value_rows name)
    where
      go : (m : Option PureFunction) → SomeDoes s c (option_map (λ f. answers s (call_value f args)) m)
      go None = tt
      go (Some f) = same s c

  later_does : (s : Scene) (c : Caller) (o : Option NativeEffect) (later : Text → NativeEffect) (name : Text) → SomeDoes s c o → Fits s c (later name) → Fits s c (or_later o later name)
  later_does s c None later name h k = k
  later_does s c (Some e) later name h k = h

  pub native_does : (s : Scene) (c : Caller) (name : Text) (args : List Datum) → Agrees s.world → NativeDoes begun s.world c.call.programmer (native s c name args)
  unfolding native
  native_does s c name args h =
      later_does s c (values s c name args) _ name (values_do s c name args) (later_does s c (objects s c name args) _ name (objects_do s c name args h)
      (later_does s c (properties s c name args) _ name (properties_group s c name args h) (later_does s c (verbs s c name args) _ name (verbs_group s c name args h)
      (later_does s c (tasks s c name args) _ name (tasks_group s c name args h) (same s c)))))

  -- ---- one that waited

  pub stage_does : (s : Scene) (c : Caller) (n : Native) (v : Datum) → Agrees s.world → ((o : ℤ) → Concerns n o → begun o)
      → NativeDoes begun s.world c.call.programmer (native_turn s c n v)
  unfolding native_turn
  stage_does s c n v h began = go n.name refl
    where
      staged_does : (name : NativeName) (k : ℕ) (args : List Datum) → ((o : ℤ) → concerned name args ≡ Some o → begun o) → Fits s c (staged s c name k args v)
      staged_does move_native (suc zero) (object what ∷ object to ∷ []) b = accepted_does s c what to (is_true v) (inr (b what refl))
      staged_does move_native (suc (suc zero)) (object what ∷ object to ∷ object before ∷ []) b = told_does s.world s c what to before (inr (b what refl)) (same s c)
      staged_does create_native k args b = same s c
      staged_does recycle_native k (object o ∷ []) b = recycle_now_does s c.call.programmer o h (inr (b o refl))
      staged_does _ _ _ b = same s c

      go : (m : NativeName) → n.name ≡ m → Fits s c (stage_of s c m n v)
      go eval_native e = same s c
      go move_native e = staged_does n.name n.stage n.arguments began
      go create_native e = staged_does n.name n.stage n.arguments began
      go recycle_native e = staged_does n.name n.stage n.arguments began

-- ---- the laws

pub does_permit : (begun : ℤ → Type 0) (w : World) (who : ℤ) (e : NativeEffect) → NativeDoes begun w who e → Permitted begun w who (scene_of e).world
does_permit begun w who (answers s a) d = d.permitted
does_permit begun w who (Rattle.spec_moo.specs.NativeEffect.complains s f) d = d.permitted
does_permit begun w who (Rattle.spec_moo.specs.NativeEffect.begins s n c body args) d = d.0.permitted
does_permit begun w who (waits s why) d = d.permitted
does_permit begun w who (Rattle.spec_moo.specs.NativeEffect.dies s) d = d.permitted
does_permit begun w who (Rattle.spec_moo.specs.NativeEffect.becomes s o) d = d.0.permitted

pub natives_permit : NativesPermit
natives_permit k s c name args h = does_permit (λ o. ⊥) s.world c.call.programmer (native s c name args) (native_does (λ o. ⊥) s c name args h.world)

pub stages_permit : StagesPermit
stages_permit k s c n v h =
    does_permit (Concerns n) s.world c.call.programmer (native_turn s c n v) (stage_does (Concerns n) s c n v h.world (λ o i. i))

does_leave : (begun : ℤ → Type 0) (w : World) (who : ℤ) (e : NativeEffect) → NativeDoes begun w who e → QueueKept begun w who (scene_of e).world
does_leave begun w who (answers s a) d = d.queue
does_leave begun w who (Rattle.spec_moo.specs.NativeEffect.complains s f) d = d.queue
does_leave begun w who (Rattle.spec_moo.specs.NativeEffect.begins s n c body args) d = d.0.queue
does_leave begun w who (waits s why) d = d.queue
does_leave begun w who (Rattle.spec_moo.specs.NativeEffect.dies s) d = d.queue
does_leave begun w who (Rattle.spec_moo.specs.NativeEffect.becomes s o) d = d.0.queue

pub natives_leave_tasks : NativesLeaveTasks
natives_leave_tasks k s c name args h = does_leave (λ o. ⊥) s.world c.call.programmer (native s c name args) (native_does (λ o. ⊥) s c name args h.world)

pub stages_leave_tasks : StagesLeaveTasks
stages_leave_tasks k s c n v h = does_leave (Concerns n) s.world c.call.programmer (native_turn s c n v) (stage_does (Concerns n) s c n v h.world (λ o i. i))
