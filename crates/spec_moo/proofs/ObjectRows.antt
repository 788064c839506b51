-- Built-in functions over objects keep what a world's objects, links and tasks agree on.
use Rattle.spec_moo.proofs.NativeWorlds.{objects_then, with_players, tested, there, valid, place, not_so, of_choice, AllKeep, SomeKeeps, group_keeps, closed_scene, closed_nobodys}
use Rattle.std.proofs.Common.{◌≡◌, ◌⊎◌, inl, inr, ℕ, zero, suc, ℤ, Bool, true, false, not, ◌&&◌, ◌||◌, List, [], ◌∷◌, ◌++◌, Option, Some, None, refl, ap, ◌∙◌, cond, IsTrue, if◌then◌else◌}
use Rattle.std.specs.Prelude.{option_map, codes}
use Rattle.std.specs.Ordering.{int_eq}
use Rattle.spec_value.specs.Datum.{Datum, object, Data, no_data, item, Text, is_true}
use Rattle.spec_world.specs.World.{World, Object, Native, NativeName, move_native, create_native, recycle_native, object_at}
use Rattle.spec_world.specs.Permissions.{is_wizard, change_owner, have_child, change_object, administer, may}
use Rattle.spec_world.specs.World.{Link}
use Rattle.spec_value.specs.Table.{at}
use Rattle.spec_world.specs.VerbsSought.{Sought, find_verb}
use Rattle.spec_world.specs.Naming.{location_of}
use Rattle.spec_world.specs.WellFormed.{passes, native_fits}
use Rattle.spec_world.specs.Families as families
use Rattle.spec_world.specs.Families.{next_object, parent_of, is_below, created, reparented, clashes, recycled}
use Rattle.spec_world.specs.Whereabouts.{is_inside, moved}
use Rattle.spec_world.specs.ObjectLaws.{IsPlace}
use Rattle.spec_value.proofs.Entries.{first_holds, second_holds}
use Rattle.spec_world.proofs.ObjectChanges.{at_change}
use Rattle.spec_world.proofs.ObjectsKept.{attributes_keep, created_keeps, moved_keeps, reparented_keeps, recycled_keeps}
use Rattle.spec_world.proofs.WorldsKept.{IsPlayer, IsNobodys, change_rest, created_rest, created_players, moved_rest, moved_players, reparented_rest, reparented_players, recycled_rest, recycled_players, objects_changed}
use Rattle.spec_moo.specs.Scene.{Scene, in_world}
use Rattle.spec_moo.specs.Linking.{link_closed}
use Rattle.spec_moo.specs.NativeEffect.{Caller, NativeEffect}
use Rattle.spec_moo.specs.Natives.Rows.{is_valid, is_valid_or_none, answers_with, zero_value}
use Rattle.spec_moo.specs.Natives.Objects.{valid_row, is_player_row, parent_row, children_row, calls_found, calls_if_there, stage, create_with, create_for, create_row, has_numbers, recycle_now, recycle_row, another_parent, chparent_row, is_there, told_to_enter, later_stage, last_stage, move_now, accepted, move_row, with_flag, set_player_flag_row, object_rows, objects, staged, object_stage}
use Rattle.spec_moo.specs.Worlds.{SceneAgrees, NativeKeeps}

-- the world's next number stays this one
module _ (fixed : ℕ) where
  calls_keep : (s : Scene) (c : Caller) (n : Native) (o : ℤ) (word : Text) (args : Data) (e : NativeEffect) → SceneAgrees fixed s
      → IsTrue (native_fits n.name n.stage n.arguments) → NativeKeeps fixed e → NativeKeeps fixed (calls_if_there s c n o word args e)
  calls_keep s c n o word args e h fits k = go (find_verb s.world o word)
    where
      go : (f : Option Sought) → NativeKeeps fixed (calls_found s c n o word args e f)
      go None = k
      go (Some f) = (h, fits)

  -- ---- what is known of objects

  valid_keeps : (s : Scene) (c : Caller) (args : List Datum) → SceneAgrees fixed s → NativeKeeps fixed (valid_row s c args)
  valid_keeps s c (object o ∷ []) h = h
  valid_keeps s c _ h = h

  is_player_keeps : (s : Scene) (c : Caller) (args : List Datum) → SceneAgrees fixed s → NativeKeeps fixed (is_player_row s c args)
  is_player_keeps s c (object o ∷ []) h = tested fixed (is_valid s o) _ _ h (λ e. h)
  is_player_keeps s c _ h = h

  parent_keeps : (s : Scene) (c : Caller) (args : List Datum) → SceneAgrees fixed s → NativeKeeps fixed (parent_row s c args)
  parent_keeps s c (object o ∷ []) h = tested fixed (is_valid s o) _ _ h (λ e. h)
  parent_keeps s c _ h = h

  children_keep : (s : Scene) (c : Caller) (args : List Datum) → SceneAgrees fixed s → NativeKeeps fixed (children_row s c args)
  children_keep s c (object o ∷ []) h = tested fixed (is_valid s o) _ _ h (λ e. h)
  children_keep s c _ h = h

  -- ---- `create`

  create_with_keeps : (s : Scene) (c : Caller) (p owner : ℤ) (args : List Datum) → SceneAgrees fixed s → IsPlace s.world p → has_numbers s ≡ true
      → IsTrue (native_fits create_native 1 (args ++ object (next_object s.world) ∷ [])) → NativeKeeps fixed (create_with s c p owner args)
  create_with_keeps s c p owner args h at_p room fits =
      let u : World = created s.world p owner in
      let objects = created_keeps s.world p owner h.world.objects room at_p in
      let after : SceneAgrees fixed (in_world s u) =
      objects_then fixed s u h (objects_changed s.world u h.world objects (created_rest s.world p owner) (with_players fixed s.world u (created_players s.world p owner h.world.objects room at_p)))
      (created_rest s.world p owner) in
      calls_keep (in_world s u) c (stage create_native (args ++ object (next_object s.world) ∷ [])) (next_object s.world) (codes "initialize") no_data _ after fits after

  create_for_keeps : (s : Scene) (c : Caller) (p owner : ℤ) (args : List Datum) → SceneAgrees fixed s → IsPlace s.world p
      → IsTrue (native_fits create_native 1 (args ++ object (next_object s.world) ∷ [])) → NativeKeeps fixed (create_for s c p owner args)
  create_for_keeps s c p owner args h at_p fits =
      tested fixed (may s.world c.call.programmer (have_child p) && may s.world c.call.programmer (change_owner c.call.programmer owner)) _ _ h (λ e.
      tested fixed (has_numbers s) _ _ h (λ d. create_with_keeps s c p owner args h at_p d fits))

  create_keeps : (s : Scene) (c : Caller) (args : List Datum) → SceneAgrees fixed s → NativeKeeps fixed (create_row s c args)
  create_keeps s c (object p ∷ []) h =
      tested fixed (is_valid_or_none s p) _ _ h (λ e. create_for_keeps s c p c.call.programmer (object p ∷ []) h (place fixed s p e) refl)
  create_keeps s c (object p ∷ object owner ∷ []) h =
      tested fixed (is_valid_or_none s p && is_valid s owner) _ _ h
      (λ e. create_for_keeps s c p owner (object p ∷ object owner ∷ []) h (place fixed s p (first_holds (is_valid_or_none s p) _ e)) refl)
  create_keeps s c _ h = h

  -- ---- `recycle`

  pub recycle_now_keeps : (s : Scene) (o : ℤ) → SceneAgrees fixed s → SceneAgrees fixed (recycle_now s o)
  recycle_now_keeps s o h = go (is_valid s o)
    where
      t : Scene
      t = link_closed s o

      after : SceneAgrees fixed (in_world t (recycled t.world o))
      after =
          let k = closed_scene fixed s o h in let alone = closed_nobodys fixed s o h in
          objects_then fixed t (recycled t.world o) k
          (objects_changed t.world (recycled t.world o) k.world (recycled_keeps t.world o k.world.objects) (recycled_rest t.world o) (λ c l e p. recycled_players t.world o l.person (alone c l e) p))
          (recycled_rest t.world o)

      go : (b : Bool) → SceneAgrees fixed (if b then in_world t (recycled t.world o) else s)
      go true = after
      go false = h

  recycle_keeps : (s : Scene) (c : Caller) (args : List Datum) → SceneAgrees fixed s → NativeKeeps fixed (recycle_row s c args)
  recycle_keeps s c (object o ∷ []) h =
      tested fixed (is_valid s o) _ _ h (λ e.
      tested fixed (may s.world c.call.programmer (change_object o)) _ _ h (λ d.
      calls_keep s c (stage recycle_native (object o ∷ [])) o (codes "recycle") no_data (answers_with (recycle_now s o) zero_value) h refl (recycle_now_keeps s o h)))
  recycle_keeps s c _ h = h

  -- ---- `chparent`

  another_parent_keeps : (s : Scene) (o p : ℤ) (x : Object) → object_at s.world o ≡ Some x → SceneAgrees fixed s → IsPlace s.world p
      → is_below s.world o p ≡ false → clashes s.world o p ≡ false → SceneAgrees fixed (another_parent s o p)
  another_parent_keeps s o p x is h at_p outside clear = go (int_eq (parent_of (object_at s.world o)) p)
    where
      go : (b : Bool) → SceneAgrees fixed (if b then s else in_world s (reparented s.world o p))
      go true = h
      go false =
          objects_then fixed s (reparented s.world o p) h
          (objects_changed s.world (reparented s.world o p) h.world (reparented_keeps s.world o p x is h.world.objects at_p outside clear) (reparented_rest s.world o p) (with_players fixed s.world (reparented s.world o p) (reparented_players s.world o p)))
          (reparented_rest s.world o p)

  chparent_keeps : (s : Scene) (c : Caller) (args : List Datum) → SceneAgrees fixed s → NativeKeeps fixed (chparent_row s c args)
  chparent_keeps s c (object o ∷ object p ∷ []) h =
      tested fixed (is_valid s o && is_valid_or_none s p) _ _ h (λ e1.
      tested fixed (may s.world c.call.programmer (change_object o) && may s.world c.call.programmer (have_child p)) _ _ h (λ e2.
      tested fixed (not (is_below s.world o p)) _ _ h (λ e3.
      tested fixed (not (clashes s.world o p)) _ _ h (λ e4.
      let x = valid fixed s o (first_holds (is_valid s o) _ e1) in
      another_parent_keeps s o p x.0 x.1 h (place fixed s p (second_holds (is_valid s o) _ e1)) (not_so fixed _ e3) (not_so fixed _ e4)))))
  chparent_keeps s c _ h = h

  -- ---- `move`

  told_keeps : (s : Scene) (c : Caller) (what there before : ℤ) → SceneAgrees fixed s → NativeKeeps fixed (told_to_enter s c what there before)
  told_keeps s c what there before h =
      of_choice fixed (is_there s what there && is_valid s there) _ _
      (λ e. calls_keep s c (last_stage move_native (object what ∷ object there ∷ object before ∷ [])) there (codes "enterfunc") (item (object what) no_data) (answers_with s zero_value) h refl h) (λ e. h)

  move_now_keeps : (s : Scene) (c : Caller) (what there : ℤ) (x : Object) → object_at s.world what ≡ Some x → SceneAgrees fixed s
      → IsPlace s.world there → is_inside s.world what there ≡ false → NativeKeeps fixed (move_now s c what there)
  move_now_keeps s c what there x is h at_p outside =
      of_choice fixed (is_there s what there) _ _ (λ e. h) (λ e.
      calls_keep (in_world s u) c (later_stage move_native (object what ∷ object there ∷ object (location_of (object_at s.world what)) ∷ [])) (location_of (object_at s.world what)) (codes "exitfunc") (item (object what) no_data)
      (told_to_enter (in_world s u) c what there (location_of (object_at s.world what))) after refl (told_keeps (in_world s u) c what there (location_of (object_at s.world what)) after))
    where
      u : World
      u = moved s.world what there

      after : SceneAgrees fixed (in_world s (moved s.world what there))
      after =
          objects_then fixed s (moved s.world what there) h
          (objects_changed s.world (moved s.world what there) h.world (moved_keeps s.world what there x h.world.objects is at_p outside) (moved_rest s.world what there) (with_players fixed s.world (moved s.world what there) (moved_players s.world what there)))
          (moved_rest s.world what there)

  accepted_keeps : (s : Scene) (c : Caller) (what there : ℤ) (let_in : Bool) → SceneAgrees fixed s → NativeKeeps fixed (accepted s c what there let_in)
  accepted_keeps s c what there let_in h =
      tested fixed (let_in || is_wizard s.world c.call.programmer) _ _ h (λ e0.
      tested fixed (is_valid s what && is_valid_or_none s there) _ _ h (λ e1.
      tested fixed (not (is_inside s.world what there)) _ _ h (λ e2.
      let x = valid fixed s what (first_holds (is_valid s what) _ e1) in
      move_now_keeps s c what there x.0 x.1 h (place fixed s there (second_holds (is_valid s what) _ e1)) (not_so fixed _ e2))))

  move_keeps : (s : Scene) (c : Caller) (args : List Datum) → SceneAgrees fixed s → NativeKeeps fixed (move_row s c args)
  move_keeps s c (object what ∷ object there ∷ []) h =
      tested fixed (is_valid s what && is_valid_or_none s there) _ _ h (λ e1.
      tested fixed (may s.world c.call.programmer (change_object what)) _ _ h (λ e2.
      tested fixed (not (is_inside s.world what there)) _ _ h (λ e3.
      of_choice fixed (is_valid s there) _ _
      (λ e4. calls_keep s c (stage move_native (object what ∷ object there ∷ [])) there (codes "accept") (item (object what) no_data) (accepted s c what there (is_true zero_value)) h refl (accepted_keeps s c what there (is_true zero_value) h))
      (λ e4. let x = valid fixed s what (first_holds (is_valid s what) _ e1) in
      move_now_keeps s c what there x.0 x.1 h (place fixed s there (second_holds (is_valid s what) _ e1)) (not_so fixed _ e3)))))
  move_keeps s c _ h = h

  -- ---- `set_player_flag`

  abbrev with_player_flag : Bool → Object → Object
  with_player_flag flag x = record x { header = record (x.header) { is_player = flag } }

  flag_players : (w : World) (o q : ℤ) (flag : Bool) → (flag ≡ true) ⊎ (int_eq q o ≡ false) → IsPlayer w q
      → IsPlayer (families.change_object w o (with_player_flag flag)) q
  flag_players w o q flag why h = ap (λ m. passes m (λ x. x.header.is_player)) (at_change w o q (with_player_flag flag)) ∙ go (object_at w q) (int_eq q o) refl why h
    where
      go : (m : Option Object) (b : Bool) → int_eq q o ≡ b → (flag ≡ true) ⊎ (int_eq q o ≡ false) → IsTrue (passes m (λ x. x.header.is_player))
          → IsTrue (passes (option_map (λ y. cond b (with_player_flag flag y) y) m) (λ x. x.header.is_player))
      go None b s k j = j
      go (Some y) false s k j = j
      go (Some y) true s (inl k) j = k
      go (Some y) true s (inr k) j = absurd (cc (s, k))

  flag_keeps : (s : Scene) (o : ℤ) (flag : Bool) → SceneAgrees fixed s → (flag ≡ true) ⊎ IsNobodys s.world o → SceneAgrees fixed (with_flag s o flag)
  flag_keeps s o flag h why =
      let u : World = families.change_object s.world o (with_player_flag flag) in
      objects_then fixed s u h
      (objects_changed s.world u h.world
      (attributes_keep s.world o (with_player_flag flag) h.world.objects (λ x. record { parent = refl; location = refl; children = refl; contents = refl; defines = refl; slots = refl }))
      (change_rest s.world o (with_player_flag flag)) (λ c k e p. flag_players s.world o k.person flag (go why c k e) p))
      (change_rest s.world o (with_player_flag flag))
    where
      go : (flag ≡ true) ⊎ IsNobodys s.world o → (c : ℤ) (k : Link) → at s.world.links c ≡ Some k → (flag ≡ true) ⊎ (int_eq k.person o ≡ false)
      go (inl e) c k is = inl e
      go (inr e) c k is = inr (e c k is)

  set_player_flag_keeps : (s : Scene) (c : Caller) (args : List Datum) → SceneAgrees fixed s → NativeKeeps fixed (set_player_flag_row s c args)
  set_player_flag_keeps s c (object o ∷ x ∷ []) h =
      tested fixed (is_valid s o) _ _ h (λ e1.
      tested fixed (may s.world c.call.programmer administer) _ _ h (λ e2. go (is_true x)))
    where
      go : (b : Bool) → SceneAgrees fixed (if b then with_flag s o b else with_flag (link_closed s o) o b)
      go true = flag_keeps s o true h (inl refl)
      go false = flag_keeps (link_closed s o) o false (closed_scene fixed s o h) (inr (closed_nobodys fixed s o h))
  set_player_flag_keeps s c _ h = h

  -- ---- the group

  all_rows : AllKeep fixed object_rows
  all_rows =
      (valid_keeps, (is_player_keeps, (parent_keeps, (children_keep, ((λ s c args h. h), ((λ s c args h. h), (create_keeps, (recycle_keeps, (chparent_keeps, (move_keeps, (set_player_flag_keeps, tt)))))))))))

  pub objects_keep : (s : Scene) (c : Caller) (name : Text) (args : List Datum) → SceneAgrees fixed s → SomeKeeps fixed (objects s c name args)
  objects_keep = group_keeps fixed object_rows all_rows

  pub stage_keeps : (s : Scene) (c : Caller) (n : Native) (v : Datum) → SceneAgrees fixed s → NativeKeeps fixed (object_stage s c n v)
  stage_keeps s c n v h = go n.name n.stage n.arguments
    where
      go : (name : NativeName) (k : ℕ) (args : List Datum) → NativeKeeps fixed (staged s c name k args v)
      go move_native (suc zero) (object what ∷ object there ∷ []) = accepted_keeps s c what there (is_true v) h
      go move_native (suc (suc zero)) (object what ∷ object there ∷ object before ∷ []) = told_keeps s c what there before h
      go create_native k args = h
      go recycle_native k (object o ∷ []) = recycle_now_keeps s o h
      go _ _ _ = h
