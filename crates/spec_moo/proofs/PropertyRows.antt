-- Built-in functions over properties, and over verbs, keep what a world's objects, links and tasks agree on; so does an assignment to a property.
use Rattle.spec_moo.proofs.NativeWorlds.{objects_then, with_players, tested, there, not_so, SomeKeeps, group_keeps}
use Rattle.std.proofs.Common.{◌≡◌, ℕ, ℤ, Bool, true, false, not, ◌&&◌, List, [], ◌∷◌, ◌++◌, Option, Some, None, refl, sym, ap, ◌∙◌, subst, IsTrue, is_some, is_none, if◌then◌else◌}
use Rattle.std.specs.Prelude.{codes}
use Rattle.spec_value.specs.Datum.{Datum, integer, object, text, error, list, no_data, item, Text, fold_case, is_true, property_not_found, verb_not_found, invalid_argument, permission_denied, ErrorCode}
use Rattle.spec_program.specs.ReadPrograms.{Parsed, program, faulty, parsed, parsed_lines}
use Rattle.spec_world.specs.World.{World, Object, Slot, Verb, object_at, with_object}
use Rattle.spec_world.specs.Inherit.{slot_of, slot_at, content_of, with_slot}
use Rattle.spec_world.specs.Agreeing.{ObjectsAgree}
use Rattle.spec_world.specs.Permissions as act
use Rattle.spec_world.specs.Permissions.{in_place, list_members, change_members, change_owner, read_verb, write_verb, program_verb, evaluate, may}
use Rattle.spec_world.specs.Families as families
use Rattle.spec_world.specs.Families.{change_at, is_below}
use Rattle.spec_world.specs.Members.{property_added, property_deleted, verb_added, verb_deleted, verb_changed, with_verb, without_verb}
use Rattle.spec_world.specs.ObjectLaws.{SameRelations, Defines}
use Rattle.spec_world.proofs.Trees.{some_same, path_from}
use Rattle.spec_value.proofs.Entries.{first_holds, second_holds}
use Rattle.spec_world.proofs.WorldTrees.{parents}
use Rattle.spec_world.proofs.Households.{household}
use Rattle.spec_world.proofs.PropertyChanges.{none_passes}
use Rattle.spec_world.proofs.ObjectsKept.{attributes_keep, content_keeps, property_added_keeps, property_deleted_keeps}
use Rattle.spec_world.proofs.WorldsKept.{Rest, change_rest, change_players, slot_rest, slot_players, added_players, deleted_players, objects_changed}
use Rattle.spec_moo.specs.Scene.{Scene, in_world}
use Rattle.spec_moo.specs.Properties.{BuiltInProperty, own_name, own_owner, own_location, own_contents, programmer_flag, wizard_flag, r_bit, w_bit, f_bit, built_in, with_built_in, Written, wrote, refused, write_built_in, write_slot, write_valid, write_object, write, writing}
use Rattle.spec_moo.specs.NativeEffect.{Caller, NativeEffect}
use Rattle.spec_moo.specs.Natives.Rows.{is_valid}
use Rattle.spec_moo.specs.Natives.Properties.{are_bits, with_slot_bits, properties_row, property_info_row, set_property_info_row, is_clear_property_row, defines_it, clear_property_row, defined_below, is_new_name, slot_with, add_property_row, delete_property_row, property_rows, properties}
use Rattle.spec_moo.specs.Natives.Verbs.{verb_place, if_verb, verbs_row, with_info, info_fits, verb_info_row, set_verb_info_row, specifier, with_specifier, verb_args_row, set_verb_args_row, new_verb, add_verb_row, delete_verb_row, verb_code_row, texts_of, programmed, set_verb_code_row, evaluated, eval_row, verb_rows, verbs}
use Rattle.spec_moo.specs.Worlds.{SceneAgrees, NativeKeeps}

-- the world's next number stays this one
module _ (fixed : ℕ) where
  -- ---- a slot that is there

  filled_slot : (w : World) (o : ℤ) (p : Text) (x : Object) (t : Slot) → ObjectsAgree w → object_at w o ≡ Some x → slot_at w o p ≡ Some t
      → Defines x p → IsTrue (is_some t.content)
  filled_slot w o p x t h is found defined =
      let house = household w h in let way = path_from (parents w) house.family o in
      subst (λ m. IsTrue (is_some (content_of m))) (sym (ap (λ y. slot_of y p) is) ∙ found) ((house.own o x way.0 is way.1).filled (fold_case p) defined)

  slot_then : (s : Scene) (o : ℤ) (p : Text) (t u : Slot) → SceneAgrees fixed s → slot_at s.world o p ≡ Some t
      → ((x : Object) → object_at s.world o ≡ Some x → Defines x p → IsTrue (is_some u.content)) → SceneAgrees fixed (in_world s (with_slot s.world o p u))
  slot_then s o p t u h found full =
      let v : World = with_slot s.world o p u in
      objects_then fixed s v h
      (objects_changed s.world v h.world (content_keeps s.world o p t u h.world.objects found full) (slot_rest s.world o p u) (with_players fixed s.world v (slot_players s.world o p u)))
      (slot_rest s.world o p u)

  added_rest : (w : World) (o : ℤ) (p : Text) (t : Slot) → Rest w (property_added w o p t)
  unfolding property_added
  added_rest w o p t = record { links = refl; tasks = refl; next = refl }

  deleted_rest : (w : World) (o : ℤ) (p : Text) → Rest w (property_deleted w o p)
  unfolding property_deleted
  deleted_rest w o p = record { links = refl; tasks = refl; next = refl }

  -- ---- properties

  properties_keep : (s : Scene) (c : Caller) (args : List Datum) → SceneAgrees fixed s → NativeKeeps fixed (properties_row s c args)
  properties_keep s c (object o ∷ []) h = there fixed s invalid_argument (object_at s.world o) _ h (λ x e. tested fixed (may s.world c.call.programmer (list_members o)) _ _ h (λ d. h))
  properties_keep s c _ h = h

  info_keeps : (s : Scene) (c : Caller) (args : List Datum) → SceneAgrees fixed s → NativeKeeps fixed (property_info_row s c args)
  info_keeps s c (object o ∷ text p ∷ []) h =
      there fixed s invalid_argument (object_at s.world o) _ h (λ x e. there fixed s property_not_found (slot_at s.world o p) _ h (λ t d. tested fixed (may s.world c.call.programmer (act.read_slot o p)) _ _ h (λ k. h)))
  info_keeps s c _ h = h

  set_info_keeps : (s : Scene) (c : Caller) (args : List Datum) → SceneAgrees fixed s → NativeKeeps fixed (set_property_info_row s c args)
  set_info_keeps s c (object o ∷ text p ∷ list (item (object owner) (item (text b) no_data)) ∷ []) h =
      there fixed s invalid_argument (object_at s.world o) _ h (λ x e. there fixed s property_not_found (slot_at s.world o p) _ h (λ t d.
      tested fixed (may s.world c.call.programmer (act.write_slot o p)) _ _ h (λ k1.
      tested fixed (may s.world c.call.programmer (change_owner t.owner owner)) _ _ h (λ k2.
      tested fixed (are_bits (codes "rwc") b && is_valid s owner) _ _ h (λ k3.
      slot_then s o p t (with_slot_bits t owner b) h d (λ y is k. filled_slot s.world o p y t h.world.objects is d k))))))
  set_info_keeps s c _ h = h

  is_clear_keeps : (s : Scene) (c : Caller) (args : List Datum) → SceneAgrees fixed s → NativeKeeps fixed (is_clear_property_row s c args)
  is_clear_keeps s c (object o ∷ text p ∷ []) h =
      there fixed s invalid_argument (object_at s.world o) _ h (λ x e. there fixed s property_not_found (slot_at s.world o p) _ h (λ t d. tested fixed (may s.world c.call.programmer (act.read_slot o p)) _ _ h (λ k. h)))
  is_clear_keeps s c _ h = h

  clear_keeps : (s : Scene) (c : Caller) (args : List Datum) → SceneAgrees fixed s → NativeKeeps fixed (clear_property_row s c args)
  clear_keeps s c (object o ∷ text p ∷ []) h =
      there fixed s invalid_argument (object_at s.world o) _ h (λ y e. there fixed s property_not_found (slot_at s.world o p) _ h (λ t d.
      there fixed s invalid_argument (object_at s.world o) _ h (λ x e.
      tested fixed (may s.world c.call.programmer (act.write_slot o p)) _ _ h (λ k1.
      tested fixed (not (defines_it x p)) _ _ h (λ k2. slot_then s o p t (record t { content = None }) h d (λ z is k. never x z e is (not_so fixed _ k2) k))))))
    where
      never : (x z : Object) → object_at s.world o ≡ Some x → object_at s.world o ≡ Some z → defines_it x p ≡ false → Defines z p → IsTrue false
      never x z e is known k = let same : x ≡ z = some_same (sym e ∙ is) in let clash : defines_it z p ≡ false = subst (λ y. defines_it y p ≡ false) same known in absurd (cc (clash, k))
  clear_keeps s c _ h = h

  add_keeps : (s : Scene) (c : Caller) (args : List Datum) → SceneAgrees fixed s → NativeKeeps fixed (add_property_row s c args)
  add_keeps s c (object o ∷ text p ∷ v ∷ list (item (object owner) (item (text b) no_data)) ∷ []) h =
      there fixed s invalid_argument (object_at s.world o) _ h (λ x e.
      tested fixed (may s.world c.call.programmer (change_members o)) _ _ h (λ k1.
      tested fixed (may s.world c.call.programmer (change_owner c.call.programmer owner)) _ _ h (λ k2.
      tested fixed (is_new_name s o p && are_bits (codes "rwc") b && is_valid s owner) _ _ h (λ k3. go x e (first_holds (is_new_name s o p) _ (first_holds _ (is_valid s owner) k3))))))
    where
      none : (m : Option Slot) → is_none m ≡ true → m ≡ None
      none None k = refl
      none (Some z) k = cc

      go : (x : Object) → object_at s.world o ≡ Some x → is_new_name s o p ≡ true
          → SceneAgrees fixed (in_world s (property_added s.world o p (slot_with v owner b)))
      go x e k =
          let above : slot_at s.world o p ≡ None = none _ (second_holds _ (is_none (slot_at s.world o p)) (first_holds _ (not (defined_below s.world o p)) k)) in
          let below : defined_below s.world o p ≡ false = not_so fixed _ (second_holds _ (not (defined_below s.world o p)) k) in
          let u : World = property_added s.world o p (slot_with v owner b) in
          objects_then fixed s u h
          (objects_changed s.world u h.world
          (property_added_keeps s.world o p (slot_with v owner b) x e h.world.objects refl above
          (λ q y is under. sym (ap (λ a. a && defines_it y p) under) ∙ none_passes (λ d z. is_below s.world o d && defines_it z p) s.world.objects below q y is))
          (added_rest s.world o p (slot_with v owner b)) (with_players fixed s.world u (added_players s.world o p (slot_with v owner b))))
          (added_rest s.world o p (slot_with v owner b))
  add_keeps s c _ h = h

  delete_keeps : (s : Scene) (c : Caller) (args : List Datum) → SceneAgrees fixed s → NativeKeeps fixed (delete_property_row s c args)
  delete_keeps s c (object o ∷ text p ∷ []) h =
      there fixed s invalid_argument (object_at s.world o) _ h (λ x e.
      tested fixed (defines_it x p) _ _ h (λ k1.
      tested fixed (may s.world c.call.programmer (change_members o)) _ _ h (λ k2.
      let u : World = property_deleted s.world o p in
      objects_then fixed s u h
      (objects_changed s.world u h.world (property_deleted_keeps s.world o p x e h.world.objects k1) (deleted_rest s.world o p) (with_players fixed s.world u (deleted_players s.world o p)))
      (deleted_rest s.world o p))))
  delete_keeps s c _ h = h

  pub properties_group : (s : Scene) (c : Caller) (name : Text) (args : List Datum) → SceneAgrees fixed s → SomeKeeps fixed (properties s c name args)
  properties_group = group_keeps fixed property_rows (properties_keep, (info_keeps, (set_info_keeps, (add_keeps, (delete_keeps, (is_clear_keeps, (clear_keeps, tt)))))))

  -- ---- attributes of an object, and its verbs

  attributes_then : (s : Scene) (o : ℤ) (f : Object → Object) → SceneAgrees fixed s → ((x : Object) → SameRelations x (f x))
      → ((x : Object) → (f x).header.is_player ≡ x.header.is_player) → SceneAgrees fixed (in_world s (families.change_object s.world o f))
  attributes_then s o f h same player =
      let u : World = families.change_object s.world o f in
      objects_then fixed s u h
      (objects_changed s.world u h.world (attributes_keep s.world o f h.world.objects same) (change_rest s.world o f) (with_players fixed s.world u (change_players s.world o f player)))
      (change_rest s.world o f)

  pub changed_verb : (s : Scene) (o : ℤ) (n : ℕ) (f : Verb → Verb) → SceneAgrees fixed s → SceneAgrees fixed (in_world s (verb_changed s.world o n f))
  unfolding verb_changed
  changed_verb s o n f h =
      attributes_then s o (λ x. record x { verbs = with_verb x.verbs n f }) h (λ x. record { parent = refl; location = refl; children = refl; contents = refl; defines = refl; slots = refl }) (λ x. refl)

  added_verb : (s : Scene) (o : ℤ) (v : Verb) → SceneAgrees fixed s → SceneAgrees fixed (in_world s (verb_added s.world o v))
  unfolding verb_added
  added_verb s o v h =
      attributes_then s o (λ x. record x { verbs = x.verbs ++ v ∷ [] }) h (λ x. record { parent = refl; location = refl; children = refl; contents = refl; defines = refl; slots = refl }) (λ x. refl)

  deleted_verb : (s : Scene) (o : ℤ) (n : ℕ) → SceneAgrees fixed s → SceneAgrees fixed (in_world s (verb_deleted s.world o n))
  unfolding verb_deleted
  deleted_verb s o n h =
      attributes_then s o (λ x. record x { verbs = without_verb x.verbs n }) h (λ x. record { parent = refl; location = refl; children = refl; contents = refl; defines = refl; slots = refl }) (λ x. refl)

  -- ---- verbs

  verb_there : (s : Scene) (o : ℤ) (d : Datum) (f : ℕ → Verb → NativeEffect) → SceneAgrees fixed s → ((n : ℕ) (v : Verb) → NativeKeeps fixed (f n v))
      → NativeKeeps fixed (if_verb s o d f)
  verb_there s o d f h more =
      there fixed s invalid_argument (object_at s.world o) _ h (λ x e. there fixed s verb_not_found (verb_place x.verbs d) _ h (λ n k. there fixed s verb_not_found (in_place x.verbs n) (f n) h (λ v l. more n v)))

  verbs_keep : (s : Scene) (c : Caller) (args : List Datum) → SceneAgrees fixed s → NativeKeeps fixed (verbs_row s c args)
  verbs_keep s c (object o ∷ []) h = there fixed s invalid_argument (object_at s.world o) _ h (λ x e. tested fixed (may s.world c.call.programmer (list_members o)) _ _ h (λ d. h))
  verbs_keep s c _ h = h

  verb_info_keeps : (s : Scene) (c : Caller) (args : List Datum) → SceneAgrees fixed s → NativeKeeps fixed (verb_info_row s c args)
  verb_info_keeps s c (object o ∷ d ∷ []) h = verb_there s o d _ h (λ n v. tested fixed (may s.world c.call.programmer (read_verb o n)) _ _ h (λ k. h))
  verb_info_keeps s c _ h = h

  set_verb_info_keeps : (s : Scene) (c : Caller) (args : List Datum) → SceneAgrees fixed s → NativeKeeps fixed (set_verb_info_row s c args)
  set_verb_info_keeps s c (object o ∷ d ∷ list (item (object owner) (item (text b) (item (text names) no_data))) ∷ []) h =
      verb_there s o d _ h (λ n v.
      tested fixed (may s.world c.call.programmer (write_verb o n)) _ _ h (λ k1.
      tested fixed (may s.world c.call.programmer (change_owner v.owner owner)) _ _ h (λ k2.
      tested fixed (info_fits s owner b names) _ _ h (λ k3. changed_verb s o n (with_info owner b names) h))))
  set_verb_info_keeps s c _ h = h

  verb_args_keep : (s : Scene) (c : Caller) (args : List Datum) → SceneAgrees fixed s → NativeKeeps fixed (verb_args_row s c args)
  verb_args_keep s c (object o ∷ d ∷ []) h = verb_there s o d _ h (λ n v. tested fixed (may s.world c.call.programmer (read_verb o n)) _ _ h (λ k. h))
  verb_args_keep s c _ h = h

  set_verb_args_keep : (s : Scene) (c : Caller) (args : List Datum) → SceneAgrees fixed s → NativeKeeps fixed (set_verb_args_row s c args)
  set_verb_args_keep s c (object o ∷ d ∷ list (item (text t) (item (text p) (item (text i) no_data))) ∷ []) h =
      verb_there s o d _ h (λ n v.
      tested fixed (may s.world c.call.programmer (write_verb o n)) _ _ h (λ k1. there fixed s invalid_argument (specifier t p i) _ h (λ a e. changed_verb s o n (with_specifier a) h)))
  set_verb_args_keep s c _ h = h

  add_verb_keeps : (s : Scene) (c : Caller) (args : List Datum) → SceneAgrees fixed s → NativeKeeps fixed (add_verb_row s c args)
  add_verb_keeps s c (object o ∷ list (item (object owner) (item (text b) (item (text names) no_data))) ∷ list (item (text t) (item (text p) (item (text i) no_data))) ∷ []) h =
      there fixed s invalid_argument (object_at s.world o) _ h (λ x e.
      tested fixed (may s.world c.call.programmer (change_members o)) _ _ h (λ k1.
      tested fixed (may s.world c.call.programmer (change_owner c.call.programmer owner)) _ _ h (λ k2.
      tested fixed (info_fits s owner b names) _ _ h (λ k3. there fixed s invalid_argument (specifier t p i) _ h (λ a d. added_verb s o (new_verb a owner b names) h)))))
  add_verb_keeps s c _ h = h

  delete_verb_keeps : (s : Scene) (c : Caller) (args : List Datum) → SceneAgrees fixed s → NativeKeeps fixed (delete_verb_row s c args)
  delete_verb_keeps s c (object o ∷ d ∷ []) h = verb_there s o d _ h (λ n v. tested fixed (may s.world c.call.programmer (change_members o)) _ _ h (λ k. deleted_verb s o n h))
  delete_verb_keeps s c _ h = h

  verb_code_keeps : (s : Scene) (c : Caller) (args : List Datum) → SceneAgrees fixed s → NativeKeeps fixed (verb_code_row s c args)
  verb_code_keeps s c (object o ∷ d ∷ []) h = verb_there s o d _ h (λ n v. tested fixed (may s.world c.call.programmer (read_verb o n)) _ _ h (λ k. h))
  verb_code_keeps s c _ h = h

  set_verb_code_keeps : (s : Scene) (c : Caller) (args : List Datum) → SceneAgrees fixed s → NativeKeeps fixed (set_verb_code_row s c args)
  set_verb_code_keeps s c (object o ∷ d ∷ list lines ∷ []) h =
      verb_there s o d _ h (λ n v. tested fixed (may s.world c.call.programmer (program_verb o n)) _ _ h (λ k. go n (parsed_lines (texts_of lines))))
    where
      go : (n : ℕ) (r : Parsed) → NativeKeeps fixed (programmed s o n r)
      go n (program p) = changed_verb s o n (λ v. record v { program = p }) h
      go n (faulty f) = h
  set_verb_code_keeps s c _ h = h

  eval_keeps : (s : Scene) (c : Caller) (args : List Datum) → SceneAgrees fixed s → NativeKeeps fixed (eval_row s c args)
  eval_keeps s c (text t ∷ []) h = tested fixed (may s.world c.call.programmer evaluate) _ _ h (λ k. go (parsed t))
    where
      go : (r : Parsed) → NativeKeeps fixed (evaluated s c t r)
      go (program p) = (h, refl)
      go (faulty f) = h
  eval_keeps s c _ h = h

  pub verbs_group : (s : Scene) (c : Caller) (name : Text) (args : List Datum) → SceneAgrees fixed s → SomeKeeps fixed (verbs s c name args)
  verbs_group =
      group_keeps fixed verb_rows
      (verbs_keep, (verb_info_keeps, (set_verb_info_keeps, (verb_args_keep, (set_verb_args_keep, (add_verb_keeps, (delete_verb_keeps, (verb_code_keeps, (set_verb_code_keeps, (eval_keeps, tt))))))))))

  -- ---- an assignment to a property

  abbrev pub WrittenKeeps : Scene → Written → Type 0
  WrittenKeeps s (wrote w) = SceneAgrees fixed (in_world s w)
  WrittenKeeps s (refused e) = Unit {0}

  written_if : (s : Scene) (b : Bool) (w : World) (e : ErrorCode) → (b ≡ true → SceneAgrees fixed (in_world s w))
      → WrittenKeeps s (if b then wrote w else refused e)
  written_if s true w e h = h refl
  written_if s false w e h = tt

  built_in_keeps : (s : Scene) (o : ℤ) (x : Object) (b : BuiltInProperty) (v : Datum) (allowed : Bool) → SceneAgrees fixed s
      → object_at s.world o ≡ Some x → WrittenKeeps s (write_built_in s.world o allowed (with_built_in x b v))
  built_in_keeps s o x b v allowed h is = go b v
    where
      as_change : (f : Object → Object) → families.change_object s.world o f ≡ with_object s.world o (f x)
      as_change f = ap (change_at s.world o f) is

      by : (f : Object → Object) → ((y : Object) → SameRelations y (f y)) → ((y : Object) → (f y).header.is_player ≡ y.header.is_player)
          → WrittenKeeps s (if allowed then wrote (with_object s.world o (f x)) else refused permission_denied)
      by f same player = written_if s allowed (with_object s.world o (f x)) _ (λ k. subst (λ w. SceneAgrees fixed (in_world s w)) (as_change f) (attributes_then s o f h same player))

      go : (b : BuiltInProperty) (v : Datum) → WrittenKeeps s (write_built_in s.world o allowed (with_built_in x b v))
      go own_name (text t) = by (λ y. record y { header = record (y.header) { name = t } }) (λ y. record { parent = refl; location = refl; children = refl; contents = refl; defines = refl; slots = refl }) (λ y. refl)
      go own_name v = tt
      go own_owner (object q) = by (λ y. record y { header = record (y.header) { owner = q } }) (λ y. record { parent = refl; location = refl; children = refl; contents = refl; defines = refl; slots = refl }) (λ y. refl)
      go own_owner v = tt
      go programmer_flag v = by (λ y. record y { header = record (y.header) { is_programmer = is_true v } }) (λ y. record { parent = refl; location = refl; children = refl; contents = refl; defines = refl; slots = refl }) (λ y. refl)
      go wizard_flag v = by (λ y. record y { header = record (y.header) { is_wizard = is_true v } }) (λ y. record { parent = refl; location = refl; children = refl; contents = refl; defines = refl; slots = refl }) (λ y. refl)
      go r_bit v = by (λ y. record y { header = record (y.header) { readable = is_true v } }) (λ y. record { parent = refl; location = refl; children = refl; contents = refl; defines = refl; slots = refl }) (λ y. refl)
      go w_bit v = by (λ y. record y { header = record (y.header) { writable = is_true v } }) (λ y. record { parent = refl; location = refl; children = refl; contents = refl; defines = refl; slots = refl }) (λ y. refl)
      go f_bit v = by (λ y. record y { header = record (y.header) { fertile = is_true v } }) (λ y. record { parent = refl; location = refl; children = refl; contents = refl; defines = refl; slots = refl }) (λ y. refl)
      go own_location v = by (λ y. y) (λ y. record { parent = refl; location = refl; children = refl; contents = refl; defines = refl; slots = refl }) (λ y. refl)
      go own_contents v = by (λ y. y) (λ y. record { parent = refl; location = refl; children = refl; contents = refl; defines = refl; slots = refl }) (λ y. refl)

  pub write_keeps : (s : Scene) (who : ℤ) (x y v : Datum) → SceneAgrees fixed s → WrittenKeeps s (write s.world who x y v)
  unfolding write
  write_keeps s who (object o) (text p) v h = go (object_at s.world o) refl
    where
      on_slot : (m : Option Slot) → slot_at s.world o p ≡ m → WrittenKeeps s (write_slot s.world who o p v m)
      on_slot None e = tt
      on_slot (Some t) e = written_if s (may s.world who (act.write_slot o p)) _ _ (λ k. slot_then s o p t (record t { content = Some v }) h e (λ z is d. refl))

      on_object : (x : Object) → object_at s.world o ≡ Some x → (b : Option BuiltInProperty) → WrittenKeeps s (write_valid s.world who o p v x b)
      on_object x is (Some b) = built_in_keeps s o x b v (may s.world who (writing o b)) h is
      on_object x is None = on_slot (slot_at s.world o p) refl

      go : (m : Option Object) → object_at s.world o ≡ m → WrittenKeeps s (write_object s.world who o p v m)
      go None e = tt
      go (Some x) e = on_object x e (built_in p)
  write_keeps s who (object o) (integer n) v h = tt
  write_keeps s who (object o) (object n) v h = tt
  write_keeps s who (object o) (error n) v h = tt
  write_keeps s who (object o) (list n) v h = tt
  write_keeps s who (integer o) y v h = tt
  write_keeps s who (text o) y v h = tt
  write_keeps s who (error o) y v h = tt
  write_keeps s who (list o) y v h = tt
