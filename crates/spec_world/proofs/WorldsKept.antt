-- A world's objects, links and tasks agree after each change: of objects, of links, of the queue, of the next number.
use Rattle.std.proofs.Common.{◌≡◌, ◌⊎◌, inl, inr, ℕ, ◌≤◌, ◌*◌, ◌-◌, ℤ, pos, negsuc, Bool, true, false, not, ◌&&◌, ◌||◌, List, [], ◌∷◌, ◌++◌, map, Option, Some, None, refl, sym, ap, ◌∙◌, subst, cond, arith, IsTrue, is_some, le-leb, leb-true}
use Rattle.std.specs.Prelude.{neg_ℤ, ◌-ℤ◌, option_map, int_le, nat_le}
use Rattle.std.specs.Ordering.{int_eq}
use Rattle.std.specs.List.{list_all, filter}
use Rattle.std.specs.Cmp.{int_cmp_total}
use Rattle.spec_value.specs.Datum.{Text, fold_case}
use Rattle.spec_value.specs.Table.{Numbered, with_name, at, with, without, is_numbered}
use Rattle.spec_world.specs.World.{World, Object, Slot, Entry, frame_entry, native_entry, Task, Waiting, forked, timed, idle, reading_on, Link, object_at, with_object}
use Rattle.spec_world.specs.Inherit.{put_slot, with_slot}
use Rattle.spec_world.specs.WellFormed.{OfEachLink, passes, on_object, lists, once, is_connection, link_fits, id_fits, waiting_fits, wait_fits, TaskStands, read_by, links_read, begins_with_frame, frames, entry_fits, IsWellFormed}
use Rattle.spec_world.specs.Agreeing.{frame_holds, WellFormedAgrees, AgreesIsWellFormed, native_holds, EntriesHold, ObjectsAgree, QueueAgrees, Agrees}
use Rattle.spec_world.specs.Families.{heir_slot, nowhere, change_at, change_object, change_each, next_object, child_of, created, is_below, heir_of, with_heirs, lose_child, reparented, reparented_each, to_nowhere, out_of_place, recycled_object, recycled, parent_of, leave_out}
use Rattle.spec_world.specs.Whereabouts.{moved}
use Rattle.spec_world.specs.Members.{with_own_slot, defining, not_defining, lose_slot, property_added, property_deleted}
use Rattle.spec_world.specs.Naming.{location_of}
use Rattle.spec_world.specs.Links.{connection_among, connection_of, reads_on, reader_among, open_link, close_link}
use Rattle.spec_value.proofs.Entries.{first_holds, second_holds, both_hold}
use Rattle.spec_value.proofs.Keys.{still_sorted}
use Rattle.spec_value.proofs.Same.{same_integer, integer_itself}
use Rattle.spec_world.proofs.Trees.{same_or_not, turned, some_same, either, first_of, second_of}
use Rattle.spec_world.proofs.Households.{household, objects_agree, objects_of, at_put, at_each, at_without, without_numbered}
use Rattle.spec_world.proofs.ObjectChanges.{at_change, StaysThere, same_stays, stays_household}
use Rattle.spec_world.proofs.NewObjects.{free}
use Rattle.spec_world.proofs.Recycling.{below_none}
use Rattle.spec_world.proofs.TablesKept.{held_by, held_once, left_once, same_held, at_with, at_left, left_numbered, neither, first_no, last_no}

-- ---- what a change of objects leaves: the rest of the world, and who is a player

abbrev pub IsPlayer : World → ℤ → Type 0
IsPlayer w q = IsTrue (on_object w q (λ x. x.header.is_player))

pub record Rest (w u : World) : Type 0 where
  pub links : u.links ≡ w.links
  pub tasks : u.tasks ≡ w.tasks
  pub next : u.next ≡ w.next

abbrev pub PlayersStay : World → World → Type 0
PlayersStay w u = (q : ℤ) → IsPlayer w q → IsPlayer u q

pub then_rest : (w u v : World) → Rest w u → Rest u v → Rest w v
then_rest w u v r s = record { links = s.links ∙ r.links; tasks = s.tasks ∙ r.tasks; next = s.next ∙ r.next }

pub change_rest : (w : World) (o : ℤ) (f : Object → Object) → Rest w (change_object w o f)
change_rest w o f = go (object_at w o)
  where
    go : (y : Option Object) → Rest w (change_at w o f y)
    go None = record { links = refl; tasks = refl; next = refl }
    go (Some x) = record { links = refl; tasks = refl; next = refl }

abbrev SamePlayer : (Object → Object) → Type 0
SamePlayer f = (x : Object) → (f x).header.is_player ≡ x.header.is_player

pub change_players : (w : World) (o : ℤ) (f : Object → Object) → SamePlayer f → PlayersStay w (change_object w o f)
change_players w o f same q h = ap (λ m. passes m (λ x. x.header.is_player)) (at_change w o q f) ∙ go (object_at w q) (int_eq q o) h
  where
    go : (m : Option Object) (b : Bool) → IsTrue (passes m (λ x. x.header.is_player))
        → IsTrue (passes (option_map (λ y. cond b (f y) y) m) (λ x. x.header.is_player))
    go None b k = k
    go (Some y) true k = same y ∙ k
    go (Some y) false k = k

each_players : (w : World) (f : ℤ → Object → Object) → ((q : ℤ) → SamePlayer (f q)) → PlayersStay w (change_each w f)
each_players w f same q h = ap (λ m. passes m (λ x. x.header.is_player)) (at_each w q f) ∙ go (object_at w q) h
  where
    go : (m : Option Object) → IsTrue (passes m (λ x. x.header.is_player)) → IsTrue (passes (option_map (f q) m) (λ x. x.header.is_player))
    go None k = k
    go (Some y) k = same q y ∙ k

pub slot_rest : (w : World) (o : ℤ) (p : Text) (t : Slot) → Rest w (with_slot w o p t)
unfolding with_slot
slot_rest w o p t = go (object_at w o)
  where
    go : (y : Option Object) → Rest w (put_slot w o p t y)
    go None = record { links = refl; tasks = refl; next = refl }
    go (Some x) = record { links = refl; tasks = refl; next = refl }

pub slot_players : (w : World) (o : ℤ) (p : Text) (t : Slot) → PlayersStay w (with_slot w o p t)
unfolding with_slot
slot_players w o p t q h =
    subst (λ u. IsPlayer u q) (sym (as_change (object_at w o))) (change_players w o (λ x. record x { slots = with_name x.slots (fold_case p) t }) (λ x. refl) q h)
  where
    as_change : (y : Option Object) → put_slot w o p t y ≡ change_at w o (λ x. record x { slots = with_name x.slots (fold_case p) t }) y
    as_change None = refl
    as_change (Some x) = refl

pub added_players : (w : World) (o : ℤ) (p : Text) (s : Slot) → PlayersStay w (property_added w o p s)
unfolding property_added
added_players w o p s = each_players w _ same
  where
    same : (q : ℤ) (x : Object)
        → (cond (int_eq q o) (defining x p s) (cond (is_below w o q) (with_own_slot x p (heir_slot x.header.owner s)) x)).header.is_player ≡ x.header.is_player
    same q x = go (int_eq q o) (is_below w o q)
      where
        go : (b c : Bool) → (cond b (defining x p s) (cond c (with_own_slot x p (heir_slot x.header.owner s)) x)).header.is_player ≡ x.header.is_player
        go true c = refl
        go false true = refl
        go false false = refl

pub deleted_players : (w : World) (o : ℤ) (p : Text) → PlayersStay w (property_deleted w o p)
unfolding property_deleted
deleted_players w o p = each_players w _ same
  where
    same : (q : ℤ) (x : Object)
        → (cond (int_eq q o) (lose_slot (not_defining x p) p) (cond (is_below w o q) (lose_slot x p) x)).header.is_player ≡ x.header.is_player
    same q x = go (int_eq q o) (is_below w o q)
      where
        go : (b c : Bool) → (cond b (lose_slot (not_defining x p) p) (cond c (lose_slot x p) x)).header.is_player ≡ x.header.is_player
        go true c = refl
        go false true = refl
        go false false = refl

pub created_rest : (w : World) (p owner : ℤ) → Rest w (created w p owner)
unfolding created
created_rest w p owner = then_rest w (with_object (record w { greatest = next_object w }) (next_object w) (child_of w p owner)) _ (record { links = refl; tasks = refl; next = refl })
    (change_rest (with_object (record w { greatest = next_object w }) (next_object w) (child_of w p owner)) p (λ x. record x { children = x.children ++ next_object w ∷ [] }))

pub moved_rest : (w : World) (what place : ℤ) → Rest w (moved w what place)
unfolding moved
moved_rest w what place =
    then_rest w _ _ (change_rest w (location_of (object_at w what)) (λ x. record x { contents = leave_out what x.contents }))
    (then_rest _ _ _ (change_rest _ what (λ x. record x { header = record (x.header) { location = place } })) (change_rest _ place (λ x. record x { contents = x.contents ++ what ∷ [] })))

pub moved_players : (w : World) (what place : ℤ) → PlayersStay w (moved w what place)
unfolding moved
moved_players w what place q h =
    change_players _ place (λ x. record x { contents = x.contents ++ what ∷ [] }) (λ x. refl) q
    (change_players _ what (λ x. record x { header = record (x.header) { location = place } }) (λ x. refl) q
    (change_players w (location_of (object_at w what)) (λ x. record x { contents = leave_out what x.contents }) (λ x. refl) q h))

pub reparented_rest : (w : World) (o p : ℤ) → Rest w (reparented w o p)
unfolding reparented
reparented_rest w o p =
    then_rest w (with_heirs w o p) _ (record { links = refl; tasks = refl; next = refl })
    (then_rest _ _ _ (change_rest (with_heirs w o p) (parent_of (object_at w o)) (λ x. record x { children = leave_out o x.children }))
    (then_rest _ _ _ (change_rest _ o (λ x. record x { header = record (x.header) { parent = p } })) (change_rest _ p (λ x. record x { children = x.children ++ o ∷ [] }))))

pub reparented_players : (w : World) (o p : ℤ) → PlayersStay w (reparented w o p)
unfolding reparented
reparented_players w o p q h =
    change_players _ p (λ x. record x { children = x.children ++ o ∷ [] }) (λ x. refl) q
    (change_players _ o (λ x. record x { header = record (x.header) { parent = p } }) (λ x. refl) q
    (change_players (with_heirs w o p) (parent_of (object_at w o)) (λ x. record x { children = leave_out o x.children }) (λ x. refl) q
    (each_players w (λ d x. cond (is_below w o d) (heir_of w o p d x) x) same q h)))
  where
    same : (d : ℤ) (x : Object) → (cond (is_below w o d) (heir_of w o p d x) x).header.is_player ≡ x.header.is_player
    same d x = go (is_below w o d)
      where
        go : (b : Bool) → (cond b (heir_of w o p d x) x).header.is_player ≡ x.header.is_player
        go true = refl
        go false = refl

each_rest : (w : World) (cs : List ℤ) (p : ℤ) → Rest w (reparented_each w cs p)
each_rest w [] p = record { links = refl; tasks = refl; next = refl }
each_rest w (c ∷ cs) p = then_rest w (reparented w c p) _ (reparented_rest w c p) (each_rest (reparented w c p) cs p)

each_reparented : (w : World) (cs : List ℤ) (p : ℤ) → PlayersStay w (reparented_each w cs p)
each_reparented w [] p q h = h
each_reparented w (c ∷ cs) p q h = each_reparented (reparented w c p) cs p q (reparented_players w c p q h)

abbrev put_nowhere : Object → Object
put_nowhere x = record x { header = record (x.header) { location = nowhere } }

nowhere_rest : (w : World) (cs : List ℤ) → Rest w (to_nowhere w cs)
nowhere_rest w [] = record { links = refl; tasks = refl; next = refl }
nowhere_rest w (c ∷ cs) = then_rest w (change_object w c put_nowhere) _ (change_rest w c put_nowhere) (nowhere_rest (change_object w c put_nowhere) cs)

nowhere_players : (w : World) (cs : List ℤ) → PlayersStay w (to_nowhere w cs)
nowhere_players w [] q h = h
nowhere_players w (c ∷ cs) q h =
    nowhere_players (change_object w c put_nowhere) cs q (change_players w c put_nowhere (λ x. refl) q h)

pub recycled_rest : (w : World) (o : ℤ) → Rest w (recycled w o)
unfolding recycled
recycled_rest w o = go (object_at w o)
  where
    go : (m : Option Object) → Rest w (recycled_object w o m)
    go None = record { links = refl; tasks = refl; next = refl }
    go (Some x) =
        let a = each_rest w x.children x.header.parent in
        let b = nowhere_rest (reparented_each w x.children x.header.parent) x.contents in
        let c = change_rest (to_nowhere (reparented_each w x.children x.header.parent) x.contents) x.header.parent (λ z. record z { children = leave_out o z.children }) in
        let d = change_rest (lose_child (to_nowhere (reparented_each w x.children x.header.parent) x.contents) x.header.parent o) x.header.location (λ z. record z { contents = leave_out o z.contents }) in
        record { links = d.links ∙ c.links ∙ b.links ∙ a.links; tasks = d.tasks ∙ c.tasks ∙ b.tasks ∙ a.tasks; next = d.next ∙ c.next ∙ b.next ∙ a.next }

pub recycled_players : (w : World) (o q : ℤ) → int_eq q o ≡ false → IsPlayer w q → IsPlayer (recycled w o) q
unfolding recycled
recycled_players w o q s h = go (object_at w o)
  where
    go : (m : Option Object) → IsPlayer (recycled_object w o m) q
    go None = h
    go (Some x) =
        ap (λ m. passes m (λ z. z.header.is_player)) (at_without (out_of_place (lose_child (to_nowhere (reparented_each w x.children x.header.parent) x.contents) x.header.parent o) x.header.location o).objects o q
        ∙ ap (λ b. cond b None (object_at (out_of_place (lose_child (to_nowhere (reparented_each w x.children x.header.parent) x.contents) x.header.parent o) x.header.location o) q)) s)
        ∙ change_players (lose_child (to_nowhere (reparented_each w x.children x.header.parent) x.contents) x.header.parent o) x.header.location (λ z. record z { contents = leave_out o z.contents }) (λ z. refl) q
        (change_players (to_nowhere (reparented_each w x.children x.header.parent) x.contents) x.header.parent (λ z. record z { children = leave_out o z.children }) (λ z. refl) q
        (nowhere_players (reparented_each w x.children x.header.parent) x.contents q (each_reparented w x.children x.header.parent q h)))

pub created_players : (w : World) (p owner : ℤ) → ObjectsAgree w → IsTrue (int_le (next_object w) (pos 999999))
    → (p ≡ nowhere) ⊎ IsTrue (is_some (object_at w p)) → PlayersStay w (created w p owner)
unfolding created
created_players w p owner h room there q k =
    change_players (with_object (record w { greatest = next_object w }) (next_object w) (child_of w p owner)) p (λ x. record x { children = x.children ++ next_object w ∷ [] }) (λ x. refl) q
    (ap (λ m. passes m (λ z. z.header.is_player)) (at_put (record w { greatest = next_object w }) (next_object w) q (child_of w p owner)) ∙ go (same_or_not q (next_object w)))
  where
    go : (q ≡ next_object w) ⊎ (int_eq q (next_object w) ≡ false)
        → IsTrue (passes (cond (int_eq q (next_object w)) (Some (child_of w p owner)) (object_at w q)) (λ z. z.header.is_player))
    go (inl s) =
        let none : object_at w q ≡ None = ap (object_at w) s ∙ free w p owner (household w h) room there in
        let clash : IsTrue (passes None (λ (z : Object). z.header.is_player)) = sym (ap (λ m. passes m (λ z. z.header.is_player)) none) ∙ k in absurd (cc (clash))
    go (inr s) = ap (λ b. passes (cond b (Some (child_of w p owner)) (object_at w q)) (λ z. z.header.is_player)) s ∙ k

-- ---- after a change of objects

-- objects agree whatever the rest of their world is
pub elsewhere : (w : World) (ts : Numbered Task) (ls : Numbered Link) (n : ℕ) (e : Bool) → ObjectsAgree w
    → ObjectsAgree (record w { tasks = ts; links = ls; next = n; ending = e })
elsewhere w ts ls n e h =
    let u : World = record w { tasks = ts; links = ls; next = n; ending = e } in
    objects_agree u (stays_household w u (household w h) refl h.objects_in_order (λ q. same (object_at w q)) (household w h).whereabouts)
  where
    same : (m : Option Object) → StaysThere m m
    same None = tt
    same (Some x) = same_stays x

pub queue_same : (w u : World) → Rest w u → QueueAgrees w → QueueAgrees u
queue_same w u r h =
    record {
      tasks_in_order = subst (λ ts. IsTrue (is_numbered ts)) (sym r.tasks) h.tasks_in_order;
      next_in_range = subst (λ n. IsTrue (nat_le 1 n && nat_le n 33554432)) (sym r.next) h.next_in_range;
      task_ids = λ i t e. subst (λ n. IsTrue (int_le (pos 1) i && int_le i (pos ((n - 1) * 64)))) (sym r.next) (h.task_ids i t (ap (λ ts. at ts i) (sym r.tasks) ∙ e));
      task_waits = λ i t e. waits t t.waiting (h.task_waits i t (ap (λ ts. at ts i) (sym r.tasks) ∙ e));
      task_places = λ i t e. h.task_places i t (ap (λ ts. at ts i) (sym r.tasks) ∙ e);
      readers = subst (λ ts. IsTrue (once (links_read ts))) (sym r.tasks) h.readers;
      task_entries = λ i t e. h.task_entries i t (ap (λ ts. at ts i) (sym r.tasks) ∙ e);
    }
  where
    waits : (t : Task) (why : Waiting) → IsTrue (waiting_fits w t why) → IsTrue (waiting_fits u t why)
    waits t (forked m) k = k
    waits t (timed m v) k = k
    waits t idle k = k
    waits t (reading_on c) k = subst (λ ls. IsTrue (is_some (at ls c))) (sym r.links) k

pub objects_changed : (w u : World) → Agrees w → ObjectsAgree u → Rest w u
    → ((c : ℤ) (k : Link) → at w.links c ≡ Some k → IsPlayer w k.person → IsPlayer u k.person) → Agrees u
objects_changed w u h objects r players =
    record {
      objects = objects;
      links =
          record {
            links_in_order = subst (λ ls. IsTrue (is_numbered ls)) (sym r.links) h.links.links_in_order;
            links = fits;
            persons = subst (λ ls. IsTrue (once (map (λ e. (e.1).person) ls))) (sym r.links) h.links.persons;
          };
      queue = queue_same w u r h.queue;
    }
  where
    fits : OfEachLink u link_fits
    fits c k e =
        let there : at w.links c ≡ Some k = ap (λ ls. at ls c) (sym r.links) ∙ e in
        let old = h.links.links c k there in
        both_hold (is_connection c) _ (first_holds (is_connection c) _ old) (go (either (int_eq k.person (neg_ℤ (pos 3) -ℤ c)) _ (second_holds (is_connection c) _ old)) there)
      where
        go : IsTrue (int_eq k.person (neg_ℤ (pos 3) -ℤ c)) ⊎ IsPlayer w k.person → at w.links c ≡ Some k
            → IsTrue (int_eq k.person (neg_ℤ (pos 3) -ℤ c) || on_object u k.person (λ x. x.header.is_player))
        go (inl m) there = first_of (int_eq k.person (neg_ℤ (pos 3) -ℤ c)) _ m
        go (inr m) there = second_of (int_eq k.person (neg_ℤ (pos 3) -ℤ c)) _ (players c k there m)

-- ---- the queue

readers_are : (es : Numbered Task) → held_by (λ (t : Task). read_by t.waiting) es ≡ links_read es
unfolding held_by links_read
readers_are [] = refl
readers_are (e ∷ es) = ap (λ l. read_by (e.1).waiting ++ l) (readers_are es)

abbrev pub put_task : World → ℤ → Task → World
put_task w i t = record w { tasks = with w.tasks i t }

read_once : (why : Waiting) → IsTrue (once (read_by why))
unfolding once
read_once (forked m) = refl
read_once (timed m v) = refl
read_once idle = refl
read_once (reading_on c) = refl

pub task_put : (w : World) (i : ℤ) (t : Task) → Agrees w → IsTrue (id_fits w i t) → IsTrue (wait_fits w i t) → TaskStands t t.waiting → EntriesHold t.entries
    → ((c : ℤ) → IsTrue (lists (read_by t.waiting) c) → lists (links_read w.tasks) c ≡ false) → Agrees (put_task w i t)
task_put w i t h id waits stands holds apart =
    record {
      objects = elsewhere w (with w.tasks i t) w.links w.next w.ending h.objects;
      links = record { links_in_order = h.links.links_in_order; links = h.links.links; persons = h.links.persons };
      queue =
          record {
            tasks_in_order = still_sorted int_cmp_total i t w.tasks h.queue.tasks_in_order;
            next_in_range = h.queue.next_in_range;
            task_ids = λ j s e. by_key (λ k r. IsTrue (id_fits w k r)) id h.queue.task_ids j s e;
            task_waits = λ j s e. by_key (λ k r. IsTrue (wait_fits w k r)) waits h.queue.task_waits j s e;
            task_places = λ j s e. by_key (λ k r. TaskStands r r.waiting) stands h.queue.task_places j s e;
            readers =
                subst (λ l. IsTrue (once l)) (readers_are (with w.tasks i t))
                (held_once (λ (r : Task). read_by r.waiting) i t w.tasks (read_once t.waiting) (λ c l. ap (λ m. lists m c) (readers_are w.tasks) ∙ apart c l)
                (subst (λ l. IsTrue (once l)) (sym (readers_are w.tasks)) h.queue.readers));
            task_entries = λ j s e. by_key (λ k r. EntriesHold r.entries) holds h.queue.task_entries j s e;
          };
    }
  where
    by_key : (P : ℤ → Task → Type 0) → P i t → ((j : ℤ) (s : Task) → at w.tasks j ≡ Some s → P j s) → (j : ℤ) (s : Task)
        → at (with w.tasks i t) j ≡ Some s → P j s
    by_key P here each j s e = go (same_or_not j i)
      where
        go : (j ≡ i) ⊎ (int_eq j i ≡ false) → P j s
        go (inl d) =
            let same : t ≡ s = some_same (sym (at_with w.tasks i j t ∙ ap (λ b. cond b (Some t) (at w.tasks j)) (subst (λ z. int_eq j z ≡ true) d (integer_itself j))) ∙ e) in
            subst (λ z. P z s) (sym d) (subst (λ r. P i r) same here)
        go (inr d) = each j s (sym (at_with w.tasks i j t ∙ ap (λ b. cond b (Some t) (at w.tasks j)) d) ∙ e)

-- some tasks go
pub tasks_left : (w : World) (p : ℤ × Task → Bool) → Agrees w → Agrees (record w { tasks = filter p w.tasks })
tasks_left w p h =
    record {
      objects = elsewhere w (filter p w.tasks) w.links w.next w.ending h.objects;
      links = record { links_in_order = h.links.links_in_order; links = h.links.links; persons = h.links.persons };
      queue =
          record {
            tasks_in_order = left_numbered p w.tasks h.queue.tasks_in_order;
            next_in_range = h.queue.next_in_range;
            task_ids = λ i t e. h.queue.task_ids i t (at_left p w.tasks h.queue.tasks_in_order i t e).0;
            task_waits = λ i t e. h.queue.task_waits i t (at_left p w.tasks h.queue.tasks_in_order i t e).0;
            task_places = λ i t e. h.queue.task_places i t (at_left p w.tasks h.queue.tasks_in_order i t e).0;
            readers =
                subst (λ l. IsTrue (once l)) (readers_are (filter p w.tasks))
                (left_once (λ (r : Task). read_by r.waiting) p w.tasks (subst (λ l. IsTrue (once l)) (sym (readers_are w.tasks)) h.queue.readers));
            task_entries = λ i t e. h.queue.task_entries i t (at_left p w.tasks h.queue.tasks_in_order i t e).0;
          };
    }

-- ---- the next number, and the end

pub ending_set : (w : World) (e : Bool) → Agrees w → Agrees (record w { ending = e })
ending_set w e h =
    record {
      objects = elsewhere w w.tasks w.links w.next e h.objects;
      links = record { links_in_order = h.links.links_in_order; links = h.links.links; persons = h.links.persons };
      queue = queue_same w (record w { ending = e }) (record { links = refl; tasks = refl; next = refl }) h.queue;
    }

wider : (i : ℤ) (a b : ℕ) → a ≤ b → IsTrue (int_le i (pos a)) → IsTrue (int_le i (pos b))
wider (pos m) a b le h = let k : m ≤ a = leb-true m a h in le-leb m b (omega arith)
wider (negsuc m) a b le h = refl

pub next_raised : (w : World) (n : ℕ) → w.next ≤ n → n ≤ 33554432 → Agrees w → Agrees (record w { next = n })
next_raised w n le small h =
    record {
      objects = elsewhere w w.tasks w.links n w.ending h.objects;
      links = record { links_in_order = h.links.links_in_order; links = h.links.links; persons = h.links.persons };
      queue =
          record {
            tasks_in_order = h.queue.tasks_in_order;
            next_in_range =
                let low : 1 ≤ w.next = leb-true 1 w.next (first_holds (nat_le 1 w.next) _ h.queue.next_in_range) in
                both_hold (nat_le 1 n) _ (le-leb 1 n (omega arith)) (le-leb n 33554432 small);
            task_ids = λ i t e.
                both_hold (int_le (pos 1) i) _ (first_holds (int_le (pos 1) i) _ (h.queue.task_ids i t e))
                (wider i ((w.next - 1) * 64) ((n - 1) * 64) (omega arith) (second_holds (int_le (pos 1) i) _ (h.queue.task_ids i t e)));
            task_waits = λ i t e. same_wait t t.waiting (h.queue.task_waits i t e);
            task_places = h.queue.task_places;
            readers = h.queue.readers;
            task_entries = h.queue.task_entries;
          };
    }
  where
    same_wait : (t : Task) (why : Waiting) → IsTrue (waiting_fits w t why) → IsTrue (waiting_fits (record w { next = n }) t why)
    same_wait t (forked m) k = k
    same_wait t (timed m v) k = k
    same_wait t idle k = k
    same_wait t (reading_on c) k = k

-- ---- links

persons_are : (es : Numbered Link) → held_by (λ (k : Link). k.person ∷ []) es ≡ map (λ e. (e.1).person) es
unfolding held_by
persons_are [] = refl
persons_are (e ∷ es) = ap (λ l. (e.1).person ∷ l) (persons_are es)

-- a link that is nobody's of the others, or has the person that it had
abbrev pub IsFree : World → ℤ → Link → Type 0
IsFree w c k = (lists (map (λ e. (e.1).person) w.links) k.person ≡ false) ⊎ ((l : Link) × (at w.links c ≡ Some l) × (k.person ≡ l.person))

pub link_put : (w : World) (c : ℤ) (k : Link) → Agrees w → IsTrue (link_fits w c k) → IsFree w c k → Agrees (open_link w c k)
unfolding once
link_put w c k h fits free_for =
    record {
      objects = elsewhere w w.tasks (with w.links c k) w.next w.ending h.objects;
      links =
          record {
            links_in_order = still_sorted int_cmp_total c k w.links h.links.links_in_order;
            links = each;
            persons = subst (λ l. IsTrue (once l)) (persons_are (with w.links c k)) (go free_for);
          };
      queue =
          record {
            tasks_in_order = h.queue.tasks_in_order;
            next_in_range = h.queue.next_in_range;
            task_ids = h.queue.task_ids;
            task_waits = λ i t e. same_wait t t.waiting (h.queue.task_waits i t e);
            task_places = h.queue.task_places;
            readers = h.queue.readers;
            task_entries = h.queue.task_entries;
          };
    }
  where
    same_wait : (t : Task) (why : Waiting) → IsTrue (waiting_fits w t why) → IsTrue (waiting_fits (open_link w c k) t why)
    same_wait t (forked m) e = e
    same_wait t (timed m v) e = e
    same_wait t idle e = e
    same_wait t (reading_on d) e = subst (λ o. IsTrue (is_some o)) (sym (at_with w.links c d k)) (by (int_eq d c))
      where
        by : (b : Bool) → IsTrue (is_some (cond b (Some k) (at w.links d)))
        by true = refl
        by false = e

    each : (d : ℤ) (l : Link) → at (with w.links c k) d ≡ Some l → IsTrue (link_fits w d l)
    each d l e = by (same_or_not d c)
      where
        by : (d ≡ c) ⊎ (int_eq d c ≡ false) → IsTrue (link_fits w d l)
        by (inl s) =
            let same : k ≡ l = some_same (sym (at_with w.links c d k ∙ ap (λ b. cond b (Some k) (at w.links d)) (subst (λ z. int_eq d z ≡ true) s (integer_itself d))) ∙ e) in
            subst (λ z. IsTrue (link_fits w z l)) (sym s) (subst (λ m. IsTrue (link_fits w c m)) same fits)
        by (inr s) = h.links.links d l (sym (at_with w.links c d k ∙ ap (λ b. cond b (Some k) (at w.links d)) s) ∙ e)

    go : IsFree w c k → IsTrue (once (held_by (λ (m : Link). m.person ∷ []) (with w.links c k)))
    go (inl none) =
        held_once (λ (m : Link). m.person ∷ []) c k w.links refl (λ d l. alone d l) (subst (λ l. IsTrue (once l)) (sym (persons_are w.links)) h.links.persons)
      where
        alone : (d : ℤ) → IsTrue (lists (k.person ∷ []) d) → lists (held_by (λ (m : Link). m.person ∷ []) w.links) d ≡ false
        alone d l = ap (λ m. lists m d) (persons_are w.links) ∙ subst (λ z. lists (map (λ e. (e.1).person) w.links) z ≡ false) (sym (one (either (int_eq d k.person) false l))) none
          where
            one : IsTrue (int_eq d k.person) ⊎ IsTrue false → d ≡ k.person
            one (inl m) = same_integer d k.person m
            one (inr m) = cc
    go (inr l) =
        subst (λ m. IsTrue (once m)) (sym (same_held (λ (m : Link). m.person ∷ []) c k l.0 w.links h.links.links_in_order l.1 (ap (λ z. z ∷ []) l.2)))
        (subst (λ m. IsTrue (once m)) (sym (persons_are w.links)) h.links.persons)

-- a task that reads on a link goes with it
pub link_closed_keeps : (w : World) (c : ℤ) → Agrees w → Agrees (close_link w c)
unfolding close_link
link_closed_keeps w c h =
    let left = tasks_left w (λ e. not (reads_on c (e.1).waiting)) h in
    record {
      objects = elsewhere w (filter (λ e. not (reads_on c (e.1).waiting)) w.tasks) (without w.links c) w.next w.ending h.objects;
      links =
          record {
            links_in_order = without_numbered w.links c h.links.links_in_order;
            links = λ d k e. h.links.links d k (at_left (λ (m : ℤ × Link). not (int_eq c m.0)) w.links h.links.links_in_order d k e).0;
            persons =
                subst (λ l. IsTrue (once l)) (persons_are (without w.links c))
                (left_once (λ (m : Link). m.person ∷ []) (λ (m : ℤ × Link). not (int_eq c m.0)) w.links (subst (λ l. IsTrue (once l)) (sym (persons_are w.links)) h.links.persons));
          };
      queue =
          record {
            tasks_in_order = left.queue.tasks_in_order;
            next_in_range = left.queue.next_in_range;
            task_ids = left.queue.task_ids;
            task_waits = waits;
            task_places = left.queue.task_places;
            readers = left.queue.readers;
            task_entries = left.queue.task_entries;
          };
    }
  where
    waits : (i : ℤ) (t : Task) → at (filter (λ e. not (reads_on c (e.1).waiting)) w.tasks) i ≡ Some t
        → IsTrue (waiting_fits (record w { links = without w.links c; tasks = filter (λ e. not (reads_on c (e.1).waiting)) w.tasks }) t t.waiting)
    waits i t e =
        let r = at_left (λ (m : ℤ × Task). not (reads_on c (m.1).waiting)) w.tasks h.queue.tasks_in_order i t e in
        go t.waiting (h.queue.task_waits i t r.0) r.1
      where
        go : (why : Waiting) → IsTrue (waiting_fits w t why) → IsTrue (not (reads_on c why))
            → IsTrue (waiting_fits (record w { links = without w.links c; tasks = filter (λ e. not (reads_on c (e.1).waiting)) w.tasks }) t why)
        go (forked m) k n = k
        go (timed m v) k n = k
        go idle k n = k
        go (reading_on d) k n =
            subst (λ o. IsTrue (is_some o)) (sym (at_without w.links c d ∙ ap (λ b. cond b None (at w.links d)) (turned c d (no (int_eq c d) n)))) k
          where
            no : (b : Bool) → IsTrue (not b) → b ≡ false
            no true m = cc
            no false m = refl

-- ---- an object whose link is closed, or that has none, is no link's person

abbrev pub IsNobodys : World → ℤ → Type 0
IsNobodys w o = (c : ℤ) (k : Link) → at w.links c ≡ Some k → int_eq k.person o ≡ false

pub none_among : (es : Numbered Link) (o : ℤ) → connection_among es o ≡ None → lists (map (λ e. (e.1).person) es) o ≡ false
none_among [] o h = refl
none_among (e ∷ es) o h = go (none_among es o) (int_eq (e.1).person o) refl h
  where
    go : (connection_among es o ≡ None → lists (map (λ e. (e.1).person) es) o ≡ false) → (b : Bool) → int_eq (e.1).person o ≡ b
        → cond b (Some e.0) (connection_among es o) ≡ None → (int_eq o (e.1).person || lists (map (λ e. (e.1).person) es) o) ≡ false
    go later true s k = cc
    go later false s k = neither _ _ (turned (e.1).person o s) (later k)

person_listed : (es : Numbered Link) (c : ℤ) (k : Link) → at es c ≡ Some k → IsTrue (lists (map (λ e. (e.1).person) es) k.person)
person_listed [] c k h = cc
person_listed (e ∷ es) c k h = go (person_listed es c k) (int_eq c e.0) h
  where
    go : (at es c ≡ Some k → IsTrue (lists (map (λ e. (e.1).person) es) k.person)) → (b : Bool) → cond b (Some e.1) (at es c) ≡ Some k
        → IsTrue (lists (map (λ e. (e.1).person) (e ∷ es)) k.person)
    go later true s = first_of (int_eq k.person (e.1).person) _ (subst (λ z. IsTrue (int_eq z (e.1).person)) (ap (λ (m : Link). m.person) (some_same s)) (integer_itself (e.1).person))
    go later false s = second_of (int_eq k.person (e.1).person) _ (later s)

-- a person that is listed is that of a link
pub person_found : (es : Numbered Link) (o : ℤ) → IsTrue (is_numbered es) → IsTrue (lists (map (λ e. (e.1).person) es) o)
    → (c : ℤ) × ((k : Link) × (at es c ≡ Some k) × (k.person ≡ o))
person_found [] o h l = cc
person_found (e ∷ es) o h l = go (person_found es o (second_holds _ _ h)) (either (int_eq o (e.1).person) _ l)
  where
    go : (IsTrue (lists (map (λ e. (e.1).person) es) o) → (c : ℤ) × ((k : Link) × (at es c ≡ Some k) × (k.person ≡ o)))
        → IsTrue (int_eq o (e.1).person) ⊎ IsTrue (lists (map (λ e. (e.1).person) es) o)
        → (c : ℤ) × ((k : Link) × (at (e ∷ es) c ≡ Some k) × (k.person ≡ o))
    go later (inl s) = (e.0, (e.1, ap (λ b. cond b (Some e.1) (at es e.0)) (integer_itself e.0), sym (same_integer o (e.1).person s)))
    go later (inr s) = let r = later s in (r.0, (r.1.0, behind r.0 r.1.0 r.1.1, r.1.2))
      where
        behind : (c : ℤ) (k : Link) → at es c ≡ Some k → cond (int_eq c e.0) (Some e.1) (at es c) ≡ Some k
        behind c k m = by (same_or_not c e.0)
          where
            by : (c ≡ e.0) ⊎ (int_eq c e.0 ≡ false) → cond (int_eq c e.0) (Some e.1) (at es c) ≡ Some k
            by (inl d) = let clash : None ≡ Some k = sym (below_none e.0 es (first_holds _ _ h)) ∙ ap (at es) (sym d) ∙ m in absurd (cc (clash))
            by (inr d) = ap (λ b. cond b (Some e.1) (at es c)) d ∙ m

pub nobodys : (w : World) (o : ℤ) → lists (map (λ e. (e.1).person) w.links) o ≡ false → IsNobodys w o
nobodys w o h c k e = go (same_or_not k.person o)
  where
    go : (k.person ≡ o) ⊎ (int_eq k.person o ≡ false) → int_eq k.person o ≡ false
    go (inl s) = let l = person_listed w.links c k e in let clash : lists (map (λ e. (e.1).person) w.links) k.person ≡ false = subst (λ z. lists (map (λ e. (e.1).person) w.links) z ≡ false) (sym s) h in absurd (cc (clash, l))
    go (inr s) = s

fewer_persons : (es : Numbered Link) (c o : ℤ) → lists (map (λ e. (e.1).person) es) o ≡ false → lists (map (λ e. (e.1).person) (without es c)) o ≡ false
fewer_persons [] c o h = refl
fewer_persons (e ∷ es) c o h = go (fewer_persons es c o (last_no (int_eq o (e.1).person) _ h)) (int_eq c e.0)
  where
    go : lists (map (λ e. (e.1).person) (without es c)) o ≡ false → (b : Bool)
        → lists (map (λ e. (e.1).person) (cond (not b) (e ∷ without es c) (without es c))) o ≡ false
    go later true = later
    go later false = neither _ _ (first_no (int_eq o (e.1).person) _ h) later

closed_person : (es : Numbered Link) (c o : ℤ) → IsTrue (once (map (λ e. (e.1).person) es)) → connection_among es o ≡ Some c
    → lists (map (λ e. (e.1).person) (without es c)) o ≡ false
unfolding once
closed_person [] c o h k = refl
closed_person (e ∷ es) c o h k = go (closed_person es c o (second_holds _ _ h)) (same_or_not (e.1).person o) k
  where
    denied : (a : Bool) → IsTrue (not a) → a ≡ false
    denied true m = cc
    denied false m = refl

    go : (connection_among es o ≡ Some c → lists (map (λ e. (e.1).person) (without es c)) o ≡ false) → ((e.1).person ≡ o) ⊎ (int_eq (e.1).person o ≡ false)
        → cond (int_eq (e.1).person o) (Some e.0) (connection_among es o) ≡ Some c
        → lists (map (λ e. (e.1).person) (cond (not (int_eq c e.0)) (e ∷ without es c) (without es c))) o ≡ false
    go later (inl s) m =
        let hit : int_eq (e.1).person o ≡ true = subst (λ z. int_eq (e.1).person z ≡ true) s (integer_itself (e.1).person) in
        let here : e.0 ≡ c = some_same (sym (ap (λ b. cond b (Some e.0) (connection_among es o)) hit) ∙ m) in
        ap (λ b. lists (map (λ e. (e.1).person) (cond (not b) (e ∷ without es c) (without es c))) o) (subst (λ z. int_eq z e.0 ≡ true) here (integer_itself e.0))
        ∙ fewer_persons es c o (subst (λ z. lists (map (λ e. (e.1).person) es) z ≡ false) s (denied _ (first_holds _ _ h)))
    go later (inr s) m = by (int_eq c e.0) (later (sym (ap (λ b. cond b (Some e.0) (connection_among es o)) s) ∙ m))
      where
        by : (b : Bool) → lists (map (λ e. (e.1).person) (without es c)) o ≡ false
            → lists (map (λ e. (e.1).person) (cond (not b) (e ∷ without es c) (without es c))) o ≡ false
        by true r = r
        by false r = neither _ _ (turned (e.1).person o s) r

-- once its link is closed, an object is no link's person
pub closed_is_free : (w : World) (c o : ℤ) → Agrees w → connection_of w o ≡ Some c → lists (map (λ e. (e.1).person) (close_link w c).links) o ≡ false
unfolding close_link
closed_is_free w c o h k = closed_person w.links c o h.links.persons k

-- a connection that belongs to an object is open
pub connection_open : (es : Numbered Link) (c o : ℤ) → connection_among es o ≡ Some c → IsTrue (is_some (at es c))
connection_open [] c o h = cc
connection_open (e ∷ es) c o h = go (connection_open es c o) (int_eq (e.1).person o) h
  where
    go : (connection_among es o ≡ Some c → IsTrue (is_some (at es c))) → (b : Bool) → cond b (Some e.0) (connection_among es o) ≡ Some c
        → IsTrue (is_some (cond (int_eq c e.0) (Some e.1) (at es c)))
    go later true s = ap (λ b. is_some (cond b (Some e.1) (at es c))) (subst (λ z. int_eq z e.0 ≡ true) (some_same s) (integer_itself e.0))
    go later false s = by (int_eq c e.0) (later s)
      where
        by : (b : Bool) → IsTrue (is_some (at es c)) → IsTrue (is_some (cond b (Some e.1) (at es c)))
        by true m = refl
        by false m = m

-- where no task reads, none is found
pub none_reads : (es : Numbered Task) (c : ℤ) → reader_among es c ≡ None → lists (links_read es) c ≡ false
unfolding links_read
none_reads [] c h = refl
none_reads (e ∷ es) c h = go (none_reads es c) (e.1).waiting h
  where
    go : (reader_among es c ≡ None → lists (links_read es) c ≡ false) → (why : Waiting) → cond (reads_on c why) (Some e.0) (reader_among es c) ≡ None
        → lists (read_by why ++ links_read es) c ≡ false
    go later (forked m) s = later s
    go later (timed m v) s = later s
    go later idle s = later s
    go later (reading_on d) s = by (int_eq c d) s
      where
        by : (b : Bool) → cond b (Some e.0) (reader_among es c) ≡ None → (b || lists (links_read es) c) ≡ false
        by true m = cc
        by false m = later m

-- ---- with well-formed worlds

native_part : (e : Entry) → IsTrue (entry_fits e) → IsTrue (native_holds e)
native_part (frame_entry f) h = refl
native_part (native_entry n) h = h

native_parts : (es : List Entry) → IsTrue (list_all entry_fits es) → IsTrue (list_all native_holds es)
native_parts [] h = refl
native_parts (e ∷ es) h = both_hold (native_holds e) _ (native_part e (first_holds (entry_fits e) _ h)) (native_parts es (second_holds (entry_fits e) _ h))

entries_of : (es : List Entry) → IsTrue (begins_with_frame es && nat_le (frames es) 50 && list_all entry_fits es) → EntriesHold es
entries_of es h =
    let head = first_holds (begins_with_frame es && nat_le (frames es) 50) _ h in
    (first_holds (begins_with_frame es) _ head, (leb-true (frames es) 50 (second_holds (begins_with_frame es) _ head), native_parts es (second_holds (begins_with_frame es && nat_le (frames es) 50) _ h)))

pub agrees_of : (w : World) → IsWellFormed w → Agrees w
agrees_of w h =
    record {
      objects = objects_of w h;
      links = record { links_in_order = h.links_in_order; links = h.links; persons = h.persons };
      queue = record { tasks_in_order = h.tasks_in_order; next_in_range = h.next_in_range; task_ids = h.task_ids; task_waits = h.task_waits; task_places = h.task_places; readers = h.readers; task_entries = λ i t e. entries_of t.entries (h.task_entries i t e) };
    }

frame_part : (e : Entry) → IsTrue (entry_fits e) → IsTrue (frame_holds e)
frame_part (frame_entry f) h = h
frame_part (native_entry n) h = refl

frame_parts : (es : List Entry) → IsTrue (list_all entry_fits es) → IsTrue (list_all frame_holds es)
frame_parts [] h = refl
frame_parts (e ∷ es) h = both_hold (frame_holds e) _ (frame_part e (first_holds (entry_fits e) _ h)) (frame_parts es (second_holds (entry_fits e) _ h))

both_parts : (e : Entry) → IsTrue (native_holds e) → IsTrue (frame_holds e) → IsTrue (entry_fits e)
both_parts (frame_entry f) h k = k
both_parts (native_entry n) h k = h

all_parts : (es : List Entry) → IsTrue (list_all native_holds es) → IsTrue (list_all frame_holds es) → IsTrue (list_all entry_fits es)
all_parts [] h k = refl
all_parts (e ∷ es) h k =
    both_hold (entry_fits e) _ (both_parts e (first_holds (native_holds e) _ h) (first_holds (frame_holds e) _ k)) (all_parts es (second_holds (native_holds e) _ h) (second_holds (frame_holds e) _ k))

pub well_formed_agrees : WellFormedAgrees
well_formed_agrees w h =
    (agrees_of w h, λ i t e. frame_parts t.entries (second_holds (begins_with_frame t.entries && nat_le (frames t.entries) 50) _ (h.task_entries i t e)))

pub agrees_is_well_formed : AgreesIsWellFormed
agrees_is_well_formed w h k =
    record {
      objects_in_order = h.objects.objects_in_order;
      tasks_in_order = h.queue.tasks_in_order;
      links_in_order = h.links.links_in_order;
      greatest_in_range = h.objects.greatest_in_range;
      next_in_range = h.queue.next_in_range;
      numbers = h.objects.numbers;
      parents_end = h.objects.parents_end;
      locations_end = h.objects.locations_end;
      children = h.objects.children;
      parents = h.objects.parents;
      contents = h.objects.contents;
      locations = h.objects.locations;
      names_on_a_line = h.objects.names_on_a_line;
      slot_order = h.objects.slot_order;
      slots = h.objects.slots;
      definers = h.objects.definers;
      links = h.links.links;
      persons = h.links.persons;
      task_ids = h.queue.task_ids;
      task_entries = λ i t e. let m = h.queue.task_entries i t e in
          both_hold (begins_with_frame t.entries && nat_le (frames t.entries) 50) _ (both_hold (begins_with_frame t.entries) _ m.0 (le-leb (frames t.entries) 50 m.1.0)) (all_parts t.entries m.1.1 (k i t e));
      task_waits = h.queue.task_waits;
      task_places = h.queue.task_places;
      readers = h.queue.readers;
    }
