-- What stands of a world stands after each change: of objects alone, of a task, of a link.
use Rattle.std.proofs.Common.{◌≡◌, ◌⊎◌, inl, inr, ℕ, ℤ, Bool, false, not, [], ◌∷◌, ◌++◌, Some, None, refl, sym, ap, ◌∙◌, subst, IsTrue, is_some}
use Rattle.std.specs.Ordering.{int_eq}
use Rattle.std.specs.List.{filter}
use Rattle.std.specs.Cmp.{int_cmp_total}
use Rattle.spec_value.specs.Datum.{Text}
use Rattle.spec_value.specs.Table.{Numbered, at, with, without, is_numbered}
use Rattle.spec_world.specs.World.{World, Object, Slot, Task, Waiting, forked, timed, idle, reading_on, Link, object_at}
use Rattle.spec_world.specs.Inherit.{slot_at, with_slot}
use Rattle.spec_world.specs.WellFormed.{lists, once, link_fits, read_by, links_read, IsWellFormed}
use Rattle.spec_world.specs.Agreeing.{ObjectsAgree, LinksAgree, Agrees}
use Rattle.spec_world.specs.Families.{change_object}
use Rattle.spec_world.specs.ObjectLaws.{SameRelations, Defines}
use Rattle.spec_world.specs.Links.{connection_of, reads_on, reader_among, open_link, close_link}
use Rattle.spec_value.proofs.Keys.{still_sorted}
use Rattle.spec_value.proofs.Same.{same_integer}
use Rattle.spec_world.proofs.Trees.{either}
use Rattle.spec_world.proofs.ObjectsKept.{attributes_keep, content_keeps}
use Rattle.spec_world.proofs.TablesKept.{held_by, held_once, left_once, left_numbered}
use Rattle.spec_world.proofs.WorldsKept.{IsPlayer, Rest, PlayersStay, IsFree, IsNobodys, nobodys, closed_is_free, change_rest, change_players, slot_rest, slot_players, elsewhere, objects_changed, link_put, link_closed_keeps, none_reads, agrees_of, put_task}
use Rattle.rules.specs.Standing.{IsStanding}

-- ---- where there are no tasks, all agrees

abbrev quiet : World → World
quiet w = record w { tasks = []; next = 1 }

quiet_agrees : (w : World) → ObjectsAgree w → LinksAgree w → Agrees (quiet w)
unfolding once links_read
quiet_agrees w h k =
    record {
      objects = elsewhere w [] w.links 1 w.ending h;
      links = record { links_in_order = k.links_in_order; links = k.links; persons = k.persons };
      queue =
          record {
            tasks_in_order = refl;
            next_in_range = refl;
            task_ids = λ i t e. cc;
            task_waits = λ i t e. cc;
            task_places = λ i t e. cc;
            readers = refl;
            task_entries = λ i t e. cc;
          };
    }

-- ---- what agrees stands

pub agreeing_stands : (w : World) → Agrees w → IsStanding w
agreeing_stands w h = record { objects = h.objects; links = h.links; tasks_in_order = h.queue.tasks_in_order; readers = h.queue.readers }

pub well_formed_stands : (w : World) → IsWellFormed w → IsStanding w
well_formed_stands w h = agreeing_stands w (agrees_of w h)

-- ---- changes of objects alone

-- who is the person of a link stays a player
pub objects_stand_for : (w u : World) → IsStanding w → ObjectsAgree u → Rest w u
    → ((c : ℤ) (k : Link) → at w.links c ≡ Some k → IsPlayer w k.person → IsPlayer u k.person) → IsStanding u
objects_stand_for w u h objects r players =
    let all = objects_changed (quiet w) (quiet u) (quiet_agrees w h.objects h.links) (elsewhere u [] u.links 1 u.ending objects) (record { links = r.links; tasks = refl; next = refl }) players in
    record {
      objects = objects;
      links = record { links_in_order = all.links.links_in_order; links = all.links.links; persons = all.links.persons };
      tasks_in_order = subst (λ ts. IsTrue (is_numbered ts)) (sym r.tasks) h.tasks_in_order;
      readers = subst (λ ts. IsTrue (once (links_read ts))) (sym r.tasks) h.readers;
    }

-- all that are players stay so
pub objects_stand : (w u : World) → IsStanding w → ObjectsAgree u → Rest w u → PlayersStay w u → IsStanding u
objects_stand w u h objects r players = objects_stand_for w u h objects r (λ c k e. players k.person)

pub attributes_stand : (w : World) (o : ℤ) (f : Object → Object) → IsStanding w → ((x : Object) → SameRelations x (f x))
    → ((x : Object) → (f x).header.is_player ≡ x.header.is_player) → IsStanding (change_object w o f)
attributes_stand w o f h same players = objects_stand w (change_object w o f) h (attributes_keep w o f h.objects same) (change_rest w o f) (change_players w o f players)

pub content_stands : (w : World) (o : ℤ) (p : Text) (s t : Slot) → IsStanding w → slot_at w o p ≡ Some s
    → ((x : Object) → object_at w o ≡ Some x → Defines x p → IsTrue (is_some t.content)) → IsStanding (with_slot w o p t)
content_stands w o p s t h found full = objects_stand w (with_slot w o p t) h (content_keeps w o p s t h.objects found full) (slot_rest w o p t) (slot_players w o p t)

-- ---- tasks

readers_are : (es : Numbered Task) → held_by (λ (t : Task). read_by t.waiting) es ≡ links_read es
unfolding held_by links_read
readers_are [] = refl
readers_are (e ∷ es) = ap (λ l. read_by (e.1).waiting ++ l) (readers_are es)

read_once : (why : Waiting) → IsTrue (once (read_by why))
unfolding once
read_once (forked m) = refl
read_once (timed m v) = refl
read_once idle = refl
read_once (reading_on c) = refl

-- a task that is put reads on no link on which another one reads
pub task_stands : (w : World) (i : ℤ) (t : Task) → IsStanding w → ((c : ℤ) → IsTrue (lists (read_by t.waiting) c) → lists (links_read w.tasks) c ≡ false)
    → IsStanding (put_task w i t)
task_stands w i t h apart =
    record {
      objects = elsewhere w (with w.tasks i t) w.links w.next w.ending h.objects;
      links = record { links_in_order = h.links.links_in_order; links = h.links.links; persons = h.links.persons };
      tasks_in_order = still_sorted int_cmp_total i t w.tasks h.tasks_in_order;
      readers =
          subst (λ l. IsTrue (once l)) (readers_are (with w.tasks i t))
          (held_once (λ (r : Task). read_by r.waiting) i t w.tasks (read_once t.waiting) (λ c l. ap (λ m. lists m c) (readers_are w.tasks) ∙ apart c l)
          (subst (λ l. IsTrue (once l)) (sym (readers_are w.tasks)) h.readers));
    }

-- one that reads nowhere, as a fork or one that waits for a moment
pub quiet_task_stands : (w : World) (i : ℤ) (t : Task) → IsStanding w → read_by t.waiting ≡ [] → IsStanding (put_task w i t)
quiet_task_stands w i t h nowhere = task_stands w i t h (λ c l. let clash : IsTrue (lists [] c) = subst (λ ls. IsTrue (lists ls c)) nowhere l in absurd (cc (clash)))

-- one that comes to read on a link on which none reads
pub reader_stands : (w : World) (i : ℤ) (t : Task) (c : ℤ) → IsStanding w → t.waiting ≡ reading_on c → reader_among w.tasks c ≡ None → IsStanding (put_task w i t)
reader_stands w i t c h reads none = task_stands w i t h (λ d l. apart d (subst (λ why. IsTrue (lists (read_by why) d)) reads l))
  where
    one : (d : ℤ) → IsTrue (int_eq d c) ⊎ IsTrue false → d ≡ c
    one d (inl e) = same_integer d c e
    one d (inr e) = cc

    apart : (d : ℤ) → IsTrue (lists (c ∷ []) d) → lists (links_read w.tasks) d ≡ false
    apart d l = subst (λ z. lists (links_read w.tasks) z ≡ false) (sym (one d (either (int_eq d c) false l))) (none_reads w.tasks c none)

-- some tasks go
pub fewer_tasks_stand : (w : World) (p : ℤ × Task → Bool) → IsStanding w → IsStanding (record w { tasks = filter p w.tasks })
fewer_tasks_stand w p h =
    record {
      objects = elsewhere w (filter p w.tasks) w.links w.next w.ending h.objects;
      links = record { links_in_order = h.links.links_in_order; links = h.links.links; persons = h.links.persons };
      tasks_in_order = left_numbered p w.tasks h.tasks_in_order;
      readers =
          subst (λ l. IsTrue (once l)) (readers_are (filter p w.tasks))
          (left_once (λ (r : Task). read_by r.waiting) p w.tasks (subst (λ l. IsTrue (once l)) (sym (readers_are w.tasks)) h.readers));
    }

-- one task goes
pub task_gone_stands : (w : World) (i : ℤ) → IsStanding w → IsStanding (record w { tasks = without w.tasks i })
task_gone_stands w i h = fewer_tasks_stand w (λ e. not (int_eq i e.0)) h

-- ---- links

-- a link that is opened, or has another person than it had
pub link_stands : (w : World) (c : ℤ) (k : Link) → IsStanding w → IsTrue (link_fits w c k) → IsFree w c k → IsStanding (open_link w c k)
link_stands w c k h fits alone =
    let all = link_put (quiet w) c k (quiet_agrees w h.objects h.links) fits alone in
    record {
      objects = elsewhere w w.tasks (with w.links c k) w.next w.ending h.objects;
      links = record { links_in_order = all.links.links_in_order; links = all.links.links; persons = all.links.persons };
      tasks_in_order = h.tasks_in_order;
      readers = h.readers;
    }

-- a link that is closed, and with it the task that reads on it
pub closed_stands : (w : World) (c : ℤ) → IsStanding w → IsStanding (close_link w c)
unfolding close_link
closed_stands w c h =
    let all = link_closed_keeps (quiet w) c (quiet_agrees w h.objects h.links) in
    let left = fewer_tasks_stand w (λ e. not (reads_on c (e.1).waiting)) h in
    record {
      objects = elsewhere w (filter (λ e. not (reads_on c (e.1).waiting)) w.tasks) (without w.links c) w.next w.ending h.objects;
      links = record { links_in_order = all.links.links_in_order; links = all.links.links; persons = all.links.persons };
      tasks_in_order = left.tasks_in_order;
      readers = left.readers;
    }

-- then it is nobody's
pub closed_is_nobodys : (w : World) (c o : ℤ) → IsStanding w → connection_of w o ≡ Some c → IsNobodys (close_link w c) o
unfolding close_link
closed_is_nobodys w c o h k = nobodys (close_link w c) o (closed_is_free (quiet w) c o (quiet_agrees w h.objects h.links) k)

-- ---- the next number, and the end

pub apart_stands : (w : World) (n : ℕ) (e : Bool) → IsStanding w → IsStanding (record w { next = n; ending = e })
apart_stands w n e h =
    record {
      objects = elsewhere w w.tasks w.links n e h.objects;
      links = record { links_in_order = h.links.links_in_order; links = h.links.links; persons = h.links.persons };
      tasks_in_order = h.tasks_in_order;
      readers = h.readers;
    }
