-- A step may run a task at its beginning, and after what it does between its tasks.
use Rattle.std.proofs.Common.{◌≡◌, ◌⊎◌, inl, inr, ℕ, zero, suc, ◌≤◌, ◌==◌, max, ℤ, pos, negsuc, Bool, true, false, not, ◌&&◌, List, [], ◌∷◌, map, length, Option, Some, None, refl, sym, ap, ◌∙◌, subst, arith, IsTrue, leb-true}
use Rattle.std.specs.Prelude.{nat_abs, neg_ℤ, ◌-ℤ◌, int_le, nat_le, nat_lt, codes}
use Rattle.std.specs.Ordering.{int_eq}
use Rattle.std.specs.List.{list_all}
use Rattle.spec_value.specs.Datum.{Datum, Text}
use Rattle.spec_value.specs.Table.{at}
use Rattle.spec_value.proofs.Entries.{first_holds, second_holds, both_hold}
use Rattle.spec_value.proofs.Same.{same_integer, integer_itself}
use Rattle.spec_world.specs.World.{World, Object, Link, Task, object_at}
use Rattle.spec_world.specs.WellFormed.{OfEachTask, IsWellFormed, on_object, passes, lists, is_connection, is_moment}
use Rattle.spec_world.specs.Agreeing.{Agrees, frames_hold}
use Rattle.spec_world.specs.Links.{connection_object, connection_of, reads_on, open_link, close_link}
use Rattle.spec_world.proofs.TablesKept.{at_left}
use Rattle.spec_world.proofs.Trees.{either, first_of, second_of}
use Rattle.spec_world.proofs.WorldsKept.{agrees_of, well_formed_agrees, agrees_is_well_formed, tasks_left, next_raised, link_put, link_closed_keeps, none_among, closed_is_free, person_found}
use Rattle.spec_world.specs.Step.{Step, in_range, event_in_range}
use Rattle.spec_moo.specs.Scene.{Scene, in_world}
use Rattle.spec_moo.specs.Linking.{connection_closed, link_closed}
use Rattle.spec_moo.specs.Pending.{Stop, done}
use Rattle.spec_moo.specs.Segment.{segment}
use Rattle.spec_moo.specs.Steps.{numbered}
use Rattle.spec_moo.specs.Steps.Outcomes.{opening_scene}
use Rattle.spec_moo.specs.Steps.Running.{told_on, after_stop, run}
use Rattle.spec_moo.specs.Steps.Events.{is_player, is_open_for, may_log_in, with_own_task}
use Rattle.spec_moo.specs.Worlds.{SceneAgrees, StopKeeps}
use Rattle.spec_moo.proofs.NativeWorlds.{in_agreeing, closed_scene}
use Rattle.spec_moo.proofs.SegmentWorlds.{segments_keep}
use Rattle.spec_ready.specs.Ready.{IsReady, OpensReady, TicksAside, LinksOpen, LinksClose, TasksLeave, ValuesLeaveReady, relinked, PlayersLogIn, GoingOnStands}
use Rattle.spec_ready.proofs.GoingOn.{GoesOn, waiting_goes_on}

ready_of : (k : ℕ) (s : Scene) → SceneAgrees k s → IsReady s
ready_of k s h = record { agrees = subst (λ n. SceneAgrees n s) (sym h.next) h }

-- ---- at the beginning

-- what is said of a step's number and moment
record Numbers (s : Step) : Type 0 where
  one : 1 ≤ s.number
  small : s.number ≤ 33554431
  moment : IsTrue (is_moment s.moment)

numbers_of : (s : Step) → IsTrue (in_range s) → Numbers s
numbers_of s r =
    let before_event : IsTrue (nat_le 1 s.number && nat_le s.number 33554431 && is_moment s.moment && (length s.key == 32) && list_all (λ b. nat_lt b 256) s.key) = first_holds _ (event_in_range s.event) r in
    let with_moment : IsTrue (nat_le 1 s.number && nat_le s.number 33554431 && is_moment s.moment) = first_holds _ (length s.key == 32) (first_holds _ (list_all (λ b. nat_lt b 256) s.key) before_event) in
    let numbers : IsTrue (nat_le 1 s.number && nat_le s.number 33554431) = first_holds _ (is_moment s.moment) with_moment in
    record {
      one = leb-true 1 s.number (first_holds _ (nat_le s.number 33554431) numbers);
      small = leb-true s.number 33554431 (second_holds (nat_le 1 s.number) _ numbers);
      moment = second_holds _ (is_moment s.moment) with_moment;
    }

pub number_small : (s : Step) → IsTrue (in_range s) → s.number ≤ 33554431
number_small s r = (numbers_of s r).small

pub opens_ready : OpensReady
opens_ready w s t h r =
    let n = numbers_of s r in
    let one : 1 ≤ s.number = n.one in
    let small : s.number ≤ 33554431 = n.small in
    let agrees = agrees_of w h in
    let limit : w.next ≤ 33554432 = leb-true w.next 33554432 (second_holds (nat_le 1 w.next) _ agrees.queue.next_in_range) in
    let raised : Agrees (numbered s.number w) = next_raised w (max (suc s.number) w.next) (omega arith) (omega arith) agrees in
    ready_of (max (suc s.number) w.next) (opening_scene (numbered s.number w) s t)
    (record { world = raised; number = one; before = omega arith; moment = n.moment; ids = omega arith; own = tt; next = refl })

pub ticks_aside : TicksAside
ticks_aside s t h =
    let a = h.agrees in
    record { agrees = record { world = a.world; number = a.number; before = a.before; moment = a.moment; ids = a.ids; own = a.own; next = a.next } }

-- ---- links

-- the objects of connections are those of different ones
one_connection : (m n : ℤ) → IsTrue (is_connection m) → IsTrue (is_connection n) → connection_object m ≡ connection_object n → m ≡ n
one_connection (pos zero) n a b e = cc (a)
one_connection m (pos zero) a b e = cc (b)
one_connection (negsuc m) n a b e = cc (a)
one_connection m (negsuc n) a b e = cc (b)
one_connection (pos (suc m)) (pos (suc n)) a b e =
    let h : nat_abs (connection_object (pos (suc m))) ≡ nat_abs (connection_object (pos (suc n))) = ap nat_abs e in ap pos (omega (arith, h))

below_zero : (m : ℤ) → IsTrue (is_connection m) → IsTrue (int_le (pos 0) (connection_object m)) → ⊥
below_zero (pos zero) a e = cc (a)
below_zero (pos (suc m)) a e = cc (e)
below_zero (negsuc m) a e = cc (a)

player_above : (w : World) → Agrees w → (m : Option Object) (o : ℤ) → object_at w o ≡ m → IsTrue (passes m (λ x. x.header.is_player)) → IsTrue (int_le (pos 0) o)
player_above w h None o i k = cc
player_above w h (Some x) o i k = first_holds (int_le (pos 0) o) _ (h.objects.numbers o x i)

-- nobody has the object of a connection that is not open
unknown_person : (w : World) (c : ℤ) → Agrees w → at w.links c ≡ None → IsTrue (is_connection c)
    → lists (map (λ e. (e.1).person) w.links) (connection_object c) ≡ false
unknown_person w c h none ranged = go (lists (map (λ e. (e.1).person) w.links) (connection_object c)) refl
  where
    by : (d : ℤ) (k : Link) → at w.links d ≡ Some k → k.person ≡ connection_object c → IsTrue (is_connection d)
        → IsTrue (int_eq k.person (connection_object d)) ⊎ IsTrue (on_object w k.person (λ x. x.header.is_player)) → ⊥
    by d k there same fits (inl m) =
        let equal : c ≡ d = one_connection c d ranged fits (sym same ∙ same_integer k.person (connection_object d) m) in
        let clash : None ≡ Some k = sym none ∙ ap (at w.links) equal ∙ there in absurd (cc (clash))
    by d k there same fits (inr m) =
        below_zero c ranged (subst (λ z. IsTrue (int_le (pos 0) z)) same (player_above w h (object_at w k.person) k.person refl m))

    go : (b : Bool) → lists (map (λ e. (e.1).person) w.links) (connection_object c) ≡ b → lists (map (λ e. (e.1).person) w.links) (connection_object c) ≡ false
    go false e = e
    go true e =
        let f = person_found w.links (connection_object c) h.links.links_in_order e in
        let fits = h.links.links f.0 f.1.0 f.1.1 in
        absurd (by f.0 f.1.0 f.1.1 f.1.2 (first_holds (is_connection f.0) _ fits) (either (int_eq f.1.0.person (connection_object f.0)) _ (second_holds (is_connection f.0) _ fits)))

pub links_open : LinksOpen
links_open s c h ranged none =
    let k : Link = record { person = connection_object c; programming = None } in
    let there : Agrees (open_link s.world c k) =
    link_put s.world c k h.agrees.world (both_hold (is_connection c) _ ranged (first_of (int_eq (connection_object c) (neg_ℤ (pos 3) -ℤ c)) _ (integer_itself (connection_object c))))
    (inl (unknown_person s.world c h.agrees.world none ranged)) in
    ready_of s.world.next (in_world s (open_link s.world c k)) (in_agreeing s.world.next s (open_link s.world c k) h.agrees there refl)

closed_next : (w : World) (c : ℤ) → (close_link w c).next ≡ w.next
unfolding close_link
closed_next w c = refl

pub links_close : LinksClose
links_close s c h =
    ready_of s.world.next (in_world s (close_link s.world c)) (in_agreeing s.world.next s (close_link s.world c) h.agrees (link_closed_keeps s.world c h.agrees.world) (closed_next s.world c))

-- ---- a task that leaves the queue

pub tasks_leave : TasksLeave
tasks_leave s i t e h =
    let a = h.agrees in
    ready_of s.world.next (with_own_task s i)
    (record {
      world = tasks_left s.world (λ (m : ℤ × Task). not (int_eq i m.0)) a.world;
      number = a.number;
      before = a.before;
      moment = a.moment;
      ids = a.ids;
      own = a.world.queue.task_ids i t e;
      next = a.next;
    })

-- ---- after a task that gave a value

told_agrees : (k : ℕ) (s : Scene) (c : Option ℤ) (ts : List Text) → SceneAgrees k s → SceneAgrees k (told_on s c ts)
told_agrees k s None ts h = h
told_agrees k s (Some c) ts h = record { world = h.world; number = h.number; before = h.before; moment = h.moment; ids = h.ids; own = h.own; next = h.next }

value_agrees : (k : ℕ) (player : ℤ) (s : Scene) (why : Stop) (v : Datum) → why ≡ done v → StopKeeps k s why → SceneAgrees k (after_stop player s why)
value_agrees k player s why v is h =
    subst (λ (x : Stop). SceneAgrees k (after_stop player s x)) (sym is) (told_agrees k s (connection_of s.world player) [] (subst (StopKeeps k s) is h))

pub values_leave_ready : ValuesLeaveReady
values_leave_ready s p v h under is =
    let e = segment s.ticks_left s p in
    let a : SceneAgrees s.world.next (run s p).scene = value_agrees s.world.next p.player e.scene e.stop v is (segments_keep s.world.next s.ticks_left s p h.agrees under) in
    ready_of s.world.next (run s p).scene a

-- ---- after a login

closed_objects : (s : Scene) (who q : ℤ) → object_at (link_closed s who).world q ≡ object_at s.world q
unfolding close_link
closed_objects s who q = go (connection_of s.world who)
  where
    go : (m : Option ℤ) → object_at (connection_closed s m).world q ≡ object_at s.world q
    go None = refl
    go (Some c) = refl

closed_free : (s : Scene) (who : ℤ) → Agrees s.world → lists (map (λ e. (e.1).person) (link_closed s who).world.links) who ≡ false
closed_free s who h = go (connection_of s.world who) refl
  where
    go : (m : Option ℤ) → connection_of s.world who ≡ m → lists (map (λ e. (e.1).person) (connection_closed s m).world.links) who ≡ false
    go None e = none_among s.world.links who e
    go (Some c) e = closed_is_free s.world c who h e

as_player : (m : Option Object) → is_player m ≡ passes m (λ x. x.header.is_player)
as_player None = refl
as_player (Some x) = refl

open_ranged : (s : Scene) (c : ℤ) (m : Option Link) → IsReady s → at s.world.links c ≡ m → IsTrue (is_open_for m (connection_object c)) → IsTrue (is_connection c)
open_ranged s c None h e k = cc
open_ranged s c (Some l) h e k = first_holds (is_connection c) _ (h.agrees.world.links.links c l e)

-- who may log in does so on a link that is open
pub login_ranged : (s : Scene) (c who : ℤ) → IsReady s → may_log_in s c who ≡ true → IsTrue (is_connection c)
login_ranged s c who h may = open_ranged s c (at s.world.links c) h refl (second_holds (is_player (object_at s.world who)) _ may)

pub players_log_in : PlayersLogIn
players_log_in s c who h may =
    let player : is_player (object_at s.world who) ≡ true = first_holds (is_player (object_at s.world who)) _ may in
    let t : Scene = link_closed s who in
    let k : Link = record { person = who; programming = None } in
    let a : SceneAgrees s.world.next t = closed_scene s.world.next s who h.agrees in
    let passing : IsTrue (on_object t.world who (λ x. x.header.is_player)) = sym (as_player (object_at t.world who)) ∙ ap is_player (closed_objects s who who) ∙ player in
    let fits = both_hold (is_connection c) _ (login_ranged s c who h may) (second_of (int_eq who (neg_ℤ (pos 3) -ℤ c)) _ passing) in
    let there : SceneAgrees s.world.next (in_world t (open_link t.world c k)) = in_agreeing s.world.next t (open_link t.world c k) a (link_put t.world c k a.world fits (inl (closed_free s who h.agrees.world))) refl in
    ready_of s.world.next (relinked s c who) (told_agrees s.world.next (in_world t (open_link t.world c k)) (Some c) (codes "*** Connected ***" ∷ []) there)

-- ---- a task that goes on

pub going_on_stands : GoingOnStands
going_on_stands s i t v p h e is = subst GoesOn is (waiting_goes_on s.world i t v h.agrees.world e)
