-- The text of a world has no fault.
use Rattle.std.proofs.Common.{◌≡◌, inl, inr, ℕ, ◌-◌, ◌*◌, ◌<◌, ◌≤◌, ◌^◌, ◌&&◌, nat_le, ℤ, pos, negsuc, neg_ℤ, int_le, false, List, [], ◌∷◌, ◌++◌, length, codes, Option, Some, None, IsTrue, refl, ap, sym, ◌∙◌, arith, length-append, leb-true}
use Rattle.std.specs.Prelude.{is_some}
use Rattle.std.proofs.lemmas.Bool.{le-leb}
use Rattle.std.proofs.lemmas.List.{append-nil}
use Rattle.std.specs.List.{list_all}
use Rattle.std.specs.Fmt.{decimal, signed_decimal}
use Rattle.spec_value.specs.Datum.{Text, in_number_range, is_value}
use Rattle.spec_value.specs.Table.{at}
use Rattle.spec_value.proofs.Entries.{first_holds, second_holds, both_hold, each_entry}
use Rattle.spec_world.specs.World.{World, Link, Object, Waiting, forked, timed, idle, reading_on, Task}
use Rattle.spec_world.specs.WellFormed.{IsWellFormed, is_connection, FramesStand, TaskStands, entry_fits, begins_with_frame, frames, fork_fits, is_moment, waiting_fits, entries_fit}
use Rattle.spec_world.specs.Checkpoint.{checkpoint_text, with_line_ends, fields, counted, flag, link_lines, each_object, each_task, world_lines}
use Rattle.spec_checkpoint.specs.Records.{link_holds}
use Rattle.spec_checkpoint.specs.Holding.{is_number, numbered_object_holds, entry_holds, waiting_holds, task_holds, numbered_task_holds, world_holds}
use Rattle.spec_checkpoint.proofs.Fields.{number_small}
use Rattle.spec_checkpoint.proofs.Unbroken.{values_have_lines}
use Rattle.spec_faults.specs.Cutting.{lines_of}
use Rattle.spec_faults.specs.Forms as form
use Rattle.spec_faults.specs.Awaited as awaited
use Rattle.spec_faults.specs.Awaited.{Awaited, one, again, first_line, whole}
use Rattle.spec_faults.specs.Faults.{LineFault, fault_in, first_fault}
use Rattle.spec_faults.specs.Reach.{object_near, entry_near, waiting_near, task_near, is_in_reach}
use Rattle.spec_faults.specs.TextLaws.{WorldsHaveNone, WorldsHaveNoFault}
use Rattle.spec_faults.proofs.LinesBack.{lines_told}
use Rattle.spec_faults.proofs.FieldsSuit.{a_word, a_number, an_integer, a_flag}
use Rattle.spec_faults.proofs.Fine.{Fine, fine_line}
use Rattle.spec_faults.proofs.Entering.{each_is}
use Rattle.spec_faults.proofs.ObjectsFine.{fine_one, fine_counted, as_many_links, links_fine, in_range, IsNumber, objects_fine, as_many_objects}
use Rattle.spec_faults.proofs.TasksFine.{IsTaskId, is_forked, WaitsSo, EntriesAre, TaskIs, tasks_fine, as_many_tasks}

-- ---- its tasks

small_id : (i : ℤ) (next : ℕ) → IsTrue (int_le (pos 1) i && int_le i (pos ((next - 1) * 64))) → IsTrue (nat_le 1 next && nat_le next 33554432) → IsTaskId i
small_id (negsuc n) next h k = cc
small_id (pos n) next h k =
    let least : 1 ≤ n = leb-true 1 n (first_holds (nat_le 1 n) (nat_le n ((next - 1) * 64)) h) in
    let most : n ≤ (next - 1) * 64 = leb-true n ((next - 1) * 64) (second_holds (nat_le 1 n) (nat_le n ((next - 1) * 64)) h) in
    let bound : next ≤ 33554432 = leb-true next 33554432 (second_holds (nat_le 1 next) (nat_le next 33554432) k) in
    (n, refl, both_hold (nat_le 1 n) (nat_le n 2147483584) (le-leb 1 n least) (le-leb n 2147483584 (omega (arith, most, bound))))

waits_so : (w : World) (t : Task) (x : Waiting) → IsWellFormed w → IsTrue (waiting_fits w t x) → IsTrue (waiting_holds x) → IsTrue (waiting_near x) → WaitsSo x
waits_so w t (forked due) wf h k l = first_holds (is_moment due) (fork_fits t.entries) h
waits_so w t (timed due v) wf h k l = (h, second_holds (is_number due) (is_value v) k, l)
waits_so w t idle wf h k l = tt
waits_so w t (reading_on c) wf h k l = (go (at w.links c) refl h, k)
  where
    go : (m : Option Link) → at w.links c ≡ m → IsTrue (is_some m) → IsTrue (is_connection c)
    go None is there = cc
    go (Some x) is there = first_holds (is_connection c) _ (wf.links c x is)

entries_are : (w : World) (i : ℤ) (t : Task) (x : Waiting) → IsTrue (waiting_fits w t x) → IsTrue (entries_fit w i t) → TaskStands t x → EntriesAre (is_forked x) t.entries
entries_are w i t x h k st = go x h st
  where
    both : IsTrue (begins_with_frame t.entries && nat_le (frames t.entries) 50)
    both = first_holds (begins_with_frame t.entries && nat_le (frames t.entries) 50) (list_all entry_fits t.entries) k

    calls : FramesStand t.entries → EntriesAre false t.entries
    calls s = (first_holds (begins_with_frame t.entries) (nat_le (frames t.entries) 50) both, leb-true (frames t.entries) 50 (second_holds (begins_with_frame t.entries) (nat_le (frames t.entries) 50) both), s)

    go : (y : Waiting) → IsTrue (waiting_fits w t y) → TaskStands t y → EntriesAre (is_forked y) t.entries
    go (forked due) f s = second_holds (is_moment due) (fork_fits t.entries) f
    go (timed due v) f s = calls s
    go idle f s = calls s
    go (reading_on c) f s = calls s

task_is : (w : World) → IsWellFormed w → IsTrue (list_all numbered_task_holds w.tasks) → IsTrue (list_all (λ e. task_near e.1) w.tasks) → (i : ℤ) (t : Task) → at w.tasks i ≡ Some t → TaskIs i t
task_is w wf h k i t is =
    let holds = second_holds (in_number_range i) (task_holds t) (each_entry (λ j x. in_number_range j && task_holds x) w.tasks h i t is) in
    let near = each_entry (λ j x. task_near x) w.tasks k i t is in
    let waiting = first_holds (waiting_holds t.waiting) (list_all entry_holds t.entries) (second_holds (in_number_range t.player) _ holds) in
    record {
      number = small_id i w.next (wf.task_ids i t is) wf.next_in_range;
      waits = waits_so w t t.waiting wf (wf.task_waits i t is) waiting (first_holds (waiting_near t.waiting) (list_all entry_near t.entries) near);
      entries = entries_are w i t t.waiting (wf.task_waits i t is) (wf.task_entries i t is) (wf.task_places i t is);
      fits = second_holds (begins_with_frame t.entries && nat_le (frames t.entries) 50) (list_all entry_fits t.entries) (wf.task_entries i t is);
    }

object_is : (w : World) → IsWellFormed w → (o : ℤ) (x : Object) → at w.objects o ≡ Some x → IsNumber o
object_is w wf o x is =
    let n = wf.numbers o x is in
    in_range o w.greatest (first_holds (int_le (pos 0) o) (int_le o w.greatest) n) (second_holds (int_le (pos 0) o) (int_le o w.greatest) n)
    (second_holds (int_le (neg_ℤ (pos 1)) w.greatest) (int_le w.greatest (pos 999999)) wf.greatest_in_range)

-- ---- as many lines as characters at most

pub lines_short : (ts : List Text) → length ts ≤ length (with_line_ends ts)
lines_short [] = omega arith
lines_short (t ∷ ts) = let later = lines_short ts in let parts = length-append t (10 ∷ with_line_ends ts) in omega (arith, later, parts)

-- ---- all lines

nothing : Fine [] []
nothing n = refl

world_fine : (w : World) → IsWellFormed w → IsTrue (world_holds w) → IsTrue (is_in_reach w) → length (world_lines w) < 2 ^ 63 → Fine (world_lines w) whole
world_fine w wf h k room =
    let h1 = second_holds (is_number w.next) _ h in
    let h2 = second_holds (in_number_range w.greatest) _ h1 in
    let h3 = second_holds (list_all link_holds w.links) _ h2 in
    let objects_hold = first_holds (list_all numbered_object_holds w.objects) (list_all numbered_task_holds w.tasks) h3 in
    let tasks_hold = second_holds (list_all numbered_object_holds w.objects) (list_all numbered_task_holds w.tasks) h3 in
    let objects_near = first_holds (list_all (λ (e : ℤ × Object). object_near e.1) w.objects) (list_all (λ (e : ℤ × Task). task_near e.1) w.tasks) k in
    let tasks_near = second_holds (list_all (λ (e : ℤ × Object). object_near e.1) w.objects) (list_all (λ (e : ℤ × Task). task_near e.1) w.tasks) k in
    let tasks : List Text = each_task w.tasks ++ codes "end" ∷ [] in
    let objects : List Text = each_object w w.objects ++ (counted (codes "tasks") (length w.tasks) ∷ tasks) in
    let links : List Text = link_lines w.links ++ (counted (codes "objects") (length w.objects) ∷ objects) in
    let room1 = length-append (link_lines w.links) (counted (codes "objects") (length w.objects) ∷ objects) in
    let room2 = length-append (each_object w w.objects) (counted (codes "tasks") (length w.tasks) ∷ tasks) in
    let room3 = length-append (each_task w.tasks) (codes "end" ∷ []) in
    let many1 = as_many_links w.links in
    let many2 = as_many_objects w w.objects in
    let many3 = as_many_tasks w.tasks in
    let last : Fine (codes "end" ∷ []) (one form.end_form ∷ []) = fine_one form.end_form (codes "end") [] [] [] (a_word (codes "end") refl refl, tt) nothing in
    let read_tasks : Fine tasks (again (length w.tasks) awaited.each_task ∷ one form.end_form ∷ []) =
    tasks_fine w.tasks (codes "end" ∷ []) (one form.end_form ∷ []) (each_is TaskIs w.tasks wf.tasks_in_order (task_is w wf tasks_hold tasks_near)) tasks_hold tasks_near (omega arith) last in
    let behind_objects : List Awaited = awaited.counted (codes "tasks") awaited.each_task ∷ one form.end_form ∷ [] in
    let count_tasks : Fine (counted (codes "tasks") (length w.tasks) ∷ tasks) behind_objects =
    fine_counted (codes "tasks") awaited.each_task (length w.tasks) tasks (one form.end_form ∷ []) refl refl (omega arith) read_tasks in
    let read_objects : Fine objects (again (length w.objects) awaited.each_object ∷ behind_objects) =
    objects_fine w objects_hold objects_near w.objects (counted (codes "tasks") (length w.tasks) ∷ tasks) behind_objects (each_is (λ o x. IsNumber o) w.objects wf.objects_in_order (object_is w wf)) objects_hold objects_near (omega arith)
    count_tasks in
    let behind_links : List Awaited = awaited.counted (codes "objects") awaited.each_object ∷ behind_objects in
    let count_objects : Fine (counted (codes "objects") (length w.objects) ∷ objects) behind_links =
    fine_counted (codes "objects") awaited.each_object (length w.objects) objects behind_objects refl refl (omega arith) read_objects in
    let read_links : Fine links (again (length w.links) awaited.each_link ∷ behind_links) =
    links_fine w.links (counted (codes "objects") (length w.objects) ∷ objects) behind_links (each_is (λ c x. IsTrue (is_connection c)) w.links wf.links_in_order (λ c x is. first_holds (is_connection c) _ (wf.links c x is)))
    (first_holds (list_all link_holds w.links) _ h2) count_objects in
    let from_links : List Awaited = awaited.counted (codes "links") awaited.each_link ∷ behind_links in
    let count_links : Fine (counted (codes "links") (length w.links) ∷ links) from_links = fine_counted (codes "links") awaited.each_link (length w.links) links behind_links refl refl (omega arith) read_links in
    let ending_lines : List Text = fields (codes "ending" ∷ flag w.ending ∷ []) ∷ counted (codes "links") (length w.links) ∷ links in
    let ending : Fine ending_lines (one form.ending_form ∷ from_links) =
    fine_one form.ending_form (codes "ending") (flag w.ending ∷ []) (counted (codes "links") (length w.links) ∷ links) from_links (a_word (codes "ending") refl refl, (a_flag w.ending, tt)) count_links in
    let greatest_lines : List Text = fields (codes "greatest" ∷ signed_decimal w.greatest ∷ []) ∷ ending_lines in
    let greatest : Fine greatest_lines (one form.greatest_form ∷ one form.ending_form ∷ from_links) =
    fine_one form.greatest_form (codes "greatest") (signed_decimal w.greatest ∷ []) ending_lines (one form.ending_form ∷ from_links)
    (a_word (codes "greatest") refl refl, (an_integer (neg_ℤ (pos 1)) (pos 999999) w.greatest (first_holds (in_number_range w.greatest) _ h1) wf.greatest_in_range, tt)) ending in
    let next : Fine (counted (codes "next") w.next ∷ greatest_lines) (one form.next_form ∷ one form.greatest_form ∷ one form.ending_form ∷ from_links) =
    fine_one form.next_form (codes "next") (decimal w.next ∷ []) greatest_lines (one form.greatest_form ∷ one form.ending_form ∷ from_links)
    (a_word (codes "next") refl refl, (a_number 1 33554432 w.next (number_small w.next (first_holds (is_number w.next) _ h)) wf.next_in_range, tt)) greatest in
    fine_line first_line [] (one form.next_form ∷ one form.greatest_form ∷ one form.ending_form ∷ from_links) (codes "MOO-CHECKPOINT 1") (counted (codes "next") w.next ∷ greatest_lines) refl refl next

pub worlds_have_none : WorldsHaveNone
unfolding first_fault checkpoint_text
worlds_have_none w h =
    let ts : List Text = world_lines w in
    let short = lines_short ts in
    let room : length (with_line_ends ts) < 2 ^ 63 = h.room in
    let cut : lines_of (with_line_ends ts) ≡ record { lines = ts; rest = [] } = ap lines_of (sym (append-nil (with_line_ends ts))) ∙ lines_told ts [] (values_have_lines w h.holds) refl in
    ap fault_in cut ∙ world_fine w h.well_formed h.holds h.reach (omega (arith, short, room)) 1

no_fault : (o : Option LineFault) (f : LineFault) → o ≡ None → o ≡ Some f → ⊥
no_fault o f e g = cc

pub worlds_have_no_fault : WorldsHaveNoFault
worlds_have_no_fault w f h (inl e) = no_fault (first_fault (checkpoint_text w)) f (worlds_have_none w h) e
worlds_have_no_fault w f h (inr x) = x.no_world w h.well_formed h.holds refl
