-- A world whose text has no fault is in reach of readers.
use Rattle.std.proofs.Common.{◌≡◌, ℕ, zero, suc, ◌+◌, ◌<◌, ◌^◌, ℤ, List, [], ◌∷◌, ◌++◌, length, codes, Some, IsTrue, refl, ap, sym, subst, ◌∙◌, arith, append_assoc, length-append}
use Rattle.std.proofs.lemmas.List.{append-nil}
use Rattle.std.specs.List.{list_all}
use Rattle.spec_value.specs.Datum.{Text, is_text, in_number_range}
use Rattle.spec_value.specs.Table.{Numbered}
use Rattle.spec_value.proofs.Entries.{first_holds, second_holds, both_hold}
use Rattle.spec_program.specs.Spelling.{canonical_lines}
use Rattle.spec_world.specs.World.{World, Slot, Verb, Object, object_at, Task}
use Rattle.spec_world.specs.Inherit.{ancestors}
use Rattle.spec_world.specs.WellFormed.{IsWellFormed}
use Rattle.spec_world.specs.Checkpoint.{checkpoint_text, with_line_ends, counted, link_lines, slots_along, verb_line, each_verb, verb_lines, object_lines, each_object, each_task, world_lines}
use Rattle.spec_checkpoint.specs.Records.{link_holds}
use Rattle.spec_checkpoint.specs.Holding.{is_number, slot_holds, verb_holds, header_holds, object_holds, numbered_object_holds, numbered_task_holds, world_holds}
use Rattle.spec_checkpoint.proofs.Unbroken.{values_have_lines}
use Rattle.spec_faults.specs.Cutting.{lines_of, fields_in, field_at}
use Rattle.spec_faults.specs.Plain.{number_in}
use Rattle.spec_faults.specs.Forms as form
use Rattle.spec_faults.specs.Awaited as awaited
use Rattle.spec_faults.specs.Awaited.{Awaited, one, again, group, of_verb, code, goes_on, first_line, whole}
use Rattle.spec_faults.specs.Faults.{fault_in, first_fault}
use Rattle.spec_faults.specs.Reach.{content_near, preposition_near, object_near, task_near, is_in_reach}
use Rattle.spec_faults.specs.TextLaws.{OnlyReachHasNone}
use Rattle.spec_faults.proofs.LinesBack.{lines_told}
use Rattle.spec_faults.proofs.Entering.{EachIs, each_is}
use Rattle.spec_faults.proofs.ObjectsFine.{as_many_links, verb_told, as_many_verbs, as_many_objects}
use Rattle.spec_faults.proofs.TasksFine.{as_many_tasks}
use Rattle.spec_faults.proofs.WorldsFine.{lines_short}
use Rattle.spec_faults.proofs.Clear.{Clear, clear_same, clear_line, clear_fields, past, clear_counted, clear_group, clear_code}
use Rattle.spec_faults.proofs.NearFields.{verb_near}
use Rattle.spec_faults.proofs.NearSlots.{slots_near}
use Rattle.spec_faults.proofs.NearTasks.{tasks_clear}

-- ---- verbs

verbs_clear : (vs : List Verb) (us : List Text) (more : List Awaited) → IsTrue (list_all verb_holds vs) → length (each_verb vs) < 2 ^ 63
    → Clear (each_verb vs ++ us) (again (length vs) awaited.each_verb ∷ more) → IsTrue (list_all (λ v. preposition_near v.preposition) vs) × Clear us more
verbs_clear [] us more h l c = (refl, clear_same (again zero awaited.each_verb ∷ more) more us refl c)
verbs_clear (v ∷ vs) us more h l c =
    let lines : List Text = canonical_lines v.program in
    let n : ℕ = length lines in
    let room = length-append lines (each_verb vs) in
    let left : List Awaited = again (length vs) awaited.each_verb ∷ more in
    let behind : List Text = (lines ++ each_verb vs) ++ us in
    let holds = first_holds (verb_holds v) (list_all verb_holds vs) h in
    let first : Clear (verb_line v n ∷ behind) (awaited.verb ∷ left) = clear_same (again (suc (length vs)) awaited.each_verb ∷ more) (awaited.verb ∷ left) (verb_line v n ∷ behind) refl c in
    let none = clear_fields awaited.verb left (verb_line v n) behind refl form.verb_form (fields_in (verb_line v n)) (λ ts. goes_on (code (number_in (field_at ts 7)) [] of_verb ∷ [])) refl first in
    let near = verb_near v n holds none in
    let from_code : Clear behind (code n [] of_verb ∷ left) = clear_line awaited.verb left (verb_line v n) behind refl (code n [] of_verb ∷ []) (verb_told v n holds near (omega arith)) first in
    let from_verbs = clear_code of_verb lines (each_verb vs ++ us) left (subst (λ ts. Clear ts (code n [] of_verb ∷ left)) (append_assoc lines (each_verb vs) us) from_code) in
    let later = verbs_clear vs us more (second_holds (verb_holds v) (list_all verb_holds vs) h) (omega arith) from_verbs.1 in
    (both_hold (preposition_near v.preposition) _ near later.0, later.1)

-- ---- objects

module _ (w : World) (wf : IsWellFormed w) where
  object_clear : (o : ℤ) (x : Object) (us : List Text) (more : List Awaited) → object_at w o ≡ Some x → IsTrue (object_holds x) → length (object_lines w o x) < 2 ^ 63
      → Clear (object_lines w o x ++ us) (group awaited.each_object ++ more) → IsTrue (object_near x) × Clear us more
  object_clear o x us more is h room c =
      let slots : List Text = slots_along w o (ancestors w o) in
      let verbs : List Text = verb_lines x.verbs in
      let size : length (object_lines w o x) ≡ 10 + length (slots ++ verbs) = omega arith in
      let parts = length-append slots verbs in
      let many = as_many_verbs x.verbs in
      let l3 = second_holds (list_all in_number_range x.contents) _ (second_holds (list_all in_number_range x.children) _ (second_holds (header_holds x.header) _ h)) in
      let l4 = second_holds (list_all is_text x.defines) _ l3 in
      let slots_hold = first_holds (list_all (λ (e : Text × Slot). slot_holds e.1) x.slots) (list_all verb_holds x.verbs) l4 in
      let verbs_hold = second_holds (list_all (λ (e : Text × Slot). slot_holds e.1) x.slots) (list_all verb_holds x.verbs) l4 in
      let after_slots : List Awaited = awaited.counted (codes "verbs") awaited.each_verb ∷ more in
      let counts : Clear (counted (codes "slots") (length slots) ∷ ((slots ++ verbs) ++ us)) (awaited.counted (codes "slots") awaited.each_slot ∷ after_slots) = past (past (past (past (past (past (past (past (past c)))))))) in
      let from_slots : Clear ((slots ++ verbs) ++ us) (again (length slots) awaited.each_slot ∷ after_slots) =
      clear_counted (codes "slots") awaited.each_slot (length slots) ((slots ++ verbs) ++ us) after_slots refl refl (omega arith) counts in
      let shown = clear_group awaited.each_slot form.slot_form refl slots (verbs ++ us) after_slots (subst (λ ts. Clear ts (again (length slots) awaited.each_slot ∷ after_slots)) (append_assoc slots verbs us) from_slots) in
      let from_verbs : Clear (each_verb x.verbs ++ us) (again (length x.verbs) awaited.each_verb ∷ more) =
      clear_counted (codes "verbs") awaited.each_verb (length x.verbs) (each_verb x.verbs ++ us) more refl refl (omega arith) shown.1 in
      let called = verbs_clear x.verbs us more verbs_hold (omega arith) from_verbs in
      (both_hold (list_all (λ (e : Text × Slot). content_near (e.1).content) x.slots) (list_all (λ v. preposition_near v.preposition) x.verbs) (slots_near w o x is slots_hold wf shown.0) called.0, called.1)

  objects_clear : (es : Numbered Object) (us : List Text) (more : List Awaited) → EachIs (λ o x. object_at w o ≡ Some x) es → IsTrue (list_all numbered_object_holds es)
      → length (each_object w es) < 2 ^ 63 → Clear (each_object w es ++ us) (again (length es) awaited.each_object ∷ more) → IsTrue (list_all (λ e. object_near e.1) es) × Clear us more
  objects_clear [] us more is h l c = (refl, clear_same (again zero awaited.each_object ∷ more) more us refl c)
  objects_clear (e ∷ es) us more is h l c =
      let room = length-append (object_lines w e.0 e.1) (each_object w es) in
      let left : List Awaited = again (length es) awaited.each_object ∷ more in
      let holds = second_holds (in_number_range e.0) (object_holds e.1) (first_holds (numbered_object_holds e) (list_all numbered_object_holds es) h) in
      let first : Clear ((object_lines w e.0 e.1 ++ each_object w es) ++ us) (group awaited.each_object ++ left) =
      clear_same (again (suc (length es)) awaited.each_object ∷ more) (group awaited.each_object ++ left) (each_object w (e ∷ es) ++ us) refl c in
      let here = object_clear e.0 e.1 (each_object w es ++ us) left is.0 holds (omega arith)
      (subst (λ ts. Clear ts (group awaited.each_object ++ left)) (append_assoc (object_lines w e.0 e.1) (each_object w es) us) first) in
      let later = objects_clear es us more is.1 (second_holds (numbered_object_holds e) (list_all numbered_object_holds es) h) (omega arith) here.1 in
      (both_hold (object_near e.1) _ here.0 later.0, later.1)

-- ---- the whole

world_clear : (w : World) → IsWellFormed w → IsTrue (world_holds w) → length (world_lines w) < 2 ^ 63 → Clear (world_lines w) whole → IsTrue (is_in_reach w)
world_clear w wf h room c =
    let h1 = second_holds (is_number w.next) _ h in
    let h2 = second_holds (in_number_range w.greatest) _ h1 in
    let h3 = second_holds (list_all link_holds w.links) _ h2 in
    let objects_hold = first_holds (list_all numbered_object_holds w.objects) (list_all numbered_task_holds w.tasks) h3 in
    let tasks_hold = second_holds (list_all numbered_object_holds w.objects) (list_all numbered_task_holds w.tasks) h3 in
    let tasks : List Text = each_task w.tasks ++ codes "end" ∷ [] in
    let objects : List Text = each_object w w.objects ++ (counted (codes "tasks") (length w.tasks) ∷ tasks) in
    let links : List Text = link_lines w.links ++ (counted (codes "objects") (length w.objects) ∷ objects) in
    let room1 = length-append (link_lines w.links) (counted (codes "objects") (length w.objects) ∷ objects) in
    let room2 = length-append (each_object w w.objects) (counted (codes "tasks") (length w.tasks) ∷ tasks) in
    let room3 = length-append (each_task w.tasks) (codes "end" ∷ []) in
    let many1 = as_many_links w.links in
    let many2 = as_many_objects w w.objects in
    let many3 = as_many_tasks w.tasks in
    let behind_objects : List Awaited = awaited.counted (codes "tasks") awaited.each_task ∷ one form.end_form ∷ [] in
    let behind_links : List Awaited = awaited.counted (codes "objects") awaited.each_object ∷ behind_objects in
    let from_next = clear_line first_line (one form.next_form ∷ one form.greatest_form ∷ one form.ending_form ∷ awaited.counted (codes "links") awaited.each_link ∷ behind_links) (codes "MOO-CHECKPOINT 1") _ refl [] refl c in
    let counts : Clear (counted (codes "links") (length w.links) ∷ links) (awaited.counted (codes "links") awaited.each_link ∷ behind_links) = past (past (past from_next)) in
    let from_links : Clear links (again (length w.links) awaited.each_link ∷ behind_links) = clear_counted (codes "links") awaited.each_link (length w.links) links behind_links refl refl (omega arith) counts in
    let linked = clear_group awaited.each_link form.link_form refl (link_lines w.links) (counted (codes "objects") (length w.objects) ∷ objects) behind_links
    (subst (λ n. Clear links (again n awaited.each_link ∷ behind_links)) (sym many1) from_links) in
    let from_objects : Clear objects (again (length w.objects) awaited.each_object ∷ behind_objects) = clear_counted (codes "objects") awaited.each_object (length w.objects) objects behind_objects refl refl (omega arith) linked.1 in
    let found = objects_clear w wf w.objects (counted (codes "tasks") (length w.tasks) ∷ tasks) behind_objects (each_is (λ o x. object_at w o ≡ Some x) w.objects wf.objects_in_order (λ o x is. is)) objects_hold (omega arith) from_objects in
    let from_tasks : Clear tasks (again (length w.tasks) awaited.each_task ∷ one form.end_form ∷ []) = clear_counted (codes "tasks") awaited.each_task (length w.tasks) tasks (one form.end_form ∷ []) refl refl (omega arith) found.1 in
    let waiting = tasks_clear w.tasks (codes "end" ∷ []) (one form.end_form ∷ []) tasks_hold (omega arith) from_tasks in
    both_hold (list_all (λ (e : ℤ × Object). object_near e.1) w.objects) (list_all (λ (e : ℤ × Task). task_near e.1) w.tasks) found.0 waiting.0

pub only_reach_has_none : OnlyReachHasNone
unfolding first_fault checkpoint_text
only_reach_has_none w wf h room e =
    let ts : List Text = world_lines w in
    let short = lines_short ts in
    let text_room : length (with_line_ends ts) < 2 ^ 63 = room in
    let cut : lines_of (with_line_ends ts) ≡ record { lines = ts; rest = [] } = ap lines_of (sym (append-nil (with_line_ends ts))) ∙ lines_told ts [] (values_have_lines w h) refl in
    world_clear w wf h (omega (arith, short, text_room)) (record { number = 1; none = sym (ap fault_in cut) ∙ e })
