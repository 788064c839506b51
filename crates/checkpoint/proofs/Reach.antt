-- A well-formed world of values in reach is readable.
use Rattle.std.proofs.Common.{ℕ, zero, suc, ◌≤◌, Bool, ◌&&◌, List, [], ◌∷◌, Option, Some, None, IsTrue, refl, arith, le-leb}
use Rattle.std.specs.List.{list_all}
use Rattle.spec_value.specs.Datum.{Datum, integer, object, text, error, list, Data, no_data, item, is_text, in_number_range, is_value, of_list}
use Rattle.spec_value.proofs.Entries.{first_holds, second_holds, both_hold, each_entry}
use Rattle.spec_program.specs.Trees.{program_fits, is_tree}
use Rattle.spec_world.specs.World.{World, PrepositionPart, no_preposition, any_preposition, preposition_set, Verb, Object, Frame, Entry, frame_entry, native_entry, Waiting, forked, timed, idle, reading_on, Task}
use Rattle.spec_world.specs.WellFormed.{IsWellFormed}
use Rattle.spec_world.specs.Checkpoint.{start_values, values_held}
use Rattle.spec_checkpoint.specs.Records.{link_holds}
use Rattle.spec_checkpoint.specs.Holding.{is_number, slot_holds, preposition_holds, verb_holds, header_holds, object_holds, numbered_object_holds, call_holds, piece_holds, frame_holds, entry_holds, waiting_holds, task_holds, numbered_task_holds, world_holds}
use Rattle.spec_holding.specs.UnderWay.{are_programmed}
use Rattle.spec_holding.specs.Whole.{programs_spelled, entry_spelled, frames_spelled, TextsSpell}
use Rattle.spec_faults.specs.Literals.{nests, all_nest, deepest}
use Rattle.spec_faults.specs.Reach as reach
use Rattle.moo_value.specs.Depth.{depth, data_depth}
use Rattle.line_fields.specs.Values.{nests_no_deeper}
use Rattle.object_lines.specs.Readable.{is_content_read, is_preposition_read, is_object_in_reach}
use Rattle.task_lines.specs.Tasks.{frame_nests, entry_nests, waiting_nests, task_nests}
use Rattle.checkpoint.specs.Readable.{is_in_reach, IsReadable}

-- ---- how deep values nest

mutual
  as_deep : (n : ℕ) (v : Datum) → IsTrue (nests n v) → depth v ≤ n
  as_deep n (integer z) h = omega arith
  as_deep n (object z) h = omega arith
  as_deep n (text t) h = omega arith
  as_deep n (error e) h = omega arith
  as_deep zero (list xs) h = cc
  as_deep (suc n) (list xs) h = let m : data_depth xs ≤ n = items_as_deep n xs h in omega (arith, m)

  items_as_deep : (n : ℕ) (xs : Data) → IsTrue (all_nest n xs) → data_depth xs ≤ n
  items_as_deep n no_data h = omega arith
  items_as_deep n (item x xs) h =
      let l : depth x ≤ n = as_deep n x (first_holds (nests n x) (all_nest n xs) h) in
      let m : data_depth xs ≤ n = items_as_deep n xs (second_holds (nests n x) (all_nest n xs) h) in omega (arith, l, m)

near_read : (v : Datum) → IsTrue (reach.is_near v) → IsTrue (nests_no_deeper v)
near_read v h = let l : depth v ≤ deepest = as_deep deepest v h in le-leb (depth v) 100000 l

module _ {X : Type 0} (p q : X → Bool) (one : (x : X) → IsTrue (p x) → IsTrue (q x)) where
  all_so : (xs : List X) → IsTrue (list_all p xs) → IsTrue (list_all q xs)
  all_so [] h = refl
  all_so (x ∷ xs) h = both_hold (q x) (list_all q xs) (one x (first_holds (p x) (list_all p xs) h)) (all_so xs (second_holds (p x) (list_all p xs) h))

-- ---- objects

content_read : (o : Option Datum) → IsTrue (reach.content_near o) → IsTrue (is_content_read o)
content_read None h = refl
content_read (Some v) h = near_read v h

preposition_read : (p : PrepositionPart) → IsTrue (reach.preposition_near p) → IsTrue (is_preposition_read p)
preposition_read no_preposition h = refl
preposition_read any_preposition h = refl
preposition_read (preposition_set n) h = h

object_read : (x : Object) → IsTrue (reach.object_near x) → IsTrue (is_object_in_reach x)
object_read x h =
    let slots : Bool = list_all (λ e. reach.content_near (e.1).content) x.slots in
    let verbs : Bool = list_all (λ v. reach.preposition_near v.preposition) x.verbs in
    both_hold (list_all (λ s. is_content_read (s.1).content) x.slots) (list_all (λ v. is_preposition_read v.preposition) x.verbs)
    (all_so (λ e. reach.content_near (e.1).content) (λ s. is_content_read (s.1).content) (λ s i. content_read (s.1).content i) x.slots (first_holds slots verbs h))
    (all_so (λ v. reach.preposition_near v.preposition) (λ v. is_preposition_read v.preposition) (λ v i. preposition_read v.preposition i) x.verbs (second_holds slots verbs h))

-- ---- tasks

frame_read : (f : Frame) → IsTrue (reach.frame_near f) → IsTrue (frame_nests f)
frame_read f h =
    let variables : Bool = list_all (λ e. reach.is_near e.1) f.variables in
    let values : Bool = list_all reach.is_near (values_held f.pieces) in
    both_hold (list_all (λ e. nests_no_deeper e.1) f.variables) (list_all nests_no_deeper (values_held f.pieces))
    (all_so (λ e. reach.is_near e.1) (λ e. nests_no_deeper e.1) (λ e i. near_read e.1 i) f.variables (first_holds variables values h))
    (all_so reach.is_near nests_no_deeper near_read (values_held f.pieces) (second_holds variables values h))

entry_read : (e : Entry) → IsTrue (reach.entry_near e) → IsTrue (entry_nests e)
entry_read (frame_entry f) h = frame_read f h
entry_read (native_entry n) h = near_read (list (of_list n.arguments)) h

wait_read : (w : Waiting) → IsTrue (reach.waiting_near w) → IsTrue (waiting_nests w)
wait_read (forked due) h = refl
wait_read (timed due v) h = near_read v h
wait_read idle h = refl
wait_read (reading_on c) h = refl

task_read : (t : Task) → IsTrue (reach.task_near t) → IsTrue (task_nests t)
task_read t h =
    let entries : Bool = list_all reach.entry_near t.entries in
    both_hold (waiting_nests t.waiting) (list_all entry_nests t.entries) (wait_read t.waiting (first_holds (reach.waiting_near t.waiting) entries h))
    (all_so reach.entry_near entry_nests entry_read t.entries (second_holds (reach.waiting_near t.waiting) entries h))

in_reach : (w : World) → IsTrue (reach.is_in_reach w) → IsTrue (is_in_reach w)
in_reach w h =
    let objects : Bool = list_all (λ e. reach.object_near e.1) w.objects in
    let tasks : Bool = list_all (λ e. reach.task_near e.1) w.tasks in
    both_hold (list_all (λ e. is_object_in_reach e.1) w.objects) (list_all (λ e. task_nests e.1) w.tasks)
    (all_so (λ e. reach.object_near e.1) (λ e. is_object_in_reach e.1) (λ e i. object_read e.1 i) w.objects (first_holds objects tasks h))
    (all_so (λ e. reach.task_near e.1) (λ e. task_nests e.1) (λ e i. task_read e.1 i) w.tasks (second_holds objects tasks h))

-- ---- texts spell the programs of a world of values

verb_spelled : (v : Verb) → IsTrue (verb_holds v) → IsTrue (program_fits [] v.program)
verb_spelled v h =
    let tree : IsTrue (is_tree v.program) =
    second_holds (preposition_holds v.preposition) (is_tree v.program)
    (second_holds (in_number_range v.owner) (preposition_holds v.preposition && is_tree v.program) (second_holds (is_text v.names) (in_number_range v.owner && (preposition_holds v.preposition && is_tree v.program)) h))
    in
    first_holds (program_fits [] v.program) _ tree

object_spelled : (x : Object) → IsTrue (object_holds x) → IsTrue (are_programmed x)
object_spelled x h =
    let slots : Bool = list_all (λ e. slot_holds e.1) x.slots in
    let verbs : Bool = list_all verb_holds x.verbs in
    let defines : Bool = list_all is_text x.defines in
    let contents : Bool = list_all in_number_range x.contents in
    let children : Bool = list_all in_number_range x.children in
    all_so verb_holds (λ v. program_fits [] v.program) verb_spelled x.verbs
    (second_holds slots verbs (second_holds defines (slots && verbs) (second_holds contents (defines && (slots && verbs)) (second_holds children (contents && (defines && (slots && verbs)))
    (second_holds (header_holds x.header) (children && (contents && (defines && (slots && verbs)))) h)))))

frame_spelled : (f : Frame) → IsTrue (frame_holds f) → IsTrue (program_fits [] f.program)
frame_spelled f h =
    let start : Bool = list_all is_value (start_values f.start) in
    let rest : Bool = list_all (λ e. is_text e.0 && is_value e.1) f.variables && list_all piece_holds f.pieces in
    let tree : IsTrue (is_tree f.program) = first_holds (is_tree f.program) rest (second_holds start (is_tree f.program && rest) (second_holds (call_holds f.call) (start && (is_tree f.program && rest)) h)) in
    first_holds (program_fits [] f.program) _ tree

entries_spelled : (e : Entry) → IsTrue (entry_holds e) → IsTrue (entry_spelled e)
entries_spelled (frame_entry f) h = frame_spelled f h
entries_spelled (native_entry n) h = refl

task_spelled : (t : Task) → IsTrue (task_holds t) → IsTrue (list_all entry_spelled t.entries)
task_spelled t h =
    let entries : Bool = list_all entry_holds t.entries in
    all_so entry_holds entry_spelled entries_spelled t.entries
    (second_holds (waiting_holds t.waiting) entries (second_holds (in_number_range t.player) (waiting_holds t.waiting && entries) h))

spelled : (w : World) → IsTrue (world_holds w) → TextsSpell w
spelled w h =
    let tasks : Bool = list_all numbered_task_holds w.tasks in
    let objects : Bool = list_all numbered_object_holds w.objects in
    let links : Bool = list_all link_holds w.links in
    let both : IsTrue (objects && tasks) =
    second_holds links (objects && tasks) (second_holds (in_number_range w.greatest) (links && (objects && tasks)) (second_holds (is_number w.next) (in_number_range w.greatest && (links && (objects && tasks))) h))
    in (
      each_entry (programs_spelled w) w.objects
          (all_so numbered_object_holds (λ e. are_programmed e.1) (λ e i. object_spelled e.1 (second_holds (in_number_range e.0) (object_holds e.1) i)) w.objects (first_holds objects tasks both)),
      each_entry (frames_spelled w) w.tasks
          (all_so numbered_task_holds (λ e. list_all entry_spelled (e.1).entries) (λ e i. task_spelled e.1 (second_holds (in_number_range e.0) (task_holds e.1) i)) w.tasks (second_holds objects tasks both)),
    )

pub readable : (w : World) → IsWellFormed w → IsTrue (world_holds w) → IsTrue (reach.is_in_reach w) → IsReadable w
readable w f h r = record { sound = record { well_formed = f; spelled = spelled w h }; holds = h; reach = in_reach w r }
