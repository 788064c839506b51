-- The lines of a world, from the first to the last.
use Rattle.std.proofs.Common.{◌≡◌, List, [], ◌∷◌, ◌++◌, length, get_or, drop, IsTrue, Bool, ◌==◌, false, refl, ap, codes}
use Rattle.std.specs.List.{list_all}
use Rattle.std.specs.Fmt.{decimal}
use Rattle.std.proofs.lemmas.List.{append_cancel_left}
use Rattle.spec_value.specs.Datum.{Text, in_number_range}
use Rattle.spec_value.specs.Table.{Numbered}
use Rattle.spec_value.proofs.Entries.{first_holds, second_holds}
use Rattle.spec_world.specs.World.{World, Link}
use Rattle.spec_world.specs.WellFormed.{IsWellFormed}
use Rattle.spec_world.specs.Checkpoint.{checkpoint_text, counted, link_lines, each_object, each_task, world_lines}
use Rattle.spec_checkpoint.specs.Records.{link_holds}
use Rattle.spec_checkpoint.specs.Holding.{is_number, numbered_object_holds, numbered_task_holds, world_holds}
use Rattle.spec_checkpoint.specs.Beginnings.{NoneBeginsOfValues}
use Rattle.spec_checkpoint.specs.OneWorld.{TextOfOneWorld}
use Rattle.spec_checkpoint.proofs.Lines.{whole_lines_read_once}
use Rattle.spec_checkpoint.proofs.Beginnings.{none_begins}
use Rattle.spec_checkpoint.proofs.Unbroken.{values_have_lines}
use Rattle.spec_checkpoint.proofs.Runs.{rest_same, runs_read_once}
use Rattle.spec_checkpoint.proofs.Fields.{whole_number, whole_signed, whole_flag}
use Rattle.spec_checkpoint.proofs.RecordLines.{links_read_once}
use Rattle.spec_checkpoint.proofs.OpenLines.{decimal_open, not_closed_behind}
use Rattle.spec_checkpoint.proofs.ObjectRecords.{objects_in_front}
use Rattle.spec_checkpoint.proofs.SlotRecords.{all_shown, objects_same}
use Rattle.spec_checkpoint.proofs.TaskRecords.{tasks_in_front}
use Rattle.spec_checkpoint.proofs.PieceRecords.{tasks_same}

abbrev is_link_line : Text → Bool
is_link_line [] = false
is_link_line (c ∷ t) = c == 108

links_are_lines : (es : Numbered Link) → IsTrue (list_all is_link_line (link_lines es))
links_are_lines [] = refl
links_are_lines (e ∷ es) = links_are_lines es

abbrev from_tasks : World → List Text
from_tasks w = each_task w.tasks ++ codes "end" ∷ []

abbrev from_objects : World → List Text
from_objects w = each_object w w.objects ++ (counted (codes "tasks") (length w.tasks) ∷ from_tasks w)

lines_of_one_world : (v w : World) → IsWellFormed v → IsWellFormed w → IsTrue (world_holds v) → IsTrue (world_holds w) → world_lines v ≡ world_lines w → v ≡ w
lines_of_one_world v w hv hw h k e =
    let h1 = second_holds (is_number v.next) _ h in
    let k1 = second_holds (is_number w.next) _ k in
    let h2 = second_holds (in_number_range v.greatest) _ h1 in
    let k2 = second_holds (in_number_range w.greatest) _ k1 in
    let h3 = second_holds (list_all link_holds v.links) _ h2 in
    let k3 = second_holds (list_all link_holds w.links) _ k2 in
    let objects_v = first_holds (list_all numbered_object_holds v.objects) (list_all numbered_task_holds v.tasks) h3 in
    let objects_w = first_holds (list_all numbered_object_holds w.objects) (list_all numbered_task_holds w.tasks) k3 in
    let next = whole_number v.next w.next (first_holds (is_number v.next) _ h) (first_holds (is_number w.next) _ k) (append_cancel_left (codes "next ") _ _ (ap (λ ts. get_or ts 1 []) e)) in
    let greatest = whole_signed v.greatest w.greatest (first_holds (in_number_range v.greatest) _ h1) (first_holds (in_number_range w.greatest) _ k1) (append_cancel_left (codes "greatest ") _ _ (ap (λ ts. get_or ts 2 []) e)) in
    let ending = whole_flag v.ending w.ending (append_cancel_left (codes "ending ") _ _ (ap (λ ts. get_or ts 3 []) e)) in
    let later : link_lines v.links ++ (counted (codes "objects") (length v.objects) ∷ from_objects v) ≡ link_lines w.links ++ (counted (codes "objects") (length w.objects) ∷ from_objects w) = ap (λ ts. drop 5 ts) e in
    let linked = runs_read_once is_link_line (link_lines v.links) (link_lines w.links) _ _ (links_are_lines v.links) (links_are_lines w.links) refl refl later in
    let links = links_read_once v.links w.links (first_holds (list_all link_holds v.links) _ h2) (first_holds (list_all link_holds w.links) _ k2) linked.0 in
    let shown = objects_in_front v w v.objects w.objects (counted (codes "tasks") (length v.tasks) ∷ from_tasks v) (counted (codes "tasks") (length w.tasks) ∷ from_tasks w) objects_v objects_w
    (not_closed_behind (codes "tasks ") (decimal (length v.tasks)) (decimal_open (length v.tasks))) (not_closed_behind (codes "tasks ") (decimal (length w.tasks)) (decimal_open (length w.tasks))) refl refl refl refl
    (rest_same _ _ (from_objects v) (from_objects w) linked.1) in
    let objects = objects_same v w hv hw (all_shown v w shown.0) greatest objects_v objects_w in
    let waiting = tasks_in_front v.tasks w.tasks (codes "end" ∷ []) (codes "end" ∷ []) (second_holds (list_all numbered_object_holds v.objects) (list_all numbered_task_holds v.tasks) h3)
    (second_holds (list_all numbered_object_holds w.objects) (list_all numbered_task_holds w.tasks) k3) refl refl refl refl (rest_same _ _ (from_tasks v) (from_tasks w) shown.1) in
    let tasks = tasks_same v w hv hw waiting.0 in
    λ i. record { objects = objects i; tasks = tasks i; links = links i; greatest = greatest i; next = next i; ending = ending i }

pub text_of_one_world : TextOfOneWorld
unfolding checkpoint_text
text_of_one_world v w hv hw h k e =
    lines_of_one_world v w hv hw h k (whole_lines_read_once (world_lines v) (world_lines w) (values_have_lines v h) (values_have_lines w k) e)

pub none_begins_of_values : NoneBeginsOfValues
none_begins_of_values v w rest h k = none_begins v w rest (values_have_lines v h) (values_have_lines w k)
