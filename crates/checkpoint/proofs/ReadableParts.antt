-- Links, objects and tasks of a world that is readable.
use Rattle.std.proofs.Common.{◌&&◌, IsTrue}
use Rattle.std.specs.List.{list_all}
use Rattle.spec_value.specs.Datum.{in_number_range}
use Rattle.spec_value.proofs.Entries.{first_holds, second_holds}
use Rattle.spec_world.specs.World.{World}
use Rattle.spec_checkpoint.specs.Records.{link_holds}
use Rattle.spec_checkpoint.specs.Holding.{is_number, numbered_object_holds, numbered_task_holds}
use Rattle.object_lines.specs.Readable.{is_object_in_reach, is_object_read}
use Rattle.object_lines.proofs.Lists.{both_of_all}
use Rattle.task_lines.specs.Tasks.{task_nests}
use Rattle.task_lines.specs.Readable.{is_task_read}
use Rattle.checkpoint.specs.Readable.{IsReadable}

records_hold : (w : World) → IsReadable w → IsTrue (list_all link_holds w.links && (list_all numbered_object_holds w.objects && list_all numbered_task_holds w.tasks))
records_hold w r =
    second_holds (in_number_range w.greatest) (list_all link_holds w.links && (list_all numbered_object_holds w.objects && list_all numbered_task_holds w.tasks))
    (second_holds (is_number w.next) (in_number_range w.greatest && (list_all link_holds w.links && (list_all numbered_object_holds w.objects && list_all numbered_task_holds w.tasks))) r.holds)

pub links_read : (w : World) → IsReadable w → IsTrue (list_all link_holds w.links)
links_read w r = first_holds (list_all link_holds w.links) (list_all numbered_object_holds w.objects && list_all numbered_task_holds w.tasks) (records_hold w r)

objects_and_tasks_hold : (w : World) → IsReadable w → IsTrue (list_all numbered_object_holds w.objects && list_all numbered_task_holds w.tasks)
objects_and_tasks_hold w r = second_holds (list_all link_holds w.links) (list_all numbered_object_holds w.objects && list_all numbered_task_holds w.tasks) (records_hold w r)

pub objects_read : (w : World) → IsReadable w → IsTrue (list_all is_object_read w.objects)
objects_read w r =
    both_of_all numbered_object_holds (λ e. is_object_in_reach e.1) w.objects
    (first_holds (list_all numbered_object_holds w.objects) (list_all numbered_task_holds w.tasks) (objects_and_tasks_hold w r))
    (first_holds (list_all (λ e. is_object_in_reach e.1) w.objects) (list_all (λ e. task_nests e.1) w.tasks) r.reach)

pub tasks_read : (w : World) → IsReadable w → IsTrue (list_all is_task_read w.tasks)
tasks_read w r =
    both_of_all numbered_task_holds (λ e. task_nests e.1) w.tasks
    (second_holds (list_all numbered_object_holds w.objects) (list_all numbered_task_holds w.tasks) (objects_and_tasks_hold w r))
    (second_holds (list_all (λ e. is_object_in_reach e.1) w.objects) (list_all (λ e. task_nests e.1) w.tasks) r.reach)
