-- Worlds and snapshots may go to other threads, and snapshots be lent to them.
use denote.Param.Send.{IsSend, IsSync, recorded_send, sendable}
use denote.Model.Goals.{has_of, part_has, one_law, All, tied_goals, send}
use denote.Param.SendFields.{as_row_send, declared_send}
use denote.Model.Cut.{split_one}
use denote.Model.Local.{Parts, rows}
use denote.Struct.Field.{i32-field}
use Rattle.std.proofs.Crossing.{crosses}
use Rattle.due_table.proofs.Crossing.{due_send, due_sync}
use Rattle.moo_task.proofs.Crossing.{task_send, task_sync}
use Rattle.moo_task.specs.contracts.task.Task as task
use Rattle.view.proofs.PartsCrossing.{object_send, object_sync, link_send, link_sync, answer_send}
use Rattle.view.specs.contracts.link.Link as link
use Rattle.view.specs.contracts.object.Object as object
use Rattle.world_table.proofs.Crossing.{table_send, table_sync}
use Rattle.world.specs.declared.count.Count.TheDeep.{the_members, member-Count, split-Count, join-Count, joins-Count}
use Rattle.world.specs.declared.count.Count.TheInside.{Inside}
use Rattle.world.specs.contracts.count.Count.TheKnot as knot
use Rattle.world.specs.contracts.count.Count as count
use Rattle.world.specs.contracts.draft.Draft as draft
use Rattle.world.specs.contracts.links.Links as links
use Rattle.world.specs.contracts.noted.Noted as noted
use Rattle.world.specs.contracts.seen.Seen as seen
use Rattle.world.specs.contracts.shared.SharedSnapshot as shared
use Rattle.world.specs.contracts.tasks.Tasks as tasks
use Rattle.world.specs.contracts.worlds.Snapshot as snapshot
use Rattle.world.specs.contracts.worlds.World as world

number_send : IsSend i32-field.row
number_send = search (sendable, crosses) depth 60

number_sync : IsSync i32-field.row
number_sync = search (sendable, crosses) depth 60

tasks_send : IsSend tasks.the_row
tasks_send =
    let found = table_send task.the_row task_send task_sync in
    let readers = table_send i32-field.row number_send number_sync in
    search (sendable, crosses, found, readers, due_send) depth 60

tasks_sync : IsSync tasks.the_row
tasks_sync =
    let found = table_sync task.the_row task_send task_sync in
    let readers = table_sync i32-field.row number_send number_sync in
    search (sendable, crosses, found, readers, due_sync) depth 60

links_send : IsSend links.the_row
links_send =
    let found = table_send link.the_row link_send link_sync in
    search (sendable, crosses, found, due_send) depth 60

links_sync : IsSync links.the_row
links_sync =
    let found = table_sync link.the_row link_send link_sync in
    search (sendable, crosses, found, due_sync) depth 60

pub draft_send : IsSend draft.the_row
draft_send =
    let objects = table_send object.the_row object_send object_sync in
    search (sendable, crosses, objects, links_send, tasks_send) depth 60

draft_sync : IsSync draft.the_row
draft_sync =
    let objects = table_sync object.the_row object_send object_sync in
    search (sendable, crosses, objects, links_sync, tasks_sync) depth 60

pub snapshot_send : IsSend snapshot.the_row
snapshot_send = search (sendable, crosses, draft_send) depth 60

pub snapshot_sync : IsSync snapshot.the_row
snapshot_sync = search (sendable, crosses, draft_sync) depth 60

pub shared_send : IsSend shared.the_row
shared_send = search (sendable, crosses, snapshot_send, snapshot_sync) depth 60

noted_send : IsSend noted.the_row
noted_send = search (sendable, crosses, answer_send) depth 60

pub seen_send : IsSend seen.the_row
seen_send = search (sendable, crosses, shared_send, noted_send) depth 60

at_count_send : (p : Parts knot.frame) → IsSend (knot.at-Count p)
at_count_send p = recorded_send _ _ _ (split_one (knot.layer-Count (rows knot.frame p member-Count)) Inside split-Count join-Count joins-Count) (declared_send (knot.type-Count (rows knot.frame p member-Count)) ((search (sendable, crosses, as_row_send) depth 60), tt))

view_send : (p : Parts knot.frame) → IsSend (knot.at-Count p) → IsSend (knot.view-Count p)
view_send p a = search (sendable, a) depth 60

step_send : (p : Parts knot.frame) → (i : the_members) → IsSend (rows knot.frame (knot.step p) i)
step_send p member-Count = has_of knot.frame send (knot.step p) member-Count (part_has send (knot.view-Count p) (view_send p (at_count_send p)))

goals : All (one_law the_members send) (rows knot.frame knot.tied)
goals = tied_goals knot.frame knot.step knot.sizes (one_law the_members send) (λ p _ i. step_send p i)

pub count_send : IsSend count.the_row
count_send = goals member-Count

pub world_send : IsSend world.the_row
world_send = search (sendable, crosses, draft_send, count_send) depth 60
