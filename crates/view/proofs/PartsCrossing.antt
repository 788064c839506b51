-- What worlds consist of, questions, answers and changes may go to other threads, and some be lent to them.
use denote.Param.Send.{IsSend, IsSync, sendable}
use denote.Param.SendFields.{as_row_send, variants_send}
use Rattle.std.proofs.Crossing.{crosses}
use Rattle.moo_value.proofs.Crossing.{value_send, text_send, text_sync}
use Rattle.slot_content.proofs.Crossing.{content_send, content_sync}
use Rattle.moo_task.proofs.Crossing.{task_send}
use Rattle.moo_compiler.proofs.Crossing.{program_send, program_sync}
use Rattle.view.specs.contracts.change.Change as change
use Rattle.view.specs.contracts.header.Header as header
use Rattle.view.specs.contracts.link.Link as link
use Rattle.view.specs.contracts.link.Programming as programming
use Rattle.view.specs.contracts.lists.Names as names
use Rattle.view.specs.contracts.lists.Objects as objects
use Rattle.view.specs.contracts.lists.Players as players
use Rattle.view.specs.contracts.object.Object as object
use Rattle.view.specs.contracts.part.Part as part
use Rattle.view.specs.contracts.question.Answer as answer
use Rattle.view.specs.contracts.question.Question as question
use Rattle.view.specs.contracts.changes.Changes as changes
use Rattle.view.specs.contracts.slot.Slot as slot
use Rattle.view.specs.contracts.slots.Slots as slots
use Rattle.view.specs.contracts.verb.Verb as verb
use Rattle.view.specs.contracts.verb.Verbs as verbs

pub header_send : IsSend header.the_row
header_send = search (sendable, crosses, text_send) depth 60

pub slot_send : IsSend slot.the_row
slot_send = search (sendable, crosses, content_send) depth 60

pub slots_send : IsSend slots.the_row
slots_send = search (sendable, crosses, text_send, slot_send) depth 60

verb_send : IsSend verb.the_row
verb_send = search (sendable, crosses, text_send, program_send) depth 60

pub header_sync : IsSync header.the_row
header_sync = search (sendable, crosses, text_sync) depth 60

pub slot_sync : IsSync slot.the_row
slot_sync = search (sendable, crosses, content_sync) depth 60

pub slots_sync : IsSync slots.the_row
slots_sync = search (sendable, crosses, text_sync, slot_sync) depth 60

verb_sync : IsSync verb.the_row
verb_sync = search (sendable, crosses, text_sync, program_sync) depth 60

pub verbs_send : IsSend verbs.the_row
verbs_send = search (sendable, crosses, verb_send, verb_sync) depth 60

names_send : IsSend names.the_row
names_send = search (sendable, crosses, text_send, text_sync) depth 60

objects_send : IsSend objects.the_row
objects_send = search (sendable, crosses) depth 60

pub verbs_sync : IsSync verbs.the_row
verbs_sync = search (sendable, crosses, verb_send, verb_sync) depth 60

names_sync : IsSync names.the_row
names_sync = search (sendable, crosses, text_send, text_sync) depth 60

objects_sync : IsSync objects.the_row
objects_sync = search (sendable, crosses) depth 60

players_send : IsSend players.the_row
players_send = search (sendable, crosses) depth 60

programming_send : IsSend programming.the_row
programming_send = search (sendable, crosses, text_send, names_send) depth 60

programming_sync : IsSync programming.the_row
programming_sync = search (sendable, crosses, text_sync, names_sync) depth 60

pub link_send : IsSend link.the_row
link_send = search (sendable, crosses, programming_send) depth 60

pub link_sync : IsSync link.the_row
link_sync = search (sendable, crosses, programming_sync) depth 60

pub object_send : IsSend object.the_row
object_send = search (sendable, crosses, header_send, slots_send, verbs_send, names_send, objects_send) depth 60

pub object_sync : IsSync object.the_row
object_sync = search (sendable, crosses, header_sync, slots_sync, verbs_sync, names_sync, objects_sync) depth 60

pub question_send : IsSend question.the_row
question_send = search (sendable, crosses, text_send) depth 120

pub answer_send : IsSend answer.the_row
answer_send = search (sendable, crosses, header_send, names_send, objects_send, slot_send, verbs_send, link_send, task_send, players_send) depth 120

part_send : IsSend part.the_row
part_send = search (sendable, crosses, header_send, objects_send, names_send, verbs_send, text_send, slot_send) depth 60

change_send : IsSend change.the_row
change_send =
    variants_send change.enum
    (((search (sendable, crosses, as_row_send) depth 60), ((search (sendable, crosses, as_row_send, part_send) depth 60), tt)), (((search (sendable, crosses, as_row_send) depth 60), ((search (sendable, crosses, as_row_send, text_send) depth 60), ((search (sendable, crosses, as_row_send, value_send) depth 60), tt))), (((search (sendable, crosses, as_row_send) depth 60), ((search (sendable, crosses, as_row_send, object_send) depth 60), tt)), (((search (sendable, crosses, as_row_send) depth 60), ((search (sendable, crosses, as_row_send, task_send) depth 60), tt)), (((search (sendable, crosses, as_row_send) depth 60), ((search (sendable, crosses, as_row_send, link_send) depth 60), tt)), (((search (sendable, crosses, as_row_send) depth 60), tt), (((search (sendable, crosses, as_row_send) depth 60), tt), (((search (sendable, crosses, as_row_send) depth 60), tt), tt))))))))

pub changes_send : IsSend changes.the_row
changes_send = search (sendable, crosses, change_send) depth 60
