-- Objects that were read ahead may go to other threads.
use denote.Param.Send.{IsSend, sendable}
use denote.Ref.{NamedLft}
use Rattle.std.proofs.Crossing.{crosses}
use Rattle.moo_value.proofs.Crossing.{text_send}
use Rattle.moo_compiler.proofs.Crossing.{program_send}
use Rattle.view.proofs.PartsCrossing.{header_send, slot_send}
use Rattle.view.specs.contracts.verb.Verb as verb
use Rattle.named_objects.specs.contracts.record.ObjectRecord as object
use Rattle.object_lines.specs.contracts.ahead.ObjectsAhead as ahead

verb_send : IsSend verb.the_row
verb_send = search (sendable, crosses, text_send, program_send) depth 60

object_send : IsSend object.the_row
object_send = search (sendable, crosses, text_send, header_send, slot_send, verb_send) depth 60

pub ahead_send : (a : NamedLft) → IsSend (ahead.the_row a)
ahead_send a = search (sendable, crosses, object_send) depth 60
