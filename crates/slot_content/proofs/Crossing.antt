-- What slots hold may go to other threads, and be lent to them.
use denote.Param.Send.{IsSend, IsSync, sendable, view_send, view_sync}
use denote.Param.SendFields.{declared_send, declared_sync}
use Rattle.std.proofs.Crossing.{crosses}
use Rattle.boxcar.proofs.Sent.{slot_send, slot_sync}
use Rattle.moo_value.proofs.Crossing.{value_send, value_sync}
use Rattle.slot_content.specs.contracts.content.Content as content
use Rattle.slot_content.specs.contracts.content.Content.TheInside as inside
use Rattle.slot_content.specs.contracts.content.Node as node
use Rattle.slot_content.specs.contracts.kept.Kept as kept
use Rattle.slot_content.specs.contracts.kept.KeptValues as kept_values

kept_send : IsSend kept.the_row
kept_send = search (sendable, crosses, slot_send, value_send) depth 60

kept_sync : IsSync kept.the_row
kept_sync = search (sendable, crosses, slot_sync, value_send, value_sync) depth 60

pub kept_values_send : IsSend kept_values.the_row
kept_values_send = search (sendable, crosses, kept_send, kept_sync) depth 60

pub kept_values_sync : IsSync kept_values.the_row
kept_values_sync = search (sendable, crosses, kept_send, kept_sync) depth 60

node_send : IsSend node.the_row
node_send = search (sendable, crosses, value_send, kept_values_send) depth 60

node_sync : IsSync node.the_row
node_sync = search (sendable, crosses, value_sync, kept_values_sync) depth 60

pub content_send : IsSend content.the_row
content_send = view_send _ _ _ _ _ (declared_send inside.the_type (node_send, tt))

pub content_sync : IsSync content.the_row
content_sync = view_sync _ _ _ _ _ (declared_sync inside.the_type (node_sync, tt))
