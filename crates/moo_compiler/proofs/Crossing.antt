-- Programs may go to other threads, and be lent to them.
use denote.Param.Send.{IsSend, IsSync, sendable}
use Rattle.std.proofs.Crossing.{crosses}
use Rattle.boxcar.proofs.Sent.{slot_send, slot_sync}
use Rattle.moo_program.proofs.Crossing.{program_send as whole_send, program_sync as whole_sync}
use Rattle.moo_compiler.specs.contracts.program.Kept as kept
use Rattle.moo_compiler.specs.contracts.program.Program as program

kept_send : IsSend kept.the_row
kept_send = search (sendable, crosses, slot_send, whole_send) depth 60

kept_sync : IsSync kept.the_row
kept_sync = search (sendable, crosses, slot_sync, whole_send, whole_sync) depth 60

pub program_send : IsSend program.the_row
program_send = search (sendable, crosses, kept_send, kept_sync) depth 60

pub program_sync : IsSync program.the_row
program_sync = search (sendable, crosses, kept_send, kept_sync) depth 60
