-- Tasks that wait may go to other threads, and be lent to them.
use denote.Param.Send.{IsSend, IsSync, sendable}
use denote.Param.SendFields.{as_row_send, as_row_sync, declared_send, declared_sync, variants_send, variants_sync}
use Rattle.std.proofs.Crossing.{crosses}
use Rattle.moo_value.proofs.Crossing.{value_send, value_sync, text_send, text_sync}
use Rattle.moo_program.proofs.Crossing.{program_send, program_sync}
use Rattle.moo_program.specs.contracts.program.Program as program
use Rattle.moo_task.specs.contracts.moo_machine.call.Call as call
use Rattle.moo_task.specs.contracts.moo_machine.call.Start as start
use Rattle.moo_task.specs.contracts.moo_machine.operands.Operands as operands
use Rattle.moo_task.specs.contracts.moo_machine.verb.State as state
use Rattle.moo_task.specs.contracts.frame.Frame as frame
use Rattle.moo_task.specs.contracts.frame.Outer as outer
use Rattle.moo_task.specs.contracts.native.Native as native
use Rattle.moo_task.specs.contracts.outers.Outers as outers
use Rattle.moo_task.specs.contracts.room.Room as room
use Rattle.moo_task.specs.contracts.start.SharedStart as shared_start
use Rattle.moo_task.specs.contracts.variables.SharedVariables as shared_variables
use Rattle.moo_task.specs.contracts.variables.Variable as variable
use Rattle.moo_task.specs.contracts.task.Task as task

call_send : IsSend call.the_row
call_send = search (sendable, crosses, text_send) depth 60

call_sync : IsSync call.the_row
call_sync = search (sendable, crosses, text_sync) depth 60

start_send : IsSend start.the_row
start_send = search (sendable, crosses, text_send) depth 60

start_sync : IsSync start.the_row
start_sync = search (sendable, crosses, text_sync) depth 60

shared_start_send : IsSend shared_start.the_row
shared_start_send = search (sendable, crosses, text_send, start_send, start_sync) depth 60

shared_start_sync : IsSync shared_start.the_row
shared_start_sync = search (sendable, crosses, text_sync, start_send, start_sync) depth 60

operands_send : IsSend operands.the_row
operands_send = search (sendable, crosses, value_send) depth 60

operands_sync : IsSync operands.the_row
operands_sync = search (sendable, crosses, value_sync) depth 60

state_send : IsSend state.the_row
state_send = search (sendable, crosses, operands_send, value_send) depth 60

state_sync : IsSync state.the_row
state_sync = search (sendable, crosses, operands_sync, value_sync) depth 60

variable_send : IsSend variable.the_row
variable_send = search (sendable, crosses, text_send, value_send) depth 60

variable_sync : IsSync variable.the_row
variable_sync = search (sendable, crosses, text_sync, value_sync) depth 60

shared_variables_send : IsSend shared_variables.the_row
shared_variables_send = search (sendable, crosses, variable_send, variable_sync) depth 60

shared_variables_sync : IsSync shared_variables.the_row
shared_variables_sync = search (sendable, crosses, variable_send, variable_sync) depth 60

frame_send : IsSend frame.the_row
frame_send =
    declared_send frame.the_type
    (as_row_send call.the_field call_send, (as_row_send shared_start.the_field shared_start_send, (as_row_send program.the_field program_send, (as_row_send shared_variables.the_field shared_variables_send, (state_send, tt)))))

frame_sync : IsSync frame.the_row
frame_sync =
    declared_sync frame.the_type
    (as_row_sync call.the_field call_sync, (as_row_sync shared_start.the_field shared_start_sync, (as_row_sync program.the_field program_sync, (as_row_sync shared_variables.the_field shared_variables_sync, (state_sync, tt)))))

native_send : IsSend native.the_row
native_send = search (sendable, crosses, as_row_send, value_send) depth 60

native_sync : IsSync native.the_row
native_sync = search (sendable, crosses, as_row_sync, value_sync) depth 60

outer_send : IsSend outer.the_row
outer_send = variants_send outer.enum ((frame_send, tt), ((native_send, tt), tt))

outer_sync : IsSync outer.the_row
outer_sync = variants_sync outer.enum ((frame_sync, tt), ((native_sync, tt), tt))

room_send : IsSend room.the_row
room_send = search (sendable, crosses, operands_send, value_send, shared_start_send) depth 60

room_sync : IsSync room.the_row
room_sync = search (sendable, crosses, operands_sync, value_sync, shared_start_sync) depth 60

outers_send : IsSend outers.the_row
outers_send = search (sendable, crosses, outer_send, room_send) depth 60

outers_sync : IsSync outers.the_row
outers_sync = search (sendable, crosses, outer_sync, room_sync) depth 60

pub task_send : IsSend task.the_row
task_send = search (sendable, crosses, as_row_send, value_send, outers_send, outers_sync) depth 90

pub task_sync : IsSync task.the_row
task_sync = search (sendable, crosses, as_row_sync, value_sync, outers_send, outers_sync) depth 90
