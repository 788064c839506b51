-- Steps and outcomes may go to other threads, and steps be lent to them.
use denote.Param.Send.{IsSend, IsSync, sendable}
use Rattle.std.proofs.Crossing.{crosses}
use Rattle.moo_value.proofs.Crossing.{value_send, text_send, text_sync}
use Rattle.task_step.specs.contracts.outcome.Outcome as outcome
use Rattle.task_step.specs.contracts.outcome.OutputLine as line
use Rattle.task_step.specs.contracts.outcome.Queued as queued
use Rattle.task_step.specs.contracts.step.Step as step

pub step_send : IsSend step.the_row
step_send = search (sendable, crosses, text_send) depth 60

pub step_sync : IsSync step.the_row
step_sync = search (sendable, crosses, text_sync) depth 60

line_send : IsSend line.the_row
line_send = search (sendable, crosses) depth 60

queued_send : IsSend queued.the_row
queued_send = search (sendable, crosses) depth 60

pub outcome_send : IsSend outcome.the_row
outcome_send = search (sendable, crosses, value_send, line_send, queued_send) depth 60
