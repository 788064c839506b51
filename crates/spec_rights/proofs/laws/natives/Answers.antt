use Rattle.spec_rights.proofs.Rows.{natives_permit, stages_permit, natives_leave_tasks, stages_leave_tasks}
use Rattle.spec_rights.proofs.laws.natives.Goals as goal

pub returns-clause-calls : goal.returns-clause-calls
returns-clause-calls c = natives_permit

pub returns-clause-stages : goal.returns-clause-stages
returns-clause-stages c = stages_permit

pub returns-clause-tasks : goal.returns-clause-tasks
returns-clause-tasks c = natives_leave_tasks

pub returns-clause-later_tasks : goal.returns-clause-later_tasks
returns-clause-later_tasks c = stages_leave_tasks
