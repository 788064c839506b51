use Rattle.moo_code.proofs.Runs.{runs_end, runs_stop, verbs_begin, tasks_go_on}
use Rattle.moo_code.proofs.machine.runs.Goals as goal

pub returns-clause-begins : goal.returns-clause-begins
returns-clause-begins c = verbs_begin

pub returns-clause-goes_on : goal.returns-clause-goes_on
returns-clause-goes_on c = tasks_go_on

pub returns-clause-stops : goal.returns-clause-stops
returns-clause-stops c = runs_stop

pub returns-clause-ends : goal.returns-clause-ends
returns-clause-ends c = runs_end
