use Rattle.spec_ready.proofs.Readiness.{opens_ready, ticks_aside, links_open, links_close, tasks_leave, values_leave_ready, players_log_in}
use Rattle.spec_ready.proofs.laws.readiness.Goals as goal

pub returns-clause-opens : goal.returns-clause-opens
returns-clause-opens c = opens_ready

pub returns-clause-ticks : goal.returns-clause-ticks
returns-clause-ticks c = ticks_aside

pub returns-clause-open : goal.returns-clause-open
returns-clause-open c = links_open

pub returns-clause-close : goal.returns-clause-close
returns-clause-close c = links_close

pub returns-clause-leave : goal.returns-clause-leave
returns-clause-leave c = tasks_leave

pub returns-clause-values : goal.returns-clause-values
returns-clause-values c = values_leave_ready

pub returns-clause-log_in : goal.returns-clause-log_in
returns-clause-log_in c = players_log_in
