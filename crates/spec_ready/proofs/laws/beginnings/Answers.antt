use Rattle.spec_ready.proofs.GoingOn.{beginnings_stand}
use Rattle.spec_ready.proofs.Readiness.{going_on_stands}
use Rattle.spec_ready.proofs.laws.beginnings.Goals as goal

pub returns-clause-begin : goal.returns-clause-begin
returns-clause-begin c = beginnings_stand

pub returns-clause-go_on : goal.returns-clause-go_on
returns-clause-go_on c = going_on_stands
