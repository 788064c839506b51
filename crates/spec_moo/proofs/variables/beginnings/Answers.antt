-- Verbs that begin, bodies of `fork`, tasks that go on.
use Rattle.spec_moo.proofs.OrderKept.{starts_in_order, starts_named, names_agree, forks_in_order, waits_in_order}
use Rattle.spec_moo.proofs.variables.beginnings.Goals as goal

pub returns-clause-starts : goal.returns-clause-starts
returns-clause-starts c = starts_in_order

pub returns-clause-forks : goal.returns-clause-forks
returns-clause-forks c = forks_in_order

pub returns-clause-resumes : goal.returns-clause-resumes
returns-clause-resumes c = waits_in_order

pub returns-clause-named : goal.returns-clause-named
returns-clause-named c = starts_named

pub returns-clause-names : goal.returns-clause-names
returns-clause-names c = names_agree
