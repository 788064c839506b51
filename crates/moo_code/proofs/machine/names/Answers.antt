use Rattle.moo_code.proofs.ProgramNames.{code_named, handlers_named, names_are_once, slots_start}
use Rattle.moo_code.proofs.machine.names.Goals as goal

pub returns-clause-once : goal.returns-clause-once
returns-clause-once c = names_are_once

pub returns-clause-code : goal.returns-clause-code
returns-clause-code c = code_named

pub returns-clause-handlers : goal.returns-clause-handlers
returns-clause-handlers c = handlers_named

pub returns-clause-start : goal.returns-clause-start
returns-clause-start c = slots_start
