use Rattle.spec_program.proofs.AlikeExpressions.{parts_consume}
use Rattle.spec_program.proofs.parsing.expressions.Goals as goal

pub returns-clause-parts : goal.returns-clause-parts
returns-clause-parts c = parts_consume
