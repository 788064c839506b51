use Rattle.moo_syntax.proofs.Trimmed.{part_next, steps_next, operators_next}
use Rattle.moo_syntax.proofs.trim.trimmed_next.Goals as goal

pub returns-in_ok-part-in-Found : goal.returns-in_ok-part-in-Found
returns-in_ok-part-in-Found c = part_next c.args.next c.in-Found.part c.in_ok-part-in-Found.part c.in-Found.is c.in_ok-part-in-Found.ensures

pub returns-in_ok-operand-in-Steps : goal.returns-in_ok-operand-in-Steps
returns-in_ok-operand-in-Steps c =
    steps_next c.args.next c.in-Steps.before c.in_ok-operand-in-Steps.operand c.in-Steps.is c.in_ok-operand-in-Steps.ensures

pub returns-in_ok-left-in-Operators : goal.returns-in_ok-left-in-Operators
returns-in_ok-left-in-Operators c =
    operators_next c.args.next c.in-Operators.before c.in_ok-left-in-Operators.left c.in-Operators.is c.in_ok-left-in-Operators.ensures
