use Rattle.std.proofs.Common.{map}
use Rattle.moo_program.specs.Names.{known}
use Rattle.moo_task.specs.Variables.{variable_of}
use Rattle.moo_task.specs.Sameness.{AgreeOn}
use Rattle.moo_task.proofs.same.agree_on.Given as goal

abbrev pub invariant-loop-i : goal.invariant-loop-i
invariant-loop-i l = AgreeOn (known l.own) l.a l.b l.i (map variable_of l.variables)
