use Rattle.std.proofs.Common.{length}
use Rattle.moo_script.proofs.Scripts.{Stands}
use Rattle.moo_script.proofs.script.read_body.Given as goal

abbrev pub invariant-loop-rest : goal.invariant-loop-rest
invariant-loop-rest l = Stands l.body l.key l.first_number l.rest (record { steps = l.steps.items; moment = l.moment; number = l.number }) l.line

abbrev pub decreases-loop-rest : goal.decreases-loop-rest
decreases-loop-rest l = length l.rest
