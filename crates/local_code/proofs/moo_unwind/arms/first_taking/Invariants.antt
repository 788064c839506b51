use Rattle.std.proofs.Common.{◌≡◌, drop}
use Rattle.local_code.specs.Taking.{first_taking}
use Rattle.local_code.proofs.moo_unwind.arms.first_taking.Given as goal

abbrev pub invariant-loop-i : goal.invariant-loop-i
invariant-loop-i l = first_taking l.arms l.held l.code ≡ first_taking (drop l.i l.arms) (drop l.i l.held) l.code
