use Rattle.std.proofs.Common.{◌≡◌, take}
use Rattle.moo_program.specs.Tables.{bodies_of}
use Rattle.moo_program.proofs.compile.copies.Given as goal

abbrev pub invariant-loop-i : goal.invariant-loop-i
invariant-loop-i o l = l.copies.items ≡ bodies_of (take l.i l.bodies)
