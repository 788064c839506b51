use Rattle.std.proofs.Common.{◌≡◌, ◌++◌, drop, map}
use Rattle.moo_program.specs.Drafting.{item_of}
use Rattle.moo_program.specs.Gathering.{draft_bodies}
use Rattle.moo_program.specs.Tables.{bodies_of}
use Rattle.moo_program.proofs.gather.bodies.Given as goal

abbrev pub invariant-loop-i : goal.invariant-loop-i
invariant-loop-i l = bodies_of l.bodies.items ++ draft_bodies (map item_of (drop l.i l.items)) ≡ draft_bodies (map item_of l.items)
