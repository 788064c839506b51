use Rattle.std.proofs.Common.{◌≡◌, map, take}
use Rattle.moo_program.specs.Drafting.{item_of}
use Rattle.moo_program.specs.Outline.{step_of}
use Rattle.moo_program.proofs.outline.outline.Given as goal

abbrev pub invariant-loop-i : goal.invariant-loop-i
invariant-loop-i l = l.steps.items ≡ map step_of (map item_of (take l.i l.items))
