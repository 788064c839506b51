use Rattle.std.proofs.Common.{◌-◌, ◌≤◌, length, take}
use Rattle.moo_server.specs.Runs.{PlaysTo}
use Rattle.moo_server.proofs.parts.play_steps.Given as goal

abbrev pub invariant-part : goal.invariant-part
invariant-part g l = record {
  inside : l.first ≤ length l.steps;
  played : PlaysTo l.fn.world.plain (take l.first l.steps) l.world.plain (g.W.Write.contents l.fn.out) (g.W.Write.contents l.out);
}

abbrev pub decreases-part : goal.decreases-part
decreases-part g l = length l.steps - l.first
