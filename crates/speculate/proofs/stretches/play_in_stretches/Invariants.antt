use Rattle.std.proofs.Common.{◌≡◌, ◌-◌, ◌+◌, ◌≤◌, length, take, vec_len, vec_capacity, vec_items}
use Rattle.spec_moo.specs.Steps.{play}
use Rattle.speculate.specs.BoardState.{runs}
use Rattle.speculate.proofs.stretches.play_in_stretches.Given as goal

abbrev pub invariant-stretch : goal.invariant-stretch
invariant-stretch g l = record {
  inside : l.at ≤ length l.steps;
  played : play l.fn.world.plain (take l.at l.steps) ≡ (l.report.world.plain, vec_items l.report.outcomes);
  outcomes : vec_len l.report.outcomes ≡ l.at;
  marks : vec_len l.report.marks ≡ l.at;
  outcomes_room : length l.steps ≤ vec_capacity l.report.outcomes;
  marks_room : length l.steps ≤ vec_capacity l.report.marks;
  views : l.fn.world.opened + runs (vec_items l.report.marks) ≤ l.report.world.opened;
}

abbrev pub decreases-stretch : goal.decreases-stretch
decreases-stretch g l = length l.steps - l.at
