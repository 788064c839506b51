use Rattle.std.proofs.Common.{◌≡◌, ◌≤◌, length, map, [], vec_items, vec_len, vec_capacity}
use Rattle.spec_world.specs.World.{World}
use Rattle.speculate.specs.Lanes.{IsWoven, strand_of}
use Rattle.speculate.proofs.weaving.weave.Given as goal

abbrev pub invariant-at : goal.invariant-at
invariant-at l = record {
  len : vec_len l.outcomes ≡ l.at;
  room : length l.steps ≤ vec_capacity l.outcomes;
  woven : (base end : World) → IsWoven base l.steps 0 [] (map strand_of l.fn.lanes.items) end → IsWoven base l.steps l.at (vec_items l.outcomes) (map strand_of l.lanes.items) end;
}
