use Rattle.std.proofs.Common.{◌≡◌, Some, IsTrue, All, take}
use Rattle.spec_value.specs.Table.{at}
use Rattle.spec_world.specs.World.{Link}
use Rattle.spec_world.specs.WellFormed.{link_fits}
use Rattle.world_checks.proofs.object_checks.links.all_fit.Given as goal

abbrev pub invariant-loop-number : goal.invariant-loop-number
invariant-loop-number l = All (λ c. (k : Link) → at l.draft.links c ≡ Some k → IsTrue (link_fits l.draft c k)) (take l.number-index l.numbers)
