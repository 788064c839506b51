use Rattle.std.proofs.Common.{◌≡◌, List, map, take}
use Rattle.spec_world.specs.World.{World}
use Rattle.spec_world.specs.Step.{Step}
use Rattle.spec_world.specs.Questions.{apply_all}
use Rattle.speculate.specs.Lanes.{Each, HasRun, strand_of, after_strands}
use Rattle.speculate.proofs.weaving.all_changes.Given as goal

abbrev pub invariant-loop-lane : goal.invariant-loop-lane
invariant-loop-lane l =
    (base : World) (steps : List Step) → Each (HasRun base steps) l.lanes → (w : World) → apply_all l.all w ≡ after_strands (map strand_of (take l.lane-index l.lanes)) w
