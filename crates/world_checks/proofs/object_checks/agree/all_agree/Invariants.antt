use Rattle.std.proofs.Common.{◌≡◌, Some, All, take}
use Rattle.spec_world.specs.World.{Object, object_at}
use Rattle.world_checks.specs.Ways.{ObjectAgrees}
use Rattle.world_checks.proofs.object_checks.agree.all_agree.Given as goal

abbrev pub invariant-loop-number : goal.invariant-loop-number
invariant-loop-number l =
    All (λ o. (x : Object) → object_at l.draft o ≡ Some x → ObjectAgrees l.family.ranks l.whereabouts.ranks l.draft o x) (take l.number-index l.numbers)
