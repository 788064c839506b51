use Rattle.std.proofs.Common.{◌≡◌, drop}
use Rattle.spec_world.specs.WellFormed.{lists}
use Rattle.rules.proofs.relatives.lists.is_among.Given as goal

abbrev pub invariant-loop-other : goal.invariant-loop-other
invariant-loop-other l = lists (drop l.other-index l.objects) l.object ≡ lists l.objects l.object
