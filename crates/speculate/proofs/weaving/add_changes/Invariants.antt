use Rattle.std.proofs.Common.{◌≡◌, map, take}
use Rattle.spec_world.specs.World.{World}
use Rattle.spec_world.specs.Questions.{apply_all}
use Rattle.view.specs.Meanings.{change_of}
use Rattle.speculate.proofs.weaving.add_changes.Given as goal

abbrev pub invariant-loop-change : goal.invariant-loop-change
invariant-loop-change l = (w : World) → apply_all l.all w ≡ apply_all (map change_of (take l.change-index l.changes)) (apply_all l.fn.all w)
