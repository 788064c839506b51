use Rattle.std.proofs.Common.{◌≡◌, map, drop}
use Rattle.spec_world.specs.Questions.{apply_all}
use Rattle.view.specs.Meanings.{change_of}
use Rattle.world.proofs.draft.Draft.changed.Given as goal

abbrev pub invariant-loop-change : goal.invariant-loop-change
invariant-loop-change l = apply_all (map change_of (drop l.change-index l.change-items)) l.draft ≡ apply_all (map change_of l.change-items) l.self
