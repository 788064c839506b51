use Rattle.std.proofs.Common.{◌≡◌, map, take}
use Rattle.spec_world.specs.World.{World}
use Rattle.spec_world.specs.Questions.{new_next, apply, apply_all}
use Rattle.view.specs.Meanings.{change_of}
use Rattle.speculate.specs.Lanes.{AllOwn}
use Rattle.speculate.specs.Tables.{Grows}
use Rattle.speculate.proofs.lane.note_changes.Given as goal

abbrev pub invariant-loop-change : goal.invariant-loop-change
invariant-loop-change l = record {
  grows : Grows l.fn.changed l.changed;
  own : AllOwn l.changed (map change_of (take l.change-index l.changes));
  summed : (w : World) → apply (new_next l.next) (apply_all l.net w) ≡ apply_all (map change_of (take l.change-index l.changes)) (apply (new_next l.fn.next) (apply_all l.fn.net w));
}
