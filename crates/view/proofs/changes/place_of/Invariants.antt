use Rattle.std.proofs.Common.{◌-◌, drop, map}
use Rattle.spec_world.specs.Questions.{new_part}
use Rattle.view.specs.Facets.{StandsBefore}
use Rattle.view.specs.Meanings.{change_of, part_of}
use Rattle.view.proofs.changes.place_of.Given as goal

abbrev pub invariant-loop-back : goal.invariant-loop-back
invariant-loop-back l = StandsBefore (new_part l.object (part_of l.part)) (map change_of (drop (l.count - l.back) l.changes))
