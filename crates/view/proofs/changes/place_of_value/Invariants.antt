use Rattle.std.proofs.Common.{◌-◌, drop, map}
use Rattle.spec_value.specs.Datum.{Datum}
use Rattle.spec_world.specs.Questions.{new_value}
use Rattle.view.specs.Facets.{StandsBefore}
use Rattle.view.specs.Meanings.{change_of}
use Rattle.view.proofs.changes.place_of_value.Given as goal

abbrev pub invariant-loop-back : goal.invariant-loop-back
invariant-loop-back l = (v : Datum) → StandsBefore (new_value l.object l.name v) (map change_of (drop (l.count - l.back) l.changes))
