use Rattle.std.proofs.Common.{◌≡◌, drop}
use Rattle.spec_value.specs.Datum.{fold_case}
use Rattle.spec_value.specs.Table.{named}
use Rattle.view.proofs.slots.position_of_few.Given as goal

abbrev pub invariant-loop-index : goal.invariant-loop-index
invariant-loop-index l = named (drop l.index l.entries) (fold_case l.name) ≡ named l.entries (fold_case l.name)
