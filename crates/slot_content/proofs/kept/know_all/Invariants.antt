use Rattle.std.proofs.Common.{IsTrue, take}
use Rattle.std.specs.List.{list_all}
use Rattle.spec_value.specs.Datum.{is_value}
use Rattle.slot_content.proofs.kept.know_all.Given as goal

abbrev pub invariant-loop-value : goal.invariant-loop-value
invariant-loop-value l = IsTrue (list_all is_value (take l.value-index l.values))
