use Rattle.std.proofs.Common.{◌≡◌, drop}
use Rattle.spec_value.specs.Datum.{of_list}
use Rattle.spec_moo.specs.Natives.Rows.{are_texts}
use Rattle.builtin_table.proofs.sort.are_texts.Given as goal

abbrev pub invariant-loop-value : goal.invariant-loop-value
invariant-loop-value l = are_texts (of_list (drop l.value-index l.values)) ≡ are_texts (of_list l.values)
