use Rattle.std.proofs.Common.{◌+◌, ◌*◌, drop}
use Rattle.spec_value.specs.Datum.{of_list}
use Rattle.spec_value.specs.Literal.{data_text, more_text}
use Rattle.moo_value.specs.Depth.{depth, data_depth}
use Rattle.slot_content.proofs.Behind.{Leads}
use Rattle.slot_content.proofs.spells.+literal.Given as goal

abbrev pub decreases-behind_value : goal.decreases-behind_value
decreases-behind_value l = 2 * depth l.value.now

abbrev pub decreases-behind_items : goal.decreases-behind_items
decreases-behind_items l = 2 * data_depth (of_list l.items.now) + 1

abbrev pub invariant-behind_items-loop-item : goal.invariant-behind_items-loop-item
invariant-behind_items-loop-item l = Leads l.rest (more_text (of_list (drop l.item-index l.others))) l.text (data_text (of_list l.items))
