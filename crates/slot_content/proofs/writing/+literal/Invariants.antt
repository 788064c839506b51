use Rattle.std.proofs.Common.{◌≡◌, ◌++◌, ◌+◌, ◌*◌, drop, string_bytes}
use Rattle.spec_value.specs.Datum.{of_list}
use Rattle.spec_value.specs.Literal.{data_text, more_text}
use Rattle.moo_value.specs.Depth.{depth, data_depth}
use Rattle.slot_content.proofs.writing.+literal.Given as goal

abbrev pub decreases-put_value : goal.decreases-put_value
decreases-put_value l = 2 * depth l.value.now

abbrev pub decreases-put_items : goal.decreases-put_items
decreases-put_items l = 2 * data_depth (of_list l.items.now) + 1

abbrev pub invariant-put_items-loop-item : goal.invariant-put_items-loop-item
invariant-put_items-loop-item l = string_bytes l.out ++ more_text (of_list (drop l.item-index l.others)) ≡ string_bytes l.fn.out ++ data_text (of_list l.items)
