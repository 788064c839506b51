use Rattle.std.proofs.Common.{◌≡◌, ℕ, ◌+◌, ◌*◌, List, ◌++◌, drop}
use Rattle.std.specs.Fmt.{HasWritten, IsPlainFormatter}
use Rattle.spec_value.specs.Datum.{of_list}
use Rattle.moo_value.specs.Depth.{depth, data_depth}
use Rattle.spec_value.specs.Literal.{data_text, more_text}
use Rattle.moo_value.proofs.write.+literal.Given as goal

abbrev pub decreases-write_literal : goal.decreases-write_literal
decreases-write_literal g l = 2 * depth l.value.now

abbrev pub decreases-write_items : goal.decreases-write_items
decreases-write_items g l = 2 * data_depth (of_list l.items.now) + 1

abbrev pub invariant-write_items-loop-item : goal.invariant-write_items-loop-item
invariant-write_items-loop-item g l =
    (done : List ℕ) × (done ++ more_text (of_list (drop l.item-index l.rest)) ≡ data_text (of_list l.items)) × (IsPlainFormatter l.fn.f → HasWritten g.W.Write.write_str_gives l.fn.f done l.f)
