use Rattle.std.proofs.Common.{◌≡◌, drop, map}
use Rattle.moo_tree.specs.ExpressionView.{items_of}
use Rattle.moo_code.specs.Layout.{slots_of}
use Rattle.moo_code.specs.Names.{with_names, slot_name}
use Rattle.moo_program.specs.Names.{known}
use Rattle.moo_program.proofs.gather.mention_items.Given as goal

abbrev pub invariant-loop-i : goal.invariant-loop-i
invariant-loop-i l =
    with_names (known l.names) (map slot_name (slots_of (items_of (drop l.i l.items)))) ≡ with_names (known l.initial.names) (map slot_name (slots_of (items_of l.items)))
