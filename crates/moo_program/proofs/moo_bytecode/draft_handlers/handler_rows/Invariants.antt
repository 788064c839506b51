use Rattle.std.proofs.Common.{◌≡◌, ◌++◌, map, drop}
use Rattle.moo_tree.specs.StatementView.{arms_of}
use Rattle.moo_code.specs.Layout.{handler_rows}
use Rattle.moo_program.specs.Drafting.{row_of}
use Rattle.moo_program.proofs.moo_bytecode.draft_handlers.handler_rows.Given as goal

abbrev pub invariant-loop-i : goal.invariant-loop-i
invariant-loop-i l = handler_rows 1 (arms_of l.arms) ≡ map row_of l.rows.items ++ handler_rows l.part (arms_of (drop l.i l.arms))
