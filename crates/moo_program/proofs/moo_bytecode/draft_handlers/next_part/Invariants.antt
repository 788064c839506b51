use Rattle.std.proofs.Common.{◌≡◌, drop}
use Rattle.moo_tree.specs.StatementView.{arms_of}
use Rattle.moo_code.specs.Layout.{next_part}
use Rattle.moo_program.proofs.moo_bytecode.draft_handlers.next_part.Given as goal

abbrev pub invariant-loop-i : goal.invariant-loop-i
invariant-loop-i l = next_part l.before (arms_of l.later) ≡ next_part l.part (arms_of (drop l.i l.later))
