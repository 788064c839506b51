use Rattle.std.proofs.Common.{◌≡◌, ◌++◌, map, drop}
use Rattle.moo_tree.specs.StatementView.{arms_of}
use Rattle.moo_code.specs.Layout.{next_held}
use Rattle.moo_program.specs.Drafting.{known_of}
use Rattle.moo_program.proofs.moo_bytecode.draft_handlers.known_codes.Given as goal

abbrev pub invariant-loop-i : goal.invariant-loop-i
invariant-loop-i l = next_held (arms_of l.later) ≡ map known_of l.known.items ++ next_held (arms_of (drop l.i l.later))
