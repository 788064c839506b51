use Rattle.std.proofs.Common.{◌≡◌, drop, map}
use Rattle.moo_code.specs.Instruction.{with_handlers}
use Rattle.moo_code.specs.Names.{with_names, handler_names}
use Rattle.moo_program.specs.Drafting.{row_of}
use Rattle.moo_program.specs.Names.{known}
use Rattle.moo_program.proofs.gather.mention_rows.Given as goal

abbrev pub invariant-loop-i : goal.invariant-loop-i
invariant-loop-i l =
    with_names (known l.names) (handler_names (with_handlers (map row_of (drop l.i l.rows))))
    ≡ with_names (known l.initial.names) (handler_names (with_handlers (map row_of l.rows)))
