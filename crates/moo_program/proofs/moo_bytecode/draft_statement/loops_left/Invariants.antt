use Rattle.std.proofs.Common.{◌≡◌, ◌+◌, map, drop}
use Rattle.moo_code.specs.Layout.{loops_before}
use Rattle.moo_program.specs.Drafting.{name_of}
use Rattle.moo_program.proofs.moo_bytecode.draft_statement.loops_left.Given as goal

abbrev pub invariant-loop-i : goal.invariant-loop-i
invariant-loop-i l = loops_before l.name (map name_of l.loops) ≡ l.i + loops_before l.name (map name_of (drop l.i l.loops))
