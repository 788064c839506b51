use Rattle.std.proofs.Common.{◌≡◌, drop}
use Rattle.std.specs.List.{list_all}
use Rattle.spec_program.specs.Trees.{continues_name}
use Rattle.tree_grammar.proofs.name.all_continue_name.Given as goal

abbrev pub invariant-loop-byte : goal.invariant-loop-byte
invariant-loop-byte l = list_all continues_name l.bytes ≡ list_all continues_name (drop l.byte-index l.bytes)
