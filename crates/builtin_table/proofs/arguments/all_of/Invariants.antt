use Rattle.std.proofs.Common.{◌≡◌, [], drop, map}
use Rattle.spec_moo.specs.Natives.Rows.{all_fit}
use Rattle.builtin_table.specs.Sorts.{sort_of}
use Rattle.builtin_table.proofs.arguments.all_of.Given as goal

abbrev pub invariant-loop-index : goal.invariant-loop-index
invariant-loop-index l = all_fit [] (map sort_of (drop l.index l.sorts)) (drop l.index l.arguments) ≡ all_fit [] (map sort_of l.sorts) l.arguments
