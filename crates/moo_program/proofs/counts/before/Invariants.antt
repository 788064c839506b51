use Rattle.std.proofs.Common.{◌≡◌, ◌++◌, drop, map}
use Rattle.moo_program.specs.Counts.{kind_meant, optional_before}
use Rattle.moo_program.proofs.counts.before.Given as goal

abbrev pub invariant-loop-item : goal.invariant-loop-item
invariant-loop-item l = l.before.items ++ optional_before l.count (map kind_meant (drop l.item-index l.items)) ≡ optional_before 0 (map kind_meant l.items)
