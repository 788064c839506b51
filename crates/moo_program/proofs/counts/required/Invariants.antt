use Rattle.std.proofs.Common.{◌≡◌, ◌+◌, drop, map}
use Rattle.spec_value.specs.Scatter.{required_count}
use Rattle.moo_program.specs.Counts.{kind_meant}
use Rattle.moo_program.proofs.counts.required.Given as goal

abbrev pub invariant-loop-item : goal.invariant-loop-item
invariant-loop-item l = l.count + required_count (map kind_meant (drop l.item-index l.items)) ≡ required_count (map kind_meant l.items)
