use Rattle.std.proofs.Common.{◌≡◌, take, map}
use Rattle.moo_arith.specs.Targets.{kind_of}
use Rattle.moo_program.specs.Counts.{kind_meant}
use Rattle.local_code.proofs.moo_stores.shares.kinds.Given as goal

abbrev pub invariant-loop-item : goal.invariant-loop-item
invariant-loop-item l = map kind_of l.kinds.items ≡ map kind_meant (take l.item-index l.items)
