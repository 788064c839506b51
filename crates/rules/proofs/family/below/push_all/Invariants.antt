use Rattle.std.proofs.Common.{◌≡◌, ◌++◌, take}
use Rattle.rules.proofs.family.below.push_all.Given as goal

abbrev pub invariant-loop-object : goal.invariant-loop-object
invariant-loop-object l = l.family.items ≡ l.fn.family.items ++ take l.object-index l.more
