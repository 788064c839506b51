use Rattle.std.proofs.Common.{◌≡◌, ◌++◌, take}
use Rattle.moo_value.proofs.items.push_all.Given as goal

abbrev pub invariant-loop-item : goal.invariant-loop-item
invariant-loop-item l = l.items.items ≡ l.fn.items.items ++ take l.item-index l.more
