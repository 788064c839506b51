use Rattle.std.proofs.Common.{◌≡◌, take}
use Rattle.slot_content.proofs.kept.KeptValues.all.Given as goal

abbrev pub invariant-loop-place : goal.invariant-loop-place
invariant-loop-place l = l.values.items ≡ take l.place l.self
