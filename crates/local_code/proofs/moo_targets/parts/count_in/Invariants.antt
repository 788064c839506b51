use Rattle.std.proofs.Common.{◌≡◌, ◌+◌, ◌-◌, ◌^◌, ◌<◌, min, drop}
use Rattle.local_code.specs.Targets.{count_in}
use Rattle.local_code.proofs.moo_targets.parts.count_in.Given as goal

abbrev pub invariant-loop-bracket : goal.invariant-loop-bracket
invariant-loop-bracket l = (l.count < 2 ^ 64) × (min (l.count + count_in (drop l.bracket-index l.brackets)) (2 ^ 64 - 1) ≡ min (count_in l.brackets) (2 ^ 64 - 1))
