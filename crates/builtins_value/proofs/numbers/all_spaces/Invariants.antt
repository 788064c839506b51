use Rattle.std.proofs.Common.{◌≡◌, drop}
use Rattle.spec_value.specs.PureBuiltins.{all_spaces}
use Rattle.builtins_value.proofs.numbers.all_spaces.Given as goal

abbrev pub invariant-loop-byte : goal.invariant-loop-byte
invariant-loop-byte l = all_spaces (drop l.byte-index l.bytes) ≡ all_spaces l.bytes
