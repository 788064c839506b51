use Rattle.std.proofs.Common.{◌≡◌, drop}
use Rattle.spec_moo.specs.Natives.Properties.{are_bits}
use Rattle.builtins_view.proofs.builtins_change.bits.are_bits.Given as goal

abbrev pub invariant-loop-bit : goal.invariant-loop-bit
invariant-loop-bit l = are_bits l.letters (drop l.bit-index l.bits) ≡ are_bits l.letters l.bits
