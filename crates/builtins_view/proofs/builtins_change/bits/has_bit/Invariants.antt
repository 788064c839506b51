use Rattle.std.proofs.Common.{◌≡◌, drop, [], ◌∷◌}
use Rattle.spec_moo.specs.Natives.Properties.{has_bit}
use Rattle.builtins_view.proofs.builtins_change.bits.has_bit.Given as goal

abbrev pub invariant-loop-bit : goal.invariant-loop-bit
invariant-loop-bit l = has_bit (l.letter ∷ []) (drop l.bit-index l.bits) ≡ has_bit (l.letter ∷ []) l.bits
