use Rattle.std.proofs.Common.{◌≡◌, ℕ, ◌+◌, ◌*◌, ◌<◌, length, slice_index}
use Rattle.moo_script.specs.Keys.{hexadecimal_value}
use Rattle.moo_script.proofs.number.read_key.Given as goal

abbrev pub invariant-loop-i : goal.invariant-loop-i
invariant-loop-i l = (length l.key ≡ 32) × ((k : ℕ) → k < l.i → slice_index l.key k ≡ hexadecimal_value (slice_index l.digits (2 * k)) * 16 + hexadecimal_value (slice_index l.digits (2 * k + 1)))
