use Rattle.std.proofs.Common.{arith, refl}
use Rattle.telnet_line.proofs.line_buffer.LineBuffer.erase.Goals as goal

pub invariant_of-self : goal.invariant_of-self
invariant_of-self c = rw c.clear.ensures.items (omega arith, refl)
