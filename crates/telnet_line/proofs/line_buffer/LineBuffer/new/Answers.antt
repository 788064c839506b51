use Rattle.std.proofs.Common.{arith, refl}
use Rattle.telnet_line.proofs.line_buffer.LineBuffer.new.Goals as goal

pub invariant_of-result : goal.invariant_of-result
invariant_of-result c = rw c.new.ensures.items (omega arith, refl)
