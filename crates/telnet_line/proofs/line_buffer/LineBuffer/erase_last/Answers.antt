use Rattle.telnet_line.proofs.Texts.{text_take}
use Rattle.telnet_line.proofs.line_buffer.LineBuffer.erase_last.Goals as goal

pub invariant_of-self : goal.invariant_of-self
invariant_of-self c = rw c.pop.ensures.rest (text_take _ _ c.self.invariant)
