use Rattle.std.proofs.Common.{sym, ◌∙◌, arith}
use Rattle.telnet_line.proofs.Texts.{text_more}
use Rattle.telnet_line.proofs.line_buffer.LineBuffer.push.Goals as goal

pub invariant_of-self-then-len-lt-MAX_LINE : goal.invariant_of-self-then-len-lt-MAX_LINE
invariant_of-self-then-len-lt-MAX_LINE c =
    rw c.in_ok-push.ensures.items (text_more _ _ c.self.invariant (sym c.is_character.ensures ∙ c.if-is_character.true) (omega (arith, c.len.ensures)))
