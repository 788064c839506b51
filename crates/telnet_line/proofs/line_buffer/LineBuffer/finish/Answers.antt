use Rattle.std.proofs.Common.{arith, refl}
use Rattle.std.proofs.lemmas.Str.{IsUtf8-from_ascii}
use Rattle.telnet_line.proofs.Texts.{text_ascii}
use Rattle.telnet_line.proofs.line_buffer.LineBuffer.finish.Goals as goal

pub unwrap-requires : goal.unwrap-requires
unwrap-requires c =
    c.from_utf8.ensures.succeeds (IsUtf8-from_ascii _ (text_ascii _ (rw c.replace-text.ensures.value c.self.invariant.1)))

pub invariant_of-self : goal.invariant_of-self
invariant_of-self c = rw (c.replace-text.ensures.after, c.new.ensures.items) (omega arith, refl)
