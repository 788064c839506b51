use Rattle.moo_value.proofs.Characters.{text_at}
use Rattle.slot_content.proofs.writing.put_escaped.Goals as goal

pub put_byte-requires : goal.put_byte-requires
put_byte-requires c =
    let inside = rw c.as_bytes-byte-items.ensures.value at c.loop-byte-test.true in
    rw c.as_bytes-byte-items.ensures.value (text_at _ _ c.requires inside)
