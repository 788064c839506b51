use Rattle.std.proofs.Common.{arith}
use Rattle.slot_content.proofs.Plain.{plain_so_far, all_plain}
use Rattle.slot_content.proofs.writing.is_plain.Goals as goal

pub loop-byte-preserved : goal.loop-byte-preserved
loop-byte-preserved c = plain_so_far _ _ c.loop-byte-test.true c.if-byte-eq34.false c.if-byte-eq92.false c.loop-byte.invariant

pub returns : goal.returns
returns c t = rw (← c.as_bytes-byte-items.ensures.value) (all_plain _ _ (omega arith) c.loop-byte.invariant)
