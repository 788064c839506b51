use Rattle.std.proofs.Common.{Some, arith}
use Rattle.slot_content.proofs.Behind.{no_more_escaped}
use Rattle.slot_content.proofs.spells.behind_escaped.Goals as goal

pub returns : goal.returns
returns c = c.loop-byte.invariant (Some c.loop-byte.rest) (no_more_escaped c.args.characters.now c.loop-byte.byte-index c.loop-byte.rest.now (omega (arith, c.loop-byte-test.false)))
