use Rattle.std.proofs.Common.{drop}
use Rattle.spec_value.specs.Literal.{escaped}
use Rattle.slot_content.proofs.Behind.{Leads}
use Rattle.slot_content.proofs.spells.behind_escaped.Given as goal

abbrev pub invariant-loop-byte : goal.invariant-loop-byte
invariant-loop-byte l = Leads l.rest (escaped (drop l.byte-index l.characters)) l.text (escaped l.characters)
