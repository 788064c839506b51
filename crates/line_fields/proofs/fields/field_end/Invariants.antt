use Rattle.std.proofs.Common.{◌≡◌, drop}
use Rattle.line_fields.proofs.Places.{at, end_from}
use Rattle.line_fields.proofs.fields.field_end.Given as goal

abbrev pub invariant-loop-index : goal.invariant-loop-index
invariant-loop-index l = end_from 0 (at 0) l.fn.line ≡ end_from l.index l.place (drop l.index l.fn.line)
