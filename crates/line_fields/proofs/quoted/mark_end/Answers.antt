use Rattle.std.proofs.Common.{sym}
use Rattle.memchr.specs.Find.{is_byte2}
use Rattle.line_fields.proofs.Stops.{found_first, found_none}
use Rattle.line_fields.proofs.quoted.mark_end.Goals as goal

pub returns-in-Some-clause-value : goal.returns-in-Some-clause-value
returns-in-Some-clause-value c = sym (found_first (is_byte2 34 92) c.args.bytes.now c.in-Some.end c.in-Some.ensures)

pub returns-in-None-clause-value : goal.returns-in-None-clause-value
returns-in-None-clause-value c = sym (found_none (is_byte2 34 92) c.args.bytes.now c.in-None.ensures)
