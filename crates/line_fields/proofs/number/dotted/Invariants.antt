use Rattle.std.proofs.Common.{length}
use Rattle.spec_faults.specs.Plain.{between_dots}
use Rattle.line_fields.proofs.Dots.{ReadSoFar}
use Rattle.line_fields.proofs.DotsSaid.{SaidSoFar}
use Rattle.line_fields.proofs.number.dotted.Given as goal

abbrev pub invariant-parts : goal.invariant-parts
invariant-parts l = ReadSoFar l.fn.text l.numbers.items l.rest × SaidSoFar (between_dots l.fn.text) l.numbers.items (between_dots l.rest)

abbrev pub decreases-parts : goal.decreases-parts
decreases-parts l = length l.rest
