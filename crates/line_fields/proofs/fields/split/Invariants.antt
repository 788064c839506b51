use Rattle.std.proofs.Common.{◌≡◌, ◌++◌, map, length}
use Rattle.spec_faults.specs.Cutting.{fields_in}
use Rattle.line_fields.proofs.Cuts.{CutSoFar}
use Rattle.line_fields.proofs.fields.split.Given as goal

abbrev pub invariant-fields : goal.invariant-fields
invariant-fields l = CutSoFar l.fn.line (map (λ b. b.now) l.fields.items) l.rest × (fields_in l.fn.line ≡ map (λ b. b.now) l.fields.items ++ fields_in l.rest)

abbrev pub decreases-fields : goal.decreases-fields
decreases-fields l = length l.rest
