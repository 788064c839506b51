use Rattle.std.proofs.Common.{◌≡◌, ◌-◌, ◌++◌, map, length}
use Rattle.spec_faults.specs.Cutting.{fields_in}
use Rattle.line_fields.specs.Cutting.{first_fields}
use Rattle.line_fields.proofs.Cuts.{CutSoFar}
use Rattle.line_fields.proofs.fields.split_first.Given as goal

abbrev pub invariant-fields : goal.invariant-fields
invariant-fields l = (length l.fields.items ≡ l._field) × CutSoFar l.fn.line (map (λ b. b.now) l.fields.items) l.rest
    × (first_fields l.fn.count (fields_in l.fn.line) ≡ map (λ b. b.now) l.fields.items ++ first_fields (l.fn.count - l._field) (fields_in l.rest))
