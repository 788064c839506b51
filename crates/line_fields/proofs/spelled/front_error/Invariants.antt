use Rattle.std.proofs.Common.{◌≡◌, drop}
use Rattle.moo_value.specs.Read.{first_named}
use Rattle.moo_value.proofs.Reading.{all_errors}
use Rattle.line_fields.proofs.spelled.front_error.Given as goal

abbrev pub invariant-loop-error : goal.invariant-loop-error
invariant-loop-error l = first_named (drop l.error-index l.error-items) l.bytes ≡ first_named all_errors l.bytes
