use Rattle.std.proofs.Common.{◌≡◌, ◌+◌, drop}
use Rattle.line_fields.specs.Quoted.{ordinary_run}
use Rattle.line_fields.proofs.quoted.run_end.Given as goal

abbrev pub invariant-loop-byte : goal.invariant-loop-byte
invariant-loop-byte l = (l.count ≡ l.byte-index) × (l.count + ordinary_run (drop l.byte-index l.bytes) ≡ ordinary_run l.bytes)
