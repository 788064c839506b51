use Rattle.std.proofs.Common.{◌≡◌, ◌≤◌, drop, length}
use Rattle.moo_value.specs.Read.{after_name}
use Rattle.line_fields.proofs.spelled.after.Given as goal

abbrev pub invariant-loop-c : goal.invariant-loop-c
invariant-loop-c l = (length l.rest ≤ length l.bytes) × (after_name (drop l.c-index l.name) l.rest ≡ after_name l.name l.bytes)
