use Rattle.std.proofs.Common.{◌≡◌, drop}
use Rattle.spec_value.specs.Datum.{is_text}
use Rattle.moo_value.proofs.text.is_allowed.Given as goal

abbrev pub invariant-loop-c : goal.invariant-loop-c
invariant-loop-c l = is_text (drop l.c-index l.bytes) ≡ is_text l.bytes
