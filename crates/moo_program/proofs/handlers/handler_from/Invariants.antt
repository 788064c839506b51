use Rattle.std.proofs.Common.{◌≡◌, List, drop, map}
use Rattle.spec_value.specs.Datum.{Text}
use Rattle.moo_code.specs.Machine.{handlers_at}
use Rattle.moo_program.specs.Meaning.{handler_meant}
use Rattle.moo_program.proofs.handlers.handler_from.Given as goal

abbrev pub invariant-loop-i : goal.invariant-loop-i
invariant-loop-i l =
    (names : List Text) → handlers_at (drop l.from (map (handler_meant names) l.handlers)) l.place ≡ handlers_at (drop l.i (map (handler_meant names) l.handlers)) l.place
