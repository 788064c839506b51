-- How the logic stores what waits.
use Rattle.std.specs.Prelude.{◌≡◌, ℕ, List, Option, Some, None, refl}
use Rattle.std.specs.Coded.{Coded, code_by, coded×, coded_list, coded_option, coded_ℕ}
use Rattle.spec_value.specs.Datum.{Datum}
use Rattle.spec_value.specs.DatumCode.{datum_code}
use Rattle.spec_value.specs.Table.{Named}
use Rattle.spec_program.specs.Tree.{Program}
use Rattle.spec_program.specs.TreeCode.{program_code}
use Rattle.spec_world.specs.World.{Call, Start, Native}
use Rattle.spec_world.specs.WorldCode.{call_code, start_code, named_code, native_code, native_or_none}
use Rattle.moo_code.specs.Machine.{Kept, Outer, verb, native}

abbrev pub kept_code : Coded Kept
kept_code =
    code_by (Call × (Start × (Program × (Named Datum × (ℕ × List Datum)))))
    (coded× call_code (coded× start_code (coded× program_code (coded× (named_code datum_code) (coded× coded_ℕ (coded_list datum_code))))))
    (λ k. (k.call, (k.start, (k.program, (k.variables, (k.place, k.operands))))))
    (λ p. record { call = p.0; start = p.1.0; program = p.1.1.0; variables = p.1.1.1.0; place = p.1.1.1.1.0; operands = p.1.1.1.1.1 }) (λ _. refl)

-- one of two
abbrev pub from_outer : Outer → Option Kept × Option Native
from_outer (verb k) = (Some k, None)
from_outer (native n) = (None, Some n)

abbrev pub outer_or : Option Native → Option Kept → Outer
outer_or n None = native (native_or_none n)
outer_or n (Some k) = verb k

abbrev pub to_outer : Option Kept × Option Native → Outer
to_outer p = outer_or p.1 p.0

pub outer_back : (o : Outer) → to_outer (from_outer o) ≡ o
outer_back (verb k) = refl
outer_back (native n) = refl

abbrev pub outer_code : Coded Outer
outer_code = code_by (Option Kept × Option Native) (coded× (coded_option kept_code) (coded_option native_code)) from_outer to_outer outer_back
