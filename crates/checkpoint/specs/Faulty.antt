-- The fault that is told of a text that is no world's.
use Rattle.std.specs.Prelude.{Result, Ok, Err}
use Rattle.spec_value.specs.Datum.{Text}
use Rattle.spec_faults.specs.Faults.{IsFirstFault}
use Rattle.checkpoint_lines.specs.declared.fault.DecodeError.{DecodeError}
use Rattle.checkpoint_lines.specs.declared.fault.DecodeError.TheVariants.{Line, Memory}
use Rattle.checkpoint_lines.specs.Told.{meant}

-- its first faulty line with the least of its faults; want of memory says nothing of the text
abbrev pub TellsFirst : {A : Type 0} → Result A DecodeError → Text → Type 0
TellsFirst (Ok x) t = Unit {0}
TellsFirst (Err (Line n k)) t = IsFirstFault t (record { line = n; kind = meant k })
TellsFirst (Err (Memory e)) t = Unit {0}
