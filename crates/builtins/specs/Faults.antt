-- What is told of a fault.
use Rattle.std.specs.Prelude.{pos, [], ◌∷◌, ◌++◌, codes}
use Rattle.std.specs.Fmt.{decimal}
use Rattle.spec_value.specs.Datum.{Datum, integer, text, Text}
use Rattle.spec_moo.specs.Natives.Rows.{list_value}
use Rattle.syntax_fault.specs.declared.fault.FaultKind.{FaultKind}
use Rattle.syntax_fault.specs.declared.fault.FaultKind.TheVariants as fault
use Rattle.syntax_fault.specs.declared.fault.SyntaxFault.{SyntaxFault}

-- a lack of memory is told to nobody
abbrev pub kind_told : FaultKind → Text
kind_told fault.Character = codes "Character"
kind_told fault.Unclosed = codes "Unclosed"
kind_told fault.Token = codes "Token"
kind_told fault.Nesting = codes "Nesting"
kind_told fault.Number = codes "Number"
kind_told fault.LoopName = codes "Loop name"
kind_told fault.Memory = codes "Memory"

abbrev pub text_told : SyntaxFault → Text
text_told e = codes "Line " ++ (decimal e.line ++ (codes ": " ++ kind_told e.kind))

abbrev pub fault_told : SyntaxFault → Datum
fault_told e = list_value (text (text_told e) ∷ [])

-- as `eval` tells it
abbrev pub refusal_told : SyntaxFault → Datum
refusal_told e = list_value (integer (pos 0) ∷ fault_told e ∷ [])
