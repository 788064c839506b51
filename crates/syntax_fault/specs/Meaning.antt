-- A fault as that of the definitions.
use Rattle.std.specs.Prelude.{◌≡◌, ℕ, Option, Some, None}
use Rattle.spec_program.specs.Tokens as meant
use Rattle.spec_program.specs.ReadPrograms.{Parsed, at_fault}
use Rattle.syntax_fault.specs.declared.fault.FaultKind.{FaultKind}
use Rattle.syntax_fault.specs.declared.fault.FaultKind.TheVariants as fault
use Rattle.syntax_fault.specs.declared.fault.SyntaxFault.{SyntaxFault}

-- a lack of memory is none of the text's
abbrev pub kind_meant : FaultKind → Option meant.FaultKind
kind_meant fault.Character = Some meant.character
kind_meant fault.Unclosed = Some meant.unclosed
kind_meant fault.Token = Some meant.token
kind_meant fault.Nesting = Some meant.nesting
kind_meant fault.Number = Some meant.number
kind_meant fault.LoopName = Some meant.loop_name
kind_meant fault.Memory = None

-- what comes of a text is a fault of this kind in this line
abbrev pub OfKind : Option meant.FaultKind → ℕ → Parsed → Type 0
OfKind None line p = ⊥
OfKind (Some k) line p = p ≡ at_fault k line

abbrev pub IsFault : SyntaxFault → Parsed → Type 0
IsFault e p = OfKind (kind_meant e.kind) e.line p

-- or memory ran out, which has line 0
abbrev pub OfKindOrMemory : Option meant.FaultKind → ℕ → Parsed → Type 0
OfKindOrMemory None line p = line ≡ 0
OfKindOrMemory (Some k) line p = p ≡ at_fault k line

abbrev pub IsFaultOrMemory : SyntaxFault → Parsed → Type 0
IsFaultOrMemory e p = OfKindOrMemory (kind_meant e.kind) e.line p
