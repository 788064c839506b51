-- What instructions and handlers are by the tables of their program.
use Rattle.std.specs.Prelude.{List, map}
use Rattle.std.specs.Borrow.{Bor}
use Rattle.spec_program.specs.Tree.{Program}
use Rattle.spec_program.specs.Tree as tree
use Rattle.moo_tree.specs.StatementView.{program_of}
use Rattle.moo_code.specs.Instruction as code
use Rattle.moo_program.specs.Names.{known}
use Rattle.moo_program.specs.Meaning.{meant, handler_meant}
use Rattle.moo_program.specs.declared.instruction.Instruction.{Instruction}
use Rattle.moo_program.specs.declared.instruction.Handler.{Handler}
use Rattle.moo_program.specs.declared.tables.Tables.{Tables}

abbrev pub bodies_of : List (Bor (List tree.Statement)) → List Program
bodies_of bs = map (λ b. program_of b.now) bs

abbrev pub meant_in : Tables → Instruction → code.Instruction
meant_in t i = meant (known t.names) (bodies_of t.bodies.items) i

abbrev pub handler_in : Tables → Handler → code.Handler
handler_in t h = handler_meant (known t.names) h
