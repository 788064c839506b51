-- Programs may go to other threads, and be lent to them.
use denote.Hole.{as_row}
use denote.Param.Send.{IsSend, IsSync, sendable}
use denote.Param.SendFields.{as_row_send, as_row_sync, declared_send, declared_sync, variants_send, variants_sync, FieldsHave}
use denote.Struct.Field.{u8-field, u32-field, usize-field, i32-field, bool-field}
use Rattle.std.specs.Prelude.{[], ◌∷◌}
use Rattle.std.proofs.Crossing.{crosses}
use Rattle.moo_value.proofs.Crossing.{value_send, value_sync, text_send, text_sync}
use Rattle.moo_value.specs.contracts.operator.BinaryOperator as binary
use Rattle.moo_value.specs.contracts.operator.UnaryOperator as unary
use Rattle.moo_tree.proofs.Crossing.{tree_send, tree_sync}
use Rattle.moo_program.specs.contracts.moo_bytecode.operation.Unraised as unraised
use Rattle.moo_program.specs.contracts.moo_bytecode.operation.Way as way
use Rattle.moo_program.specs.contracts.assembly.Assembled as assembled
use Rattle.moo_program.specs.contracts.compile.Code as code
use Rattle.moo_program.specs.contracts.outline.Step as outline_step
use Rattle.moo_program.specs.contracts.compiled.Coded as coded
use Rattle.moo_program.specs.contracts.compiled.Compiled as compiled
use Rattle.moo_program.specs.contracts.instruction.Beginning as beginning
use Rattle.moo_program.specs.contracts.instruction.Handler as handler
use Rattle.moo_program.specs.contracts.instruction.Instruction as instruction
use Rattle.moo_program.specs.contracts.instruction.Scatter as scatter
use Rattle.moo_program.specs.contracts.instruction.Shape as shape
use Rattle.moo_program.specs.contracts.program.Program as program

-- the facts of some fields, or of some variants
infixr 5 ◌&◌
◌&◌ : {A B : Type 0} → A → B → A × B
a & b = (a, b)

unary_send : IsSend unary.the_row
unary_send = search (sendable, crosses) depth 60

binary_send : IsSend binary.the_row
binary_send = search (sendable, crosses) depth 60

way_send : IsSend way.the_row
way_send = search (sendable, crosses) depth 60

unraised_send : IsSend unraised.the_row
unraised_send = search (sendable, crosses) depth 60

shape_send : IsSend shape.the_row
shape_send = search (sendable, crosses) depth 60

scatter_send : IsSend scatter.the_row
scatter_send = search (sendable, crosses) depth 60

beginning_send : IsSend beginning.the_row
beginning_send = search (sendable, crosses) depth 60

handler_send : IsSend handler.the_row
handler_send = search (sendable, crosses) depth 60

outline_step_send : IsSend outline_step.the_row
outline_step_send = search (sendable, crosses) depth 60

number_send : IsSend (as_row u32-field)
number_send = search (sendable, crosses, as_row_send) depth 60

byte_send : IsSend (as_row u8-field)
byte_send = search (sendable, crosses, as_row_send) depth 60

integer_send : IsSend (as_row i32-field)
integer_send = search (sendable, crosses, as_row_send) depth 60

size_send : IsSend (as_row usize-field)
size_send = search (sendable, crosses, as_row_send) depth 60

truth_send : IsSend (as_row bool-field)
truth_send = search (sendable, crosses, as_row_send) depth 60

unary_sync : IsSync unary.the_row
unary_sync = search (sendable, crosses) depth 60

binary_sync : IsSync binary.the_row
binary_sync = search (sendable, crosses) depth 60

way_sync : IsSync way.the_row
way_sync = search (sendable, crosses) depth 60

unraised_sync : IsSync unraised.the_row
unraised_sync = search (sendable, crosses) depth 60

shape_sync : IsSync shape.the_row
shape_sync = search (sendable, crosses) depth 60

scatter_sync : IsSync scatter.the_row
scatter_sync = search (sendable, crosses) depth 60

beginning_sync : IsSync beginning.the_row
beginning_sync = search (sendable, crosses) depth 60

handler_sync : IsSync handler.the_row
handler_sync = search (sendable, crosses) depth 60

outline_step_sync : IsSync outline_step.the_row
outline_step_sync = search (sendable, crosses) depth 60

number_sync : IsSync (as_row u32-field)
number_sync = search (sendable, crosses, as_row_sync) depth 60

byte_sync : IsSync (as_row u8-field)
byte_sync = search (sendable, crosses, as_row_sync) depth 60

integer_sync : IsSync (as_row i32-field)
integer_sync = search (sendable, crosses, as_row_sync) depth 60

size_sync : IsSync (as_row usize-field)
size_sync = search (sendable, crosses, as_row_sync) depth 60

truth_sync : IsSync (as_row bool-field)
truth_sync = search (sendable, crosses, as_row_sync) depth 60

one_send : FieldsHave IsSend (u32-field ∷ [])
one_send = (number_send, tt)

two_send : FieldsHave IsSend (u32-field ∷ u32-field ∷ [])
two_send = (number_send, one_send)

instruction_send : IsSend instruction.the_row
instruction_send =
    variants_send instruction.enum
    (tt & (way_send & unraised_send & two_send) & (integer_send & tt)
    & ((search (sendable, crosses, as_row_send, value_send) depth 60) & tt) & one_send & tt & one_send
    & ((search (sendable, crosses, as_row_send, shape_send) depth 60) & one_send) & (unary_send & tt) & (binary_send & tt) & one_send
    & one_send & one_send & one_send & tt & tt & tt & tt & tt & one_send
    & ((search (sendable, crosses, as_row_send, text_send) depth 60) & tt) & one_send & tt
    & ((search (sendable, crosses, as_row_send, shape_send) depth 60) & tt)
    & ((search (sendable, crosses, as_row_send, scatter_send, scatter_sync) depth 60) & tt)
    & ((search (sendable, crosses, as_row_send, scatter_send, scatter_sync) depth 60) & two_send) & one_send & tt & tt & tt & two_send
    & tt & (truth_send & two_send) & (truth_send & two_send) & one_send & two_send & two_send & two_send & two_send
    & ((search (sendable, crosses, as_row_send) depth 60) & one_send) & one_send & one_send & tt & tt
    & (byte_send & number_send & two_send) & ((search (sendable, crosses, as_row_send, beginning_send) depth 60) & tt) & tt)

one_sync : FieldsHave IsSync (u32-field ∷ [])
one_sync = (number_sync, tt)

two_sync : FieldsHave IsSync (u32-field ∷ u32-field ∷ [])
two_sync = (number_sync, one_sync)

instruction_sync : IsSync instruction.the_row
instruction_sync =
    variants_sync instruction.enum
    (tt & (way_sync & unraised_sync & two_sync) & (integer_sync & tt)
    & ((search (sendable, crosses, as_row_sync, value_sync) depth 60) & tt) & one_sync & tt & one_sync
    & ((search (sendable, crosses, as_row_sync, shape_sync) depth 60) & one_sync) & (unary_sync & tt) & (binary_sync & tt) & one_sync
    & one_sync & one_sync & one_sync & tt & tt & tt & tt & tt & one_sync
    & ((search (sendable, crosses, as_row_sync, text_sync) depth 60) & tt) & one_sync & tt
    & ((search (sendable, crosses, as_row_sync, shape_sync) depth 60) & tt)
    & ((search (sendable, crosses, as_row_sync, scatter_send, scatter_sync) depth 60) & tt)
    & ((search (sendable, crosses, as_row_sync, scatter_send, scatter_sync) depth 60) & two_sync) & one_sync & tt & tt & tt & two_sync
    & tt & (truth_sync & two_sync) & (truth_sync & two_sync) & one_sync & two_sync & two_sync & two_sync & two_sync
    & ((search (sendable, crosses, as_row_sync) depth 60) & one_sync) & one_sync & one_sync & tt & tt
    & (byte_sync & number_sync & two_sync) & ((search (sendable, crosses, as_row_sync, beginning_sync) depth 60) & tt) & tt)

assembled_send : IsSend assembled.the_row
assembled_send = search (sendable, crosses, instruction_send, handler_send) depth 60

code_send : IsSend code.the_row
code_send = declared_send code.the_type ((search (sendable, crosses, text_send) depth 60) & assembled_send & (search (sendable, crosses, outline_step_send) depth 60) & tt)

coded_send : IsSend coded.the_row
coded_send = declared_send coded.the_type (code_send & size_send & size_send & tt)

compiled_send : IsSend compiled.the_row
compiled_send = search (sendable, crosses, tree_send, coded_send) depth 60

assembled_sync : IsSync assembled.the_row
assembled_sync = search (sendable, crosses, instruction_sync, handler_sync) depth 60

code_sync : IsSync code.the_row
code_sync = declared_sync code.the_type ((search (sendable, crosses, text_sync) depth 60) & assembled_sync & (search (sendable, crosses, outline_step_sync) depth 60) & tt)

coded_sync : IsSync coded.the_row
coded_sync = declared_sync coded.the_type (code_sync & size_sync & size_sync & tt)

compiled_sync : IsSync compiled.the_row
compiled_sync = search (sendable, crosses, tree_sync, coded_sync) depth 60

pub program_send : IsSend program.the_row
program_send = search (sendable, crosses, compiled_send, compiled_sync) depth 60

pub program_sync : IsSync program.the_row
program_sync = search (sendable, crosses, compiled_send, compiled_sync) depth 60
