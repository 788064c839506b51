-- The outline of a program's code: its draft without the operations.
use Rattle.std.specs.Prelude.{List, map, Bool, true, false}
use Rattle.spec_program.specs.Tree.{Program}
use Rattle.moo_code.specs.Layout.{Reception, straight, received}
use Rattle.moo_program.specs.Drafting.{Draught, own_of, part_of, close_of, gap_of}
use Rattle.moo_program.specs.Assembling.{draft_of}
use Rattle.moo_program.specs.declared.outline.Step.{Step}
use Rattle.moo_program.specs.declared.outline.Step.TheVariants.{Own, Part, Close, Gap}

abbrev pub receives : Reception → Bool
receives straight = false
receives (received w n u) = true

abbrev pub step_of : Draught → Step
step_of (own_of op ns) = Own
step_of (part_of o n m) = Part o n m
step_of (close_of r c) = Close (receives r)
step_of gap_of = Gap

abbrev pub outline_of : Program → List Step
outline_of p = map step_of (draft_of p)
