use Rattle.std.proofs.Common.{length, ap, arith}
use Rattle.std.specs.Arc.{arc_value}
use Rattle.slot_content.proofs.Pieces.{marks_length}
use Rattle.slot_content.proofs.kept.KeptValues.len.Goals as goal

pub overflow_sub-result : goal.overflow_sub-result
overflow_sub-result c =
    let k = arc_value c.self.inside.kept in omega (arith, rw c.deref.ensures at c.len.ensures, k.marks.ok, ap length c.self.invariant.marks, marks_length 0 k.values.value.items)

pub returns : goal.returns
returns c =
    let k = arc_value c.self.inside.kept in
    omega (arith, rw c.deref.ensures at c.len.ensures, k.marks.ok, ap length c.self.invariant.marks, marks_length 0 k.values.value.items, ap length c.self.view_is)
