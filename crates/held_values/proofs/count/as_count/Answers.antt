use mir.Syntax.{w32}
use mir.Val.{to_z, of_z}
use Rattle.std.proofs.Common.{◌≡◌, ◌∙◌, sym, ap, pos, Some}
use Rattle.std.specs.Prelude.{nat_abs}
use Rattle.std.proofs.lemmas.Int.{to_z-of_z}
use Rattle.held_values.proofs.ValueKinds.{not_negative}
use Rattle.held_values.proofs.count.as_count.Goals as goal

pub returns-in-Ok-clause-tells : goal.returns-in-Ok-clause-tells
returns-in-Ok-clause-tells c = sym (to_z-of_z w32 c.args.number c.ranges.number) ∙ not_negative (to_z w32 (of_z w32 c.args.number)) c.in-Ok.count c.in-Ok.ensures

pub returns-in-Ok-clause-finds : goal.returns-in-Ok-clause-finds
returns-in-Ok-clause-finds c count is =
    let same : c.args.number ≡ pos c.in-Ok.count = sym (to_z-of_z w32 c.args.number c.ranges.number) ∙ not_negative (to_z w32 (of_z w32 c.args.number)) c.in-Ok.count c.in-Ok.ensures in
    ap (λ z. Some (nat_abs z)) (sym same ∙ is)
