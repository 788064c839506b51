use Rattle.std.proofs.Common.{map, ap, sym, ◌∙◌}
use Rattle.spec_faults.specs.Cutting.{field_at}
use Rattle.checkpoint_lines.proofs.Filled.{field_there, no_field}
use Rattle.checkpoint_lines.proofs.row.Row.field.Goals as goal

pub returns-in-Some : goal.returns-in-Some
returns-in-Some c =
    ap (λ b. b.now) c.in-Some.ensures.lookup.1
    ∙ sym (field_there c.deref.result.now c.args.index c.in-Some.field.now c.in-Some.ensures.lookup.3.0)
    ∙ ap (λ bs. field_at (map (λ b. b.now) bs) c.args.index) c.deref.ensures.value

pub returns-in-None : goal.returns-in-None
returns-in-None c = sym (no_field c.deref.result.now c.args.index c.in-None.ensures.lookup.3) ∙ ap (λ bs. field_at (map (λ b. b.now) bs) c.args.index) c.deref.ensures.value
