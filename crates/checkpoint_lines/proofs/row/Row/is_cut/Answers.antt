use Rattle.std.proofs.Common.{◌-◌, length, map, ap, sym, ◌∙◌, arith}
use Rattle.checkpoint_lines.specs.Told.{is_cut}
use Rattle.checkpoint_lines.proofs.Filled.{last_field}
use Rattle.checkpoint_lines.proofs.row.Row.is_cut.Goals as goal

pub returns-in-len1-up : goal.returns-in-len1-up
returns-in-len1-up c =
    c.is_single.ensures.cuts ∙ sym (last_field c.as_slice.result.now (length c.as_slice.result.now - 1) _ (omega arith))
    ∙ ap (λ bs. is_cut (map (λ b. b.now) bs)) c.as_slice.ensures.value
