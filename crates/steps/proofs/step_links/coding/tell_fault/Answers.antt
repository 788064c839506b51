use Rattle.std.proofs.Common.{◌∙◌, ap, sym, w32}
use Rattle.std.proofs.lemmas.Int.{to_z-of_z}
use Rattle.spec_moo.specs.Steps.Programming.{says}
use Rattle.moo_task.specs.Deeds.{scene_of}
use Rattle.steps.proofs.Codings.{fault_written}
use Rattle.steps.proofs.step_links.coding.tell_fault.Goals as goal

pub returns : goal.returns
returns c p is w t object place =
    let s = scene_of c.args.deeds.now w t in
    fault_written s c.args.connection object place p c.in_ok-line.line (c.in_ok-line.ensures p is)
    ∙ ap (says s c.args.connection) (sym c.as_str.ensures)
    ∙ (rw (to_z-of_z w32 c.args.connection c.ranges.connection) at c.in_ok-outcome.ensures) w t
