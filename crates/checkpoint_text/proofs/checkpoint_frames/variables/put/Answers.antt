use Rattle.std.proofs.Common.{ap, sym, ◌∙◌}
use Rattle.std.proofs.lemmas.List.{map-set}
use Rattle.checkpoint_text.specs.CheckpointFramesLines.{lent_variable, lent_variables}
use Rattle.checkpoint_text.proofs.Entries.{one_inserted}
use Rattle.checkpoint_text.proofs.checkpoint_frames.variables.put.Goals as goal

pub returns-in-Ok : goal.returns-in-Ok
returns-in-Ok c = map-set lent_variable _ _ _ ∙ sym (rw c.deref.ensures.value at (c.in-Ok.ensures.there.1 c.args.value.now))

pub returns-in_ok-insert-in-Err : goal.returns-in_ok-insert-in-Err
returns-in_ok-insert-in-Err c =
    ap lent_variables c.in_ok-insert-in-Err.ensures.items ∙ one_inserted _ _ _ ∙ sym (rw c.deref.ensures.value at (c.in-Err.ensures.before.1 c.args.value.now))
