use Rattle.std.proofs.Common.{length, refl, ap, sym, ◌∙◌, w32}
use Rattle.std.proofs.lemmas.Int.{to_z-of_z}
use Rattle.std.specs.List.{flat_map}
use Rattle.tree_parts.specs.Telling.{outer_lines}
use Rattle.moo_task.specs.Effects.{waiting_of}
use Rattle.moo_task.specs.Frames.{outer_of}
use Rattle.checkpoint_text.proofs.CheckpointTasksWholes.{task_written}
use Rattle.checkpoint_text.proofs.checkpoint_tasks.task.put_task.Goals as goal

pub returns : goal.returns
returns c =
    let why = waiting_of c.waiting-waiting.result.now in
    let outers = c.told-outers.result.now in
    task_written c.args.id c.args.task.now why c.args.task.now.player (length outers) (flat_map (λ o. outer_lines why (outer_of o)) outers)
    c.args.page.now c.put_waiting.new.page c.put_player.new.page c.put_count.new.self c.put_outers.new.page
    c.waiting-waiting.ensures refl (sym c.told-outers.ensures.count)
    (ap (λ w. flat_map (λ o. outer_lines w (outer_of o)) outers) c.waiting-waiting.ensures ∙ sym c.told-outers.ensures.lines)
    (rw (to_z-of_z w32 c.args.id c.ranges.id) at c.in_ok-put_waiting.ensures) c.in_ok-put_player.ensures c.in_ok-put_count.ensures c.in_ok-put_outers.ensures
