use Rattle.std.proofs.Common.{length, refl, ◌∙◌}
use Rattle.std.specs.Prelude.{codes}
use Rattle.spec_world.specs.Checkpoint.{task_lines, each_task}
use Rattle.checkpoint_text.proofs.Parts.{all_tasks, part_written}
use Rattle.checkpoint_text.proofs.encode.put_task_part.Goals as goal

pub returns : goal.returns
returns c =
    let w = c.args.draft.now in
    part_written task_lines (codes "tasks") w.tasks c.as_slice.result.now c.as_slice-2.result.now (each_task w.tasks) (length c.as_slice.result.now)
    c.args.page.now c.put_count.new.self c.put_tasks.new.page c.requires (c.as_slice.ensures ∙ c.in_ok-ids.ensures) (c.as_slice-2.ensures ∙ c.in_ok-ids.ensures)
    refl (all_tasks w.tasks) c.in_ok-put_count.ensures c.in_ok-put_tasks.ensures
