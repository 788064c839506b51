use Rattle.std.proofs.Common.{◌≡◌, [], ◌∷◌, ◌++◌, length, refl, ◌∙◌}
use Rattle.std.specs.Prelude.{codes}
use Rattle.spec_world.specs.Checkpoint.{counted, task_lines, each_task, with_line_ends}
use Rattle.checkpoint_text.specs.Each.{of_each}
use Rattle.checkpoint_text.specs.Parts.{task_part}
use Rattle.checkpoint_text.proofs.Behind.{match_second, otherwise_first}
use Rattle.checkpoint_text.proofs.Parts.{all_tasks, part_written}
use Rattle.checkpoint_text.proofs.compare.behind_tasks.Goals as goal

pub returns-in-Some : goal.returns-in-Some
returns-in-Some c =
    let w = c.args.draft.now in
    let ks = c.as_slice.result.now in
    let js = c.as_slice-in-Some.result.now in
    let count = with_line_ends (counted (codes "tasks") (length ks) ∷ []) in
    let each = with_line_ends (of_each task_lines w.tasks js) in
    let whole : count ++ each ≡ with_line_ends (task_part w) =
    part_written task_lines (codes "tasks") w.tasks ks js (each_task w.tasks) (length ks) [] count (count ++ each) c.requires
    (c.as_slice.ensures ∙ c.in_ok-ids.ensures) (c.as_slice-in-Some.ensures ∙ c.in_ok-ids.ensures) refl (all_tasks w.tasks) refl refl in
    match_second count each (with_line_ends (task_part w)) c.args.bytes.now c.in-Some.rest.now c.in_ok-left-in-Some.left whole
    (rw c.in-Some.is at c.in_ok-found.ensures) c.in_ok-left-in-Some.ensures

pub returns : goal.returns
returns c =
    let w = c.args.draft.now in
    let ks = c.as_slice.result.now in
    let count = with_line_ends (counted (codes "tasks") (length ks) ∷ []) in
    let each = with_line_ends (of_each task_lines w.tasks ks) in
    let whole : count ++ each ≡ with_line_ends (task_part w) =
    part_written task_lines (codes "tasks") w.tasks ks ks (each_task w.tasks) (length ks) [] count (count ++ each) c.requires
    (c.as_slice.ensures ∙ c.in_ok-ids.ensures) (c.as_slice.ensures ∙ c.in_ok-ids.ensures) refl (all_tasks w.tasks) refl refl in
    otherwise_first count each (with_line_ends (task_part w)) c.args.bytes.now whole (rw c.in-None.is at c.in_ok-found.ensures)
