use Rattle.std.proofs.Common.{◌≡◌, ◌∙◌, ◌∷◌, ◌++◌, [], ap, w32, Some, List}
use Rattle.std.proofs.lemmas.Int.{to_z-of_z}
use Rattle.spec_value.specs.Datum.{Text}
use Rattle.spec_moo.specs.Steps.Running.{told_on}
use Rattle.moo_task.specs.Deeds.{scene_of}
use Rattle.steps.proofs.StepsPlaying.{on_ok}
use Rattle.steps.proofs.step_tasks.opening.tell_line.Goals as goal

pub returns : goal.returns
returns c =
    let lines : c.push.new.self.items ≡ c.args.line.now ∷ [] = c.in_ok-push.ensures.items ∙ ap (λ (ts : List Text). ts ++ c.in_ok-line.line ∷ []) c.new-lines.ensures.items ∙ ap (λ (t : Text). t ∷ []) c.in_ok-line.ensures in
    on_ok c.tell_on.result _ _ (λ told w t. told w t ∙ ap (told_on (scene_of c.args.deeds.now w t) (Some c.args.connection)) lines) (rw (to_z-of_z w32 c.args.connection c.ranges.connection) at c.tell_on.ensures)
