use Rattle.std.proofs.Common.{◌≡◌, ◌∙◌, ◌∷◌, to_z, of_z, w32, rules}
use Rattle.std.specs.Arc.{arc_value}
use Rattle.moo_code.specs.Machine.{verb}
use Rattle.moo_task.specs.Effects.{waiting_of}
use Rattle.moo_task.specs.Frames.{kept_of}
use Rattle.moo_task.specs.Keeping.{task_of}
use Rattle.moo_task.proofs.Kept.{stops_as}
use Rattle.moo_task.proofs.task.Task.stopped.Goals as goal

pub returns : goal.returns
returns c = λ es w st.
    let player : to_z w32 (of_z w32 c.args.player) ≡ c.args.player = search rules in
    let verbs : arc_value c.in_ok-new.field-0 ≡ verb (kept_of c.args.frame) ∷ c.args.outer = c.in_ok-new.ensures.ok ∙ c.in_ok-push_verb.ensures.ok in
    (λ i. task_of (player i) (waiting_of c.args.waiting) (verbs i))
    ∙ stops_as c.args.player (waiting_of c.args.waiting) (verb (kept_of c.args.frame) ∷ c.args.outer) es c.requires w st
