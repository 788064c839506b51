use Rattle.std.proofs.Common.{◌∙◌, ap}
use Rattle.spec_value.specs.Table.{Numbered}
use Rattle.spec_world.specs.World.{Task}
use Rattle.world.specs.Due.{due_ids}
use Rattle.world.proofs.DueWalks.{known_due}
use Rattle.world.proofs.tasks.Tasks.due.Goals as goal

pub returns : goal.returns
returns c =
    c.in_ok-ids.ensures ∙ known_due c.args.moment c.self.inside.tasks.entries c.self.inside.moments c.self.invariant.moments ∙ ap (λ (ts : Numbered Task). due_ids c.args.moment ts) c.self.view_is
