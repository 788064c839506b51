use Rattle.std.proofs.Common.{◌∙◌, ap, w32}
use Rattle.std.proofs.lemmas.Int.{to_z-of_z}
use Rattle.spec_value.specs.Table.{Numbered}
use Rattle.spec_world.specs.World.{Task}
use Rattle.world.specs.Due.{by_moment, first_due_from}
use Rattle.world.proofs.DueWalks.{known_moments}
use Rattle.world.proofs.tasks.Tasks.next_due.Goals as goal

pub returns : goal.returns
returns c =
    let told = rw (to_z-of_z w32 c.args.id c.ranges.id) at c.next_due.ensures in
    told ∙ ap (first_due_from c.args.moment c.args.id) (known_moments c.self.inside.tasks.entries c.self.inside.moments c.self.invariant.moments ∙ ap (λ (ts : Numbered Task). by_moment ts) c.self.view_is)
