use Rattle.std.proofs.Common.{◌∙◌, subst}
use Rattle.world_table.specs.Contents.{Contents}
use Rattle.world_table.specs.Revised.{Revises}
use Rattle.world_table.proofs.Revising.{revised_kept, revised_length, root_revises}
use Rattle.world_table.proofs.table.Table.revise.Goals as goal

pub invariant_of-self-2 : goal.invariant_of-self-2
invariant_of-self-2 g c =
    let makes = g.E.Revision.makes c.args.revision.now in
    let root = c.self.inside.root in
    let after = c.revise.new.self in
    let made = c.in_ok-done.ensures in (
      c.self.invariant.0,
      revised_kept makes g.row.LEVELS c.args.key c.in_ok-done.done root after c.self.invariant.1 c.revise.ensures.height made.done made.left,
      c.self.invariant.2 ∙ revised_length makes g.row.LEVELS c.args.key c.in_ok-done.done root after c.self.invariant.1 made.done made.left,
    )

pub returns-clause-done : goal.returns-clause-done
returns-clause-done g c = λ yes.
    let makes = g.E.Revision.makes c.args.revision.now in
    let whole = root_revises makes g.row.LEVELS c.args.key c.self.inside.root c.revise.new.self c.self.invariant.1 c.requires (c.in_ok-done.ensures.done yes) in
    subst (λ (t : Contents g.row.R.Denot). Revises makes c.args.key t.entries c.revise.new.self.entries) c.self.view_is whole
