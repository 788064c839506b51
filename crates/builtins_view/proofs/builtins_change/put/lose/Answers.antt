use Rattle.std.proofs.Common.{w32}
use Rattle.std.proofs.lemmas.Int.{to_z-of_z}
use Rattle.builtins_view.proofs.BuiltinsChangeChanges.{deleted_told}
use Rattle.builtins_view.proofs.builtins_change.put.lose.Goals as goal

pub returns-clause-left : goal.returns-clause-left
returns-clause-left g c =
    deleted_told g.V.View.holds g.V.View.now c.args.view.now c.put_verbs.new.view c.put_verbs.result c.args.object c.args.verbs.now c.in_ok-verbs.verbs c.args.place c.in_ok-verbs.ensures
    (rw (to_z-of_z w32 c.args.object c.ranges.object) at c.put_verbs.ensures.left)
