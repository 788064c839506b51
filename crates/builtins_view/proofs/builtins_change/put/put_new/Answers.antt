use Rattle.std.proofs.Common.{w32}
use Rattle.std.proofs.lemmas.Int.{to_z-of_z}
use Rattle.builtins_view.proofs.BuiltinsChangeChanges.{added_told}
use Rattle.builtins_view.proofs.builtins_change.put.put_new.Goals as goal

pub returns-clause-left : goal.returns-clause-left
returns-clause-left g c =
    added_told g.V.View.holds g.V.View.now c.args.view.now c.put_verbs.new.view c.put_verbs.result c.args.object c.args.verbs.now c.in_ok-verbs.verbs c.args.verb c.in_ok-verbs.ensures
    (rw (to_z-of_z w32 c.args.object c.ranges.object) at c.put_verbs.ensures.left)
