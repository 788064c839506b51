use Rattle.std.proofs.Common.{w32}
use Rattle.std.proofs.lemmas.Int.{to_z-of_z}
use Rattle.spec_moo.specs.Natives.Verbs.{with_info}
use Rattle.builtins_view.proofs.BuiltinsChangeChanges.{within, changed_told}
use Rattle.builtins_view.proofs.builtins_change.put.put_info.Goals as goal

pub replaced-requires : goal.replaced-requires
replaced-requires g c = within c.args.verbs.now c.args.place c.args.verb.now c.requires.there

pub returns-clause-left : goal.returns-clause-left
returns-clause-left g c =
    changed_told g.V.View.holds g.V.View.now c.args.view.now c.put_verbs.new.view c.put_verbs.result c.args.object c.args.verbs.now c.in_ok-verbs.verbs c.args.place c.args.verb.now c.in_ok-changed.changed
    (with_info c.args.info.now.owner c.args.info.now.bits c.args.info.now.names) c.requires.there c.in_ok-changed.ensures c.in_ok-verbs.ensures
    (rw (to_z-of_z w32 c.args.object c.ranges.object) at c.put_verbs.ensures.left)
