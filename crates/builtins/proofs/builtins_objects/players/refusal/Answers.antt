use Rattle.std.proofs.Common.{is_some, [], ◌∷◌, Some, None, w32}
use Rattle.std.proofs.lemmas.Int.{to_z-of_z}
use Rattle.spec_value.specs.Datum.{permission_denied, invalid_argument}
use Rattle.spec_world.specs.World.{object_at}
use Rattle.spec_world.specs.Permissions.{may, administer}
use Rattle.spec_moo.specs.Natives.Rows.{wants}
use Rattle.builtins.proofs.BuiltinsObjectsChains.{check_fails, check_passes, last_passes}
use Rattle.builtins.proofs.builtins_objects.players.refusal.Goals as goal

pub returns-then-not-there-clause-left : goal.returns-then-not-there-clause-left
returns-then-not-there-clause-left g c =
    let object = to_z-of_z w32 c.args.object c.ranges.object in
    check_fails g.V.View.holds g.V.View.now c.args.view.now c.is_there.new.view (λ w. is_some (object_at w c.args.object)) invalid_argument
    (λ w. wants (may w c.args.programmer administer) permission_denied ∷ []) (rw (object, c.if-not-there.true) at c.in_ok-there.ensures.left)

pub returns-then-not-allowed-clause-left : goal.returns-then-not-allowed-clause-left
returns-then-not-allowed-clause-left g c =
    let object = to_z-of_z w32 c.args.object c.ranges.object in
    let programmer = to_z-of_z w32 c.args.programmer c.ranges.programmer in
    check_passes g.V.View.holds g.V.View.now c.args.view.now c.is_there.new.view c.may.new.view (λ w. is_some (object_at w c.args.object)) invalid_argument
    (λ w. wants (may w c.args.programmer administer) permission_denied ∷ []) (Some permission_denied) (rw (object, c.if-not-there.false) at c.in_ok-there.ensures.left)
    (check_fails g.V.View.holds g.V.View.now c.is_there.new.view c.may.new.view (λ w. may w c.args.programmer administer) permission_denied (λ w. [])
    (rw (programmer, c.if-not-allowed.true) at c.in_ok-allowed.ensures.left))

pub returns-clause-left : goal.returns-clause-left
returns-clause-left g c =
    let object = to_z-of_z w32 c.args.object c.ranges.object in
    let programmer = to_z-of_z w32 c.args.programmer c.ranges.programmer in
    check_passes g.V.View.holds g.V.View.now c.args.view.now c.is_there.new.view c.may.new.view (λ w. is_some (object_at w c.args.object)) invalid_argument
    (λ w. wants (may w c.args.programmer administer) permission_denied ∷ []) None (rw (object, c.if-not-there.false) at c.in_ok-there.ensures.left)
    (last_passes g.V.View.holds g.V.View.now c.is_there.new.view c.may.new.view (λ w. may w c.args.programmer administer) permission_denied
    (rw (programmer, c.if-not-allowed.false) at c.in_ok-allowed.ensures.left))
