use Rattle.std.proofs.Common.{◌≡◌, true, false, not, ◌&&◌, ◌||◌, is_some, [], ◌∷◌, Some, None, w32}
use Rattle.std.specs.Prelude.{neg_ℤ, pos}
use Rattle.std.specs.Ordering.{int_eq}
use Rattle.std.proofs.lemmas.Int.{to_z-of_z}
use Rattle.spec_value.specs.Datum.{permission_denied, invalid_argument, recursive_move}
use Rattle.spec_world.specs.World.{object_at}
use Rattle.spec_world.specs.Permissions.{may, change_object, have_child}
use Rattle.spec_world.specs.Families.{is_below}
use Rattle.spec_moo.specs.Natives.Rows.{wants}
use Rattle.rules.proofs.Tellings.{known_on}
use Rattle.builtins.proofs.BuiltinsObjectsChains.{turned_told, check_fails, check_passes, last_passes}
use Rattle.builtins.proofs.builtins_objects.chparent.refusal.Goals as goal

pub returns-then-not-there-clause-left : goal.returns-then-not-there-clause-left
returns-then-not-there-clause-left g c =
    let object = to_z-of_z w32 c.args.object c.ranges.object in
    let parent = to_z-of_z w32 c.args.parent c.ranges.parent in
    check_fails g.V.View.holds g.V.View.now c.args.view.now c.are_there.new.view
    (λ w. is_some (object_at w c.args.object) && (int_eq c.args.parent (neg_ℤ (pos 1)) || is_some (object_at w c.args.parent))) invalid_argument
    (λ w. wants (may w c.args.programmer (change_object c.args.object) && may w c.args.programmer (have_child c.args.parent)) permission_denied
    ∷ wants (not (is_below w c.args.object c.args.parent)) recursive_move ∷ [])
    (rw (object, parent, c.if-not-there.true) at c.in_ok-there.ensures.left)

pub returns-then-not-allowed-clause-left : goal.returns-then-not-allowed-clause-left
returns-then-not-allowed-clause-left g c =
    let object = to_z-of_z w32 c.args.object c.ranges.object in
    let parent = to_z-of_z w32 c.args.parent c.ranges.parent in
    let programmer = to_z-of_z w32 c.args.programmer c.ranges.programmer in
    check_passes g.V.View.holds g.V.View.now c.args.view.now c.are_there.new.view c.may_both.new.view
    (λ w. is_some (object_at w c.args.object) && (int_eq c.args.parent (neg_ℤ (pos 1)) || is_some (object_at w c.args.parent))) invalid_argument
    (λ w. wants (may w c.args.programmer (change_object c.args.object) && may w c.args.programmer (have_child c.args.parent)) permission_denied
    ∷ wants (not (is_below w c.args.object c.args.parent)) recursive_move ∷ [])
    (Some permission_denied) (rw (object, parent, c.if-not-there.false) at c.in_ok-there.ensures.left)
    (check_fails g.V.View.holds g.V.View.now c.are_there.new.view c.may_both.new.view
    (λ w. may w c.args.programmer (change_object c.args.object) && may w c.args.programmer (have_child c.args.parent)) permission_denied
    (λ w. wants (not (is_below w c.args.object c.args.parent)) recursive_move ∷ [])
    (rw (object, parent, programmer, c.if-not-allowed.true) at c.in_ok-allowed.ensures.left))

pub is_below-requires-clause-well_formed : goal.is_below-requires-clause-well_formed
is_below-requires-clause-well_formed g c =
    let object = to_z-of_z w32 c.args.object c.ranges.object in
    let parent = to_z-of_z w32 c.args.parent c.ranges.parent in
    let programmer = to_z-of_z w32 c.args.programmer c.ranges.programmer in
    known_on g.V.View.holds g.V.View.now c.are_there.new.view c.may_both.new.view
    (λ w. (may w c.args.programmer (change_object c.args.object) && may w c.args.programmer (have_child c.args.parent)) ≡ true)
    (known_on g.V.View.holds g.V.View.now c.args.view.now c.are_there.new.view
    (λ w. (is_some (object_at w c.args.object) && (int_eq c.args.parent (neg_ℤ (pos 1)) || is_some (object_at w c.args.parent))) ≡ true) c.requires.well_formed
    (rw (object, parent, c.if-not-there.false) at c.in_ok-there.ensures.left))
    (rw (object, parent, programmer, c.if-not-allowed.false) at c.in_ok-allowed.ensures.left)

pub returns-then-circular-clause-left : goal.returns-then-circular-clause-left
returns-then-circular-clause-left g c =
    let object = to_z-of_z w32 c.args.object c.ranges.object in
    let parent = to_z-of_z w32 c.args.parent c.ranges.parent in
    let programmer = to_z-of_z w32 c.args.programmer c.ranges.programmer in
    check_passes g.V.View.holds g.V.View.now c.args.view.now c.are_there.new.view c.is_below.new.view
    (λ w. is_some (object_at w c.args.object) && (int_eq c.args.parent (neg_ℤ (pos 1)) || is_some (object_at w c.args.parent))) invalid_argument
    (λ w. wants (may w c.args.programmer (change_object c.args.object) && may w c.args.programmer (have_child c.args.parent)) permission_denied
    ∷ wants (not (is_below w c.args.object c.args.parent)) recursive_move ∷ [])
    (Some recursive_move) (rw (object, parent, c.if-not-there.false) at c.in_ok-there.ensures.left)
    (check_passes g.V.View.holds g.V.View.now c.are_there.new.view c.may_both.new.view c.is_below.new.view
    (λ w. may w c.args.programmer (change_object c.args.object) && may w c.args.programmer (have_child c.args.parent)) permission_denied
    (λ w. wants (not (is_below w c.args.object c.args.parent)) recursive_move ∷ [])
    (Some recursive_move) (rw (object, parent, programmer, c.if-not-allowed.false) at c.in_ok-allowed.ensures.left)
    (check_fails g.V.View.holds g.V.View.now c.may_both.new.view c.is_below.new.view (λ w. not (is_below w c.args.object c.args.parent)) recursive_move (λ w. [])
    (turned_told g.V.View.holds g.V.View.now c.may_both.new.view c.is_below.new.view (λ w. is_below w c.args.object c.args.parent) true
    (rw (object, parent, c.if-circular.true) at c.in_ok-circular.ensures.left))))

pub returns-clause-left : goal.returns-clause-left
returns-clause-left g c =
    let object = to_z-of_z w32 c.args.object c.ranges.object in
    let parent = to_z-of_z w32 c.args.parent c.ranges.parent in
    let programmer = to_z-of_z w32 c.args.programmer c.ranges.programmer in
    check_passes g.V.View.holds g.V.View.now c.args.view.now c.are_there.new.view c.is_below.new.view
    (λ w. is_some (object_at w c.args.object) && (int_eq c.args.parent (neg_ℤ (pos 1)) || is_some (object_at w c.args.parent))) invalid_argument
    (λ w. wants (may w c.args.programmer (change_object c.args.object) && may w c.args.programmer (have_child c.args.parent)) permission_denied
    ∷ wants (not (is_below w c.args.object c.args.parent)) recursive_move ∷ [])
    None (rw (object, parent, c.if-not-there.false) at c.in_ok-there.ensures.left)
    (check_passes g.V.View.holds g.V.View.now c.are_there.new.view c.may_both.new.view c.is_below.new.view
    (λ w. may w c.args.programmer (change_object c.args.object) && may w c.args.programmer (have_child c.args.parent)) permission_denied
    (λ w. wants (not (is_below w c.args.object c.args.parent)) recursive_move ∷ [])
    None (rw (object, parent, programmer, c.if-not-allowed.false) at c.in_ok-allowed.ensures.left)
    (last_passes g.V.View.holds g.V.View.now c.may_both.new.view c.is_below.new.view (λ w. not (is_below w c.args.object c.args.parent)) recursive_move
    (turned_told g.V.View.holds g.V.View.now c.may_both.new.view c.is_below.new.view (λ w. is_below w c.args.object c.args.parent) false
    (rw (object, parent, c.if-circular.false) at c.in_ok-circular.ensures.left))))
