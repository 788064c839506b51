use Rattle.std.proofs.Common.{◌≡◌, ◌||◌, ◌&&◌, true, false, is_some, w32}
use Rattle.std.specs.Ordering.{int_eq}
use Rattle.std.proofs.lemmas.Int.{to_z-of_z}
use Rattle.spec_world.specs.World.{object_at}
use Rattle.spec_world.specs.Families.{nowhere}
use Rattle.spec_value.proofs.Entries.{first_holds}
use Rattle.rules.proofs.Tellings.{known_on}
use Rattle.builtins.proofs.BuiltinsObjectsRowsKeep.{place_of}
use Rattle.builtins.proofs.Leading.{told_then}
use Rattle.builtins.proofs.Creating.{none_led, both_led}
use Rattle.builtins.proofs.builtins_staged.create.create_for.Goals as goal

pub returns-then-not-there-clause-left : goal.returns-then-not-there-clause-left
returns-then-not-there-clause-left g c =
    let parent = to_z-of_z w32 c.args.parent c.ranges.parent in
    let owner = to_z-of_z w32 c.args.owner c.ranges.owner in
    none_led g.V.View.holds g.V.View.now c.args.call.now c.args.parent c.args.owner c.args.view.now c.is_place_and_there.new.view (rw (parent, owner, c.if-not-there.true) at c.in_ok-there.ensures.left)

pub returns-then-not-there-clause-well_formed : goal.returns-then-not-there-clause-well_formed
returns-then-not-there-clause-well_formed g c =
    let parent = to_z-of_z w32 c.args.parent c.ranges.parent in
    let owner = to_z-of_z w32 c.args.owner c.ranges.owner in
    known_on g.V.View.holds g.V.View.now c.args.view.now c.is_place_and_there.new.view (λ w. ((int_eq c.args.parent nowhere || is_some (object_at w c.args.parent)) && is_some (object_at w c.args.owner)) ≡ false) c.requires.well_formed (rw (parent, owner, c.if-not-there.true) at c.in_ok-there.ensures.left)

pub create_allowed-requires-clause-well_formed : goal.create_allowed-requires-clause-well_formed
create_allowed-requires-clause-well_formed g c =
    let parent = to_z-of_z w32 c.args.parent c.ranges.parent in
    let owner = to_z-of_z w32 c.args.owner c.ranges.owner in
    known_on g.V.View.holds g.V.View.now c.args.view.now c.is_place_and_there.new.view (λ w. ((int_eq c.args.parent nowhere || is_some (object_at w c.args.parent)) && is_some (object_at w c.args.owner)) ≡ true) c.requires.well_formed (rw (parent, owner, c.if-not-there.false) at c.in_ok-there.ensures.left)

pub create_allowed-requires-clause-place : goal.create_allowed-requires-clause-place
create_allowed-requires-clause-place g c =
    let parent = to_z-of_z w32 c.args.parent c.ranges.parent in
    let owner = to_z-of_z w32 c.args.owner c.ranges.owner in
    rw parent (λ w left. place_of (g.V.View.now c.is_place_and_there.new.view w) c.args.parent
    (first_holds _ _ (told_then g.V.View.holds g.V.View.now c.args.view.now c.is_place_and_there.new.view (λ u. ((int_eq c.args.parent nowhere || is_some (object_at u c.args.parent)) && is_some (object_at u c.args.owner)) ≡ true) (rw (parent, owner, c.if-not-there.false) at c.in_ok-there.ensures.left) w left)))

pub returns-clause-left : goal.returns-clause-left
returns-clause-left g c =
    let parent = to_z-of_z w32 c.args.parent c.ranges.parent in
    let owner = to_z-of_z w32 c.args.owner c.ranges.owner in
    both_led g.V.View.holds g.V.View.now c.args.call.now c.args.parent c.args.owner c.in_ok-arguments.arguments.items c.args.view.now c.is_place_and_there.new.view c.create_allowed.new.view c.in_ok-effect.effect
    (rw (parent, owner) at c.in_ok-arguments.ensures)
    (rw (parent, owner, c.if-not-there.false) at c.in_ok-there.ensures.left) (rw (parent, owner) at c.in_ok-effect.ensures.left)
