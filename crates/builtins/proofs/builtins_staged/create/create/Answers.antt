use Rattle.std.proofs.Common.{◌≡◌, ◌||◌, true, false, is_some, refl, ap, ◌∙◌, rules, w32, to_z, of_z}
use Rattle.std.specs.Ordering.{int_eq}
use Rattle.std.proofs.lemmas.Int.{to_z-of_z}
use Rattle.spec_world.specs.World.{Call, object_at}
use Rattle.spec_world.specs.Families.{nowhere}
use Rattle.rules.proofs.Tellings.{known_on}
use Rattle.builtins.proofs.BuiltinsObjectsRowsKeep.{place_of}
use Rattle.builtins.proofs.Leading.{told_then}
use Rattle.builtins.proofs.Creating.{absent_led, present_led}
use Rattle.builtins.proofs.builtins_staged.create.create.Goals as goal

pub returns-then-not-there-clause-left : goal.returns-then-not-there-clause-left
returns-then-not-there-clause-left g c =
    let parent = to_z-of_z w32 c.args.parent c.ranges.parent in
    absent_led g.V.View.holds g.V.View.now c.args.call.now c.args.parent c.args.view.now c.is_place.new.view (rw (parent, c.if-not-there.true) at c.in_ok-there.ensures.left)

pub returns-then-not-there-clause-well_formed : goal.returns-then-not-there-clause-well_formed
returns-then-not-there-clause-well_formed g c =
    let parent = to_z-of_z w32 c.args.parent c.ranges.parent in
    known_on g.V.View.holds g.V.View.now c.args.view.now c.is_place.new.view (λ w. (int_eq c.args.parent nowhere || is_some (object_at w c.args.parent)) ≡ false) c.requires.well_formed (rw (parent, c.if-not-there.true) at c.in_ok-there.ensures.left)

pub create_allowed-requires-clause-well_formed : goal.create_allowed-requires-clause-well_formed
create_allowed-requires-clause-well_formed g c =
    let parent = to_z-of_z w32 c.args.parent c.ranges.parent in
    known_on g.V.View.holds g.V.View.now c.args.view.now c.is_place.new.view (λ w. (int_eq c.args.parent nowhere || is_some (object_at w c.args.parent)) ≡ true) c.requires.well_formed (rw (parent, c.if-not-there.false) at c.in_ok-there.ensures.left)

pub create_allowed-requires-clause-place : goal.create_allowed-requires-clause-place
create_allowed-requires-clause-place g c =
    let parent = to_z-of_z w32 c.args.parent c.ranges.parent in
    rw parent (λ w left. place_of (g.V.View.now c.is_place.new.view w) c.args.parent
    (told_then g.V.View.holds g.V.View.now c.args.view.now c.is_place.new.view (λ u. (int_eq c.args.parent nowhere || is_some (object_at u c.args.parent)) ≡ true) (rw (parent, c.if-not-there.false) at c.in_ok-there.ensures.left) w left))

pub returns-clause-left : goal.returns-clause-left
returns-clause-left g c =
    let parent = to_z-of_z w32 c.args.parent c.ranges.parent in
    let within : to_z w32 (of_z w32 c.call.inside.programmer) ≡ c.call.inside.programmer = search rules in
    let programmer : to_z w32 (of_z w32 c.call.inside.programmer) ≡ (c.args.call.now).programmer = within ∙ ap (λ (k : Call). k.programmer) c.call.view_is in
    present_led g.V.View.holds g.V.View.now c.args.call.now c.args.parent (c.args.call.now).programmer c.in_ok-arguments.arguments.items c.args.view.now c.is_place.new.view c.create_allowed.new.view c.in_ok-effect.effect
    refl (rw parent at c.in_ok-arguments.ensures)
    (rw (parent, c.if-not-there.false) at c.in_ok-there.ensures.left) (rw (parent, programmer) at c.in_ok-effect.ensures.left)
