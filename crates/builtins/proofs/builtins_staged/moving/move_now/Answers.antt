use Rattle.std.proofs.Common.{◌≡◌, true, false, sym, ap, ◌∙◌, subst, rules, w32, to_z, of_z}
use Rattle.std.specs.Ordering.{int_eq}
use Rattle.std.proofs.lemmas.Int.{to_z-of_z}
use Rattle.spec_value.proofs.Same.{integer_itself}
use Rattle.spec_world.specs.World.{object_at}
use Rattle.spec_world.specs.Naming.{location_of}
use Rattle.spec_moo.specs.Natives.Objects.{gone_over}
use Rattle.rules.proofs.Tellings.{known_on, stays_known}
use Rattle.builtins.proofs.Parents.{unlike}
use Rattle.builtins.specs.Led.{Leads}
use Rattle.builtins.specs.Moves.{MayMove}
use Rattle.builtins.proofs.Leading.{told_then}
use Rattle.builtins.proofs.Telling.{stays_led, goes_led}
use Rattle.builtins.proofs.builtins_staged.moving.move_now.Goals as goal

pub returns-then-before-place-clause-left : goal.returns-then-before-place-clause-left
returns-then-before-place-clause-left g c =
    let what = to_z-of_z w32 c.args.what c.ranges.what in
    let place = to_z-of_z w32 c.args.place c.ranges.place in
    let before : to_z w32 (of_z w32 c.in_ok-before.before) ≡ c.in_ok-before.before = search rules in
    let same : c.in_ok-before.before ≡ c.args.place = sym before ∙ ap (to_z w32) c.if-before-place.true ∙ place in
    let here : int_eq c.in_ok-before.before c.args.place ≡ true = subst (λ z. int_eq c.in_ok-before.before z ≡ true) same (integer_itself c.in_ok-before.before) in
    stays_led g.V.View.holds g.V.View.now c.args.call.now c.args.what c.args.place c.args.view.now c.location.new.view c.in_ok-before.before c.integer.result c.integer.ensures here
    c.requires.may_move (rw what at c.in_ok-before.ensures.left)

pub returns-then-before-place-clause-well_formed : goal.returns-then-before-place-clause-well_formed
returns-then-before-place-clause-well_formed g c =
    let what = to_z-of_z w32 c.args.what c.ranges.what in
    known_on g.V.View.holds g.V.View.now c.args.view.now c.location.new.view (λ w. location_of (object_at w c.args.what) ≡ c.in_ok-before.before) c.requires.well_formed (rw what at c.in_ok-before.ensures.left)

pub go_over-requires-clause-well_formed : goal.go_over-requires-clause-well_formed
go_over-requires-clause-well_formed g c =
    let what = to_z-of_z w32 c.args.what c.ranges.what in
    known_on g.V.View.holds g.V.View.now c.args.view.now c.location.new.view (λ w. location_of (object_at w c.args.what) ≡ c.in_ok-before.before) c.requires.well_formed (rw what at c.in_ok-before.ensures.left)

pub go_over-requires-clause-may_move : goal.go_over-requires-clause-may_move
go_over-requires-clause-may_move g c =
    let what = to_z-of_z w32 c.args.what c.ranges.what in
    let place = to_z-of_z w32 c.args.place c.ranges.place in
    rw (what, place) (stays_known g.V.View.holds g.V.View.now (λ w. MayMove w c.args.what c.args.place) c.args.view.now c.location.new.view (λ w. location_of (object_at w c.args.what) ≡ c.in_ok-before.before) c.requires.may_move (rw what at c.in_ok-before.ensures.left))

pub go_over-requires-clause-location : goal.go_over-requires-clause-location
go_over-requires-clause-location g c =
    let what = to_z-of_z w32 c.args.what c.ranges.what in
    let before : to_z w32 (of_z w32 c.in_ok-before.before) ≡ c.in_ok-before.before = search rules in
    rw (what, before) (told_then g.V.View.holds g.V.View.now c.args.view.now c.location.new.view (λ w. location_of (object_at w c.args.what) ≡ c.in_ok-before.before) (rw what at c.in_ok-before.ensures.left))

pub returns-clause-left : goal.returns-clause-left
returns-clause-left g c =
    let what = to_z-of_z w32 c.args.what c.ranges.what in
    let place = to_z-of_z w32 c.args.place c.ranges.place in
    let before : to_z w32 (of_z w32 c.in_ok-before.before) ≡ c.in_ok-before.before = search rules in
    let apart : int_eq c.in_ok-before.before c.args.place ≡ false = unlike c.in_ok-before.before c.args.place (λ e. c.if-before-place.false (ap (of_z w32) e)) in
    goes_led g.V.View.holds g.V.View.now c.args.call.now c.args.what c.args.place c.args.view.now c.location.new.view c.go_over.new.view c.tell_left.new.view c.in_ok-before.before c.in_ok-effect.effect apart
    c.requires.may_move (rw what at c.in_ok-before.ensures.left) (rw (what, place) at c.in_ok-go_over.ensures.left) (rw (what, place, before) at c.in_ok-effect.ensures.left)

pub returns-clause-well_formed : goal.returns-clause-well_formed
returns-clause-well_formed g c =
    let what = to_z-of_z w32 c.args.what c.ranges.what in
    let place = to_z-of_z w32 c.args.place c.ranges.place in
    let before : to_z w32 (of_z w32 c.in_ok-before.before) ≡ c.in_ok-before.before = search rules in
    known_on g.V.View.holds g.V.View.now c.go_over.new.view c.tell_left.new.view (λ w. Leads (λ s x. gone_over s x c.args.what c.args.place c.in_ok-before.before) w w c.args.call.now c.in_ok-effect.effect)
    c.in_ok-go_over.ensures.well_formed (rw (what, place, before) at c.in_ok-effect.ensures.left)
