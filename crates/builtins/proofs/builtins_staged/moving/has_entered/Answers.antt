use Rattle.std.proofs.Common.{◌≡◌, true, false, ◌&&◌, is_some, sym, ◌∙◌, w32}
use Rattle.std.specs.Ordering.{int_eq}
use Rattle.std.proofs.lemmas.Int.{to_z-of_z}
use Rattle.spec_world.specs.World.{object_at}
use Rattle.spec_world.specs.Naming.{location_of}
use Rattle.builtins.proofs.BuiltinsObjectsChains.{first_fails, second_decides}
use Rattle.builtins.specs.Moves.{is_in}
use Rattle.builtins.proofs.Telling.{in_told}
use Rattle.builtins.proofs.builtins_staged.moving.has_entered.Goals as goal

pub returns-then-not-is_in-clause-left : goal.returns-then-not-is_in-clause-left
returns-then-not-is_in-clause-left g c =
    let what = to_z-of_z w32 c.args.what c.ranges.what in
    let place = to_z-of_z w32 c.args.place c.ranges.place in
    let told = in_told g.V.View.holds g.V.View.now c.args.what c.args.place c.args.view.now c.read_header.new.view c.in_ok-header.header (rw what at c.in_ok-header.ensures.left) in
    let found : is_in c.in_ok-header.header c.args.place ≡ false = sym (rw place at c.is_in.ensures) ∙ c.if-not-is_in.true in
    first_fails g.V.View.holds g.V.View.now c.args.view.now c.read_header.new.view (λ w. is_some (object_at w c.args.what) && int_eq (location_of (object_at w c.args.what)) c.args.place) (λ w. is_some (object_at w c.args.place)) (rw found at told)

pub returns-clause-left : goal.returns-clause-left
returns-clause-left g c =
    let what = to_z-of_z w32 c.args.what c.ranges.what in
    let place = to_z-of_z w32 c.args.place c.ranges.place in
    let told = in_told g.V.View.holds g.V.View.now c.args.what c.args.place c.args.view.now c.read_header.new.view c.in_ok-header.header (rw what at c.in_ok-header.ensures.left) in
    let found : is_in c.in_ok-header.header c.args.place ≡ true = sym (rw place at c.is_in.ensures) ∙ c.if-not-is_in.false in
    second_decides g.V.View.holds g.V.View.now c.args.view.now c.read_header.new.view c.is_there.new.view (λ w. is_some (object_at w c.args.what) && int_eq (location_of (object_at w c.args.what)) c.args.place) (λ w. is_some (object_at w c.args.place)) c.is_there.result (rw found at told)
    (rw place at c.is_there.ensures.left)
