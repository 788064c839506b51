use Rattle.std.proofs.Common.{◌≡◌, [], ◌∷◌, w32}
use Rattle.std.proofs.lemmas.Int.{to_z-of_z}
use Rattle.spec_value.specs.Datum.{object}
use Rattle.builtins.proofs.builtins_staged.moving.accept.Goals as goal

pub returns-clause-left : goal.returns-clause-left
returns-clause-left g c =
    let what = to_z-of_z w32 c.args.what c.ranges.what in
    let place = to_z-of_z w32 c.args.place c.ranges.place in
    let arguments : c.in_ok-arguments.arguments.items ≡ object c.args.what ∷ object c.args.place ∷ [] = rw (what, place) at c.in_ok-arguments.ensures in
    let given : c.in_ok-given.given.items ≡ object c.args.what ∷ [] = rw what at c.in_ok-given.ensures in
    rw (place, arguments, given, c.in_ok-word.ensures) at c.in_ok-begun.ensures.left
