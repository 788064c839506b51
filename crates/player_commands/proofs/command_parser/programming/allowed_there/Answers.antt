use Rattle.std.proofs.Common.{false, true, Some, refl, w32}
use Rattle.std.proofs.lemmas.Int.{to_z-of_z}
use Rattle.player_commands.proofs.ProgramRules.{place_if}
use Rattle.player_commands.proofs.command_parser.programming.allowed_there.Goals as goal

pub returns-then-not-allowed-clause-left : goal.returns-then-not-allowed-clause-left
returns-then-not-allowed-clause-left g c =
    let player = to_z-of_z w32 c.args.player c.ranges.player in
    let object = to_z-of_z w32 c.args.object c.ranges.object in
    let told = rw (player, c.programming-act.ensures, object, c.if-not-allowed.true) at c.in_ok-allowed.ensures.left in
    λ w is.
    let t = told w is in
    (t.0, (t.1.0, place_if (g.V.View.now c.args.view.now w) c.args.player c.args.object c.args.place false (Some c.args.place) refl t.1.1))

pub returns-clause-left : goal.returns-clause-left
returns-clause-left g c =
    let player = to_z-of_z w32 c.args.player c.ranges.player in
    let object = to_z-of_z w32 c.args.object c.ranges.object in
    let told = rw (player, c.programming-act.ensures, object, c.if-not-allowed.false) at c.in_ok-allowed.ensures.left in
    λ w is.
    let t = told w is in
    (t.0, (t.1.0, place_if (g.V.View.now c.args.view.now w) c.args.player c.args.object c.args.place true (Some c.args.place) refl t.1.1))
