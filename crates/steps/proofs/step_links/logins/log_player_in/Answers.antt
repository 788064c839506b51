use Rattle.std.proofs.Common.{w32}
use Rattle.std.proofs.lemmas.Int.{to_z-of_z}
use Rattle.steps.proofs.Accepted.{greeted_after}
use Rattle.steps.proofs.step_links.logins.log_player_in.Goals as goal

pub returns-clause-left : goal.returns-clause-left
returns-clause-left g c =
    let connection = to_z-of_z w32 c.args.connection c.ranges.connection in
    let player = to_z-of_z w32 c.args.player c.ranges.player in
    greeted_after g.V.View.holds g.V.View.now c.args.view.now c.relink.new.view c.greet.new.view c.args.deeds.now c.relink.new.deeds c.greet.new.deeds c.args.connection c.args.player c.greet.result
    (rw (connection, player) at c.in_ok-relink.ensures.left) (rw player at c.greet.ensures.left)
