use Rattle.std.proofs.Common.{◌≡◌, ◌∙◌, pos, arith, w32, to_z}
use Rattle.std.proofs.lemmas.Int.{ints}
use Rattle.builtins_view.proofs.Players.{one_more, no_more}
use Rattle.builtins_view.proofs.builtins_players.listing.among.Goals as goal

pub loop-number-preserved : goal.loop-number-preserved
loop-number-preserved g c =
    let object : to_z w32 c.loop-number.number ≡ pos c.loop-number.number = omega (arith, ints) in
    record {
      anchor = c.in_ok-add_player.ensures.lasts.anchor_stays ∙ c.loop-number.invariant.anchor;
      home = c.in_ok-add_player.ensures.lasts.home_stays ∙ c.loop-number.invariant.home;
      there = c.in_ok-add_player.ensures.lasts.home_is_left;
      left =
          one_more g.V.View.holds g.V.View.now c.args.view.now c.loop-number.view c.add_player.new.view c.loop-number.number c.args.count c.loop-number.players.items c.add_player.new.players.items
          c.loop-number-test.true c.loop-number.invariant.left (rw object at c.in_ok-add_player.ensures.left);
    }

pub returns-clause-left : goal.returns-clause-left
returns-clause-left g c =
    no_more g.V.View.holds g.V.View.now c.args.view.now c.loop-number.view c.loop-number.number c.args.count c.loop-number.players.items c.loop-number-test.false c.loop-number.invariant.left
