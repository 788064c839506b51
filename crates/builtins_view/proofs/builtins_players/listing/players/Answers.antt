use Rattle.std.proofs.Common.{◌≡◌, rules, w32, to_z, of_z}
use Rattle.builtins_view.proofs.Players.{players_told}
use Rattle.builtins_view.proofs.builtins_players.listing.players.Goals as goal

pub returns-clause-left : goal.returns-clause-left
returns-clause-left g c =
    let greatest : to_z w32 (of_z w32 c.in_ok-greatest.greatest) ≡ c.in_ok-greatest.greatest = search rules in
    players_told g.V.View.holds g.V.View.now c.args.view.now c.read_greatest.new.view c.among.new.view c.in_ok-greatest.greatest c.count_of-count.result c.in_ok-players.players.items c.in_ok-items.items.items c.in_ok-value.value
    c.requires.well_formed c.in_ok-greatest.ensures.left (rw greatest at c.count_of-count.ensures.value) c.in_ok-players.ensures.left (rw c.as_slice.ensures.value at c.in_ok-items.ensures) c.in_ok-value.ensures
