use Rattle.builtins.proofs.Linked.{connected_told}
use Rattle.builtins.proofs.builtins_links.players.connected_players.Goals as goal

pub returns-clause-left : goal.returns-clause-left
returns-clause-left g c =
    connected_told g.V.View.holds g.V.View.now c.args.view.now c.read_connected.new.view c.in_ok-players.players c.in_ok-numbers.numbers c.in_ok-items.items.items c.in_ok-value.value
    c.requires.well_formed c.in_ok-players.ensures.left (rw c.as_slice.ensures at c.in_ok-numbers.ensures) c.in_ok-items.ensures c.in_ok-value.ensures
