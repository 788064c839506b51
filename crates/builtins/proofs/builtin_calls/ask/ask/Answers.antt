use Rattle.std.proofs.Common.{◌≡◌, rules, w32, to_z, of_z}
use Rattle.moo_value.specs.Answers.{answer_of}
use Rattle.builtins_view.specs.declared.builtin_requests.asking.Asking.TheVariants.{Valid, IsPlayer, Parent, Children, MaxObject, Players, ConnectedPlayers}
use Rattle.builtins.proofs.Requested.{told_anyone}
use Rattle.builtins.proofs.builtin_calls.ask.ask.Goals as goal

pub returns-in_ok-valid-in-Valid-clause-left : goal.returns-in_ok-valid-in-Valid-clause-left
returns-in_ok-valid-in-Valid-clause-left g c =
    let object : to_z w32 (of_z w32 c.in-Valid.object) ≡ c.in-Valid.object = search rules in
    told_anyone g.V.View.holds g.V.View.now c.args.view.now c.valid.new.view c.args.programmer (answer_of c.in_ok-valid-in-Valid.field-0) c.args.asking (Valid c.in-Valid.object) c.in-Valid.is (rw object at c.in_ok-valid-in-Valid.ensures.left)

pub returns-in_ok-is_player-in-IsPlayer-clause-left : goal.returns-in_ok-is_player-in-IsPlayer-clause-left
returns-in_ok-is_player-in-IsPlayer-clause-left g c =
    let object : to_z w32 (of_z w32 c.in-IsPlayer.object) ≡ c.in-IsPlayer.object = search rules in
    told_anyone g.V.View.holds g.V.View.now c.args.view.now c.is_player.new.view c.args.programmer (answer_of c.in_ok-is_player-in-IsPlayer.field-0) c.args.asking (IsPlayer c.in-IsPlayer.object) c.in-IsPlayer.is (rw object at c.in_ok-is_player-in-IsPlayer.ensures.left)

pub returns-in_ok-parent-in-Parent-clause-left : goal.returns-in_ok-parent-in-Parent-clause-left
returns-in_ok-parent-in-Parent-clause-left g c =
    let object : to_z w32 (of_z w32 c.in-Parent.object) ≡ c.in-Parent.object = search rules in
    told_anyone g.V.View.holds g.V.View.now c.args.view.now c.parent.new.view c.args.programmer (answer_of c.in_ok-parent-in-Parent.field-0) c.args.asking (Parent c.in-Parent.object) c.in-Parent.is (rw object at c.in_ok-parent-in-Parent.ensures.left)

pub returns-in_ok-children-in-Children-clause-left : goal.returns-in_ok-children-in-Children-clause-left
returns-in_ok-children-in-Children-clause-left g c =
    let object : to_z w32 (of_z w32 c.in-Children.object) ≡ c.in-Children.object = search rules in
    told_anyone g.V.View.holds g.V.View.now c.args.view.now c.children.new.view c.args.programmer (answer_of c.in_ok-children-in-Children.field-0) c.args.asking (Children c.in-Children.object) c.in-Children.is (rw object at c.in_ok-children-in-Children.ensures.left)

pub returns-in_ok-max_object-in-MaxObject-clause-left : goal.returns-in_ok-max_object-in-MaxObject-clause-left
returns-in_ok-max_object-in-MaxObject-clause-left g c =
    told_anyone g.V.View.holds g.V.View.now c.args.view.now c.max_object.new.view c.args.programmer (answer_of c.in_ok-max_object-in-MaxObject.field-0) c.args.asking MaxObject c.in-MaxObject.is c.in_ok-max_object-in-MaxObject.ensures.left

pub returns-in_ok-players-in-Players-clause-left : goal.returns-in_ok-players-in-Players-clause-left
returns-in_ok-players-in-Players-clause-left g c =
    told_anyone g.V.View.holds g.V.View.now c.args.view.now c.players.new.view c.args.programmer (answer_of c.in_ok-players-in-Players.field-0) c.args.asking Players c.in-Players.is c.in_ok-players-in-Players.ensures.left

pub returns-in_ok-connected_players-in-ConnectedPlayers-clause-left : goal.returns-in_ok-connected_players-in-ConnectedPlayers-clause-left
returns-in_ok-connected_players-in-ConnectedPlayers-clause-left g c =
    told_anyone g.V.View.holds g.V.View.now c.args.view.now c.connected_players.new.view c.args.programmer (answer_of c.in_ok-connected_players-in-ConnectedPlayers.field-0) c.args.asking ConnectedPlayers c.in-ConnectedPlayers.is c.in_ok-connected_players-in-ConnectedPlayers.ensures.left
