use Rattle.std.proofs.Common.{◌≡◌, Some, None, rules, w32, to_z, of_z}
use Rattle.std.specs.Prelude.{option_map, Option}
use Rattle.std.proofs.lemmas.Int.{to_z-of_z}
use Rattle.spec_world.specs.World.{object_at}
use Rattle.spec_world.specs.Naming.{location_of}
use Rattle.spec_world.specs.CommandLines.{meant_on}
use Rattle.view.specs.Law.{Tells}
use Rattle.rules.proofs.Tellings.{if_ok_as, told_on}
use Rattle.player_commands.specs.Meanings.{named_of, meant_of, meant_by_objects, meant_in_room}
use Rattle.player_commands.specs.declared.command_parser.command.Meant.{Meant}
use Rattle.player_commands.proofs.VerbRules.{by_room, beyond_room}
use Rattle.player_commands.proofs.command_parser.sought.in_room.Goals as goal

pub returns-in-Some-clause-left : goal.returns-in-Some-clause-left
returns-in-Some-clause-left g c =
    let player = to_z-of_z w32 c.args.player c.ranges.player in
    let room : to_z w32 (of_z w32 c.in_ok-room.room) ≡ c.in_ok-room.room = search rules in
    told_on g.V.View.holds g.V.View.now c.args.view.now c.location.new.view c.meant_on.new.view (λ w. location_of (object_at w c.args.player) ≡ c.in_ok-room.room)
    (λ w. meant_on w c.args.said.now.parts.verb (named_of c.args.said.now) c.in_ok-room.room ≡ Some (meant_of c.in-Some.meant))
    (λ w. meant_in_room w c.args.player c.args.said.now.parts.verb (named_of c.args.said.now) ≡ Some (meant_of c.in-Some.meant))
    c.requires.well_formed (rw player at c.in_ok-room.ensures.left) (rw (room, c.in-Some.is) at c.in_ok-meant.ensures.left)
    (λ w sound there is. by_room w c.args.player c.in_ok-room.room c.args.said.now.parts.verb (named_of c.args.said.now) (meant_of c.in-Some.meant) there is)

pub returns-clause-left : goal.returns-clause-left
returns-clause-left g c =
    let player = to_z-of_z w32 c.args.player c.ranges.player in
    let room : to_z w32 (of_z w32 c.in_ok-room.room) ≡ c.in_ok-room.room = search rules in
    let none : c.in_ok-meant.field-0 ≡ None = search rules in
    if_ok_as
    (λ (m : Option Meant). Tells g.V.View.holds g.V.View.now c.meant_on.new.view c.by_objects.new.view
    (λ w. meant_by_objects w c.args.said.now.parts.verb (named_of c.args.said.now) ≡ option_map meant_of m))
    (λ (m : Option Meant). Tells g.V.View.holds g.V.View.now c.args.view.now c.by_objects.new.view
    (λ w. meant_in_room w c.args.player c.args.said.now.parts.verb (named_of c.args.said.now) ≡ option_map meant_of m))
    (λ m told. told_on g.V.View.holds g.V.View.now c.args.view.now c.meant_on.new.view c.by_objects.new.view
    (λ w. (location_of (object_at w c.args.player) ≡ c.in_ok-room.room) × (meant_on w c.args.said.now.parts.verb (named_of c.args.said.now) c.in_ok-room.room ≡ None))
    (λ w. meant_by_objects w c.args.said.now.parts.verb (named_of c.args.said.now) ≡ option_map meant_of m)
    (λ w. meant_in_room w c.args.player c.args.said.now.parts.verb (named_of c.args.said.now) ≡ option_map meant_of m)
    c.requires.well_formed
    (told_on g.V.View.holds g.V.View.now c.args.view.now c.location.new.view c.meant_on.new.view (λ w. location_of (object_at w c.args.player) ≡ c.in_ok-room.room)
    (λ w. meant_on w c.args.said.now.parts.verb (named_of c.args.said.now) c.in_ok-room.room ≡ None)
    (λ w. (location_of (object_at w c.args.player) ≡ c.in_ok-room.room) × (meant_on w c.args.said.now.parts.verb (named_of c.args.said.now) c.in_ok-room.room ≡ None))
    c.requires.well_formed (rw player at c.in_ok-room.ensures.left) (rw (room, none) at c.in_ok-meant.ensures.left) (λ w sound there no_room. (there, no_room)))
    told
    (λ w sound before is. beyond_room w c.args.player c.in_ok-room.room c.args.said.now.parts.verb (named_of c.args.said.now) (option_map meant_of m) before.0 before.1 is))
    c.by_objects.result c.by_objects.ensures.left
