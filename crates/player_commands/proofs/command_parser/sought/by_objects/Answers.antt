use Rattle.std.proofs.Common.{◌≡◌, Some, None, rules, w32, to_z, of_z}
use Rattle.std.specs.Prelude.{option_map}
use Rattle.spec_world.specs.CommandLines.{meant_on}
use Rattle.view.specs.Law.{Tells}
use Rattle.rules.proofs.Tellings.{if_ok_as, told_as, told_on}
use Rattle.player_commands.specs.Meanings.{named_of, meant_of, meant_by_objects}
use Rattle.player_commands.proofs.VerbRules.{by_direct, by_indirect}
use Rattle.player_commands.specs.declared.command_parser.command.Meant.{Meant}
use Rattle.std.specs.Prelude.{Option}
use Rattle.player_commands.proofs.command_parser.sought.by_objects.Goals as goal

pub returns-in-Some-clause-left : goal.returns-in-Some-clause-left
returns-in-Some-clause-left g c =
    let direct : to_z w32 (of_z w32 c.args.said.now.direct) ≡ c.args.said.now.direct = search rules in
    told_as g.V.View.holds g.V.View.now c.args.view.now c.meant_on.new.view
    (λ w. meant_on w c.args.said.now.parts.verb (named_of c.args.said.now) c.args.said.now.direct ≡ Some (meant_of c.in-Some.meant))
    (λ w. meant_by_objects w c.args.said.now.parts.verb (named_of c.args.said.now) ≡ Some (meant_of c.in-Some.meant))
    c.requires.well_formed (rw (direct, c.in-Some.is) at c.in_ok-meant.ensures.left)
    (λ w sound is. by_direct w c.args.said.now.parts.verb (named_of c.args.said.now) (meant_of c.in-Some.meant) is)

pub returns-clause-left : goal.returns-clause-left
returns-clause-left g c =
    let direct : to_z w32 (of_z w32 c.args.said.now.direct) ≡ c.args.said.now.direct = search rules in
    let indirect : to_z w32 (of_z w32 c.args.said.now.indirect) ≡ c.args.said.now.indirect = search rules in
    let none : c.in_ok-meant.field-0 ≡ None = search rules in
    if_ok_as
    (λ (m : Option Meant). Tells g.V.View.holds g.V.View.now c.meant_on.new.view c.meant_on-2.new.view
    (λ w. meant_on w c.args.said.now.parts.verb (named_of c.args.said.now) c.args.said.now.indirect ≡ option_map meant_of m))
    (λ (m : Option Meant). Tells g.V.View.holds g.V.View.now c.args.view.now c.meant_on-2.new.view
    (λ w. meant_by_objects w c.args.said.now.parts.verb (named_of c.args.said.now) ≡ option_map meant_of m))
    (λ m told. told_on g.V.View.holds g.V.View.now c.args.view.now c.meant_on.new.view c.meant_on-2.new.view
    (λ w. meant_on w c.args.said.now.parts.verb (named_of c.args.said.now) c.args.said.now.direct ≡ None)
    (λ w. meant_on w c.args.said.now.parts.verb (named_of c.args.said.now) c.args.said.now.indirect ≡ option_map meant_of m)
    (λ w. meant_by_objects w c.args.said.now.parts.verb (named_of c.args.said.now) ≡ option_map meant_of m)
    c.requires.well_formed (rw (direct, none) at c.in_ok-meant.ensures.left) told
    (λ w sound no_direct is. by_indirect w c.args.said.now.parts.verb (named_of c.args.said.now) (option_map meant_of m) no_direct is))
    c.meant_on-2.result (rw indirect at c.meant_on-2.ensures.left)
