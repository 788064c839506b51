use Rattle.std.proofs.Common.{◌≡◌, sym, ◌∙◌, subst, w32}
use Rattle.std.specs.Prelude.{option_map}
use Rattle.std.proofs.lemmas.Int.{to_z-of_z}
use Rattle.spec_world.specs.VerbsSought.{Named, find_command_verb}
use Rattle.spec_world.specs.CommandLines.{meant_on}
use Rattle.view.specs.Law.{Tells}
use Rattle.rules.proofs.Tellings.{told_as}
use Rattle.player_commands.specs.Meanings.{named_of, meant_of}
use Rattle.player_commands.proofs.VerbRules.{found_on}
use Rattle.player_commands.proofs.command_parser.sought.meant_on.Goals as goal

pub returns-clause-left : goal.returns-clause-left
returns-clause-left g c =
    let object = to_z-of_z w32 c.args.object c.ranges.object in
    let told =
    subst (λ (n : Named). Tells g.V.View.holds g.V.View.now c.args.view.now c.find_command_verb.new.view (λ w. find_command_verb w c.args.object c.as_str.result.now n ≡ c.in_ok-verb.verb))
    c.named-wanted.ensures (rw object at c.in_ok-verb.ensures.left) in
    told_as g.V.View.holds g.V.View.now c.args.view.now c.find_command_verb.new.view
    (λ w. find_command_verb w c.args.object c.args.said.now.parts.verb (named_of c.args.said.now) ≡ c.in_ok-verb.verb)
    (λ w. meant_on w c.args.said.now.parts.verb (named_of c.args.said.now) c.args.object ≡ option_map meant_of c.on.result)
    c.requires.well_formed (rw c.as_str.ensures at told)
    (λ w sound is. found_on w c.args.said.now.parts.verb (named_of c.args.said.now) c.args.object c.in_ok-verb.verb is ∙ sym (rw object at c.on.ensures))
