use Rattle.std.proofs.Common.{◌≡◌, ℤ, true, false, sym, ap, ◌∙◌, rules, w32}
use Rattle.std.specs.Prelude.{is_none}
use Rattle.std.proofs.lemmas.Int.{to_z-of_z}
use Rattle.spec_world.specs.World.{object_at}
use Rattle.spec_world.specs.Questions.{verbs_at}
use Rattle.spec_moo.specs.Scene.{Scene}
use Rattle.spec_moo.specs.Steps.Programming.{opens, programmable_at}
use Rattle.rules.proofs.Tellings.{told_as, told_on}
use Rattle.player_commands.specs.Openings.{opened, place_among}
use Rattle.player_commands.specs.declared.command_parser.programming.Opening.TheVariants.{NotSeen}
use Rattle.player_commands.proofs.ProgramRules.{not_there, there}
use Rattle.player_commands.proofs.command_parser.programming.open_on.Goals as goal

pub returns-then-is_none-clause-left : goal.returns-then-is_none-clause-left
returns-then-is_none-clause-left g c =
    let player = to_z-of_z w32 c.args.player c.ranges.player in
    let object = to_z-of_z w32 c.args.object c.ranges.object in
    let none : is_none c.in_ok-verbs.verbs ≡ true = search rules in
    told_as g.V.View.holds g.V.View.now c.args.view.now c.read_verbs.new.view (λ w. verbs_at w c.args.object ≡ c.in_ok-verbs.verbs)
    (λ w. (s : Scene) (n : ℤ) → s.world ≡ w → opens s n c.args.player c.args.object c.args.name (object_at w c.args.object) ≡ opened s n c.args.player NotSeen)
    c.requires.well_formed (rw object at c.in_ok-verbs.ensures.left)
    (λ w sound is s n same. not_there w s n c.args.player c.args.object c.in_ok-verbs.verbs c.args.name is none)

pub returns-clause-left : goal.returns-clause-left
returns-clause-left g c =
    let player = to_z-of_z w32 c.args.player c.ranges.player in
    let object = to_z-of_z w32 c.args.object c.ranges.object in
    let some : is_none c.in_ok-verbs.verbs ≡ false = search rules in
    told_on g.V.View.holds g.V.View.now c.args.view.now c.read_verbs.new.view c.allowed_at.new.view (λ w. verbs_at w c.args.object ≡ c.in_ok-verbs.verbs)
    (λ w. programmable_at w c.args.player c.args.object (place_among c.in_ok-verbs.verbs c.args.name) ≡ c.in_ok-allowed.allowed)
    (λ w. (s : Scene) (n : ℤ) → s.world ≡ w → opens s n c.args.player c.args.object c.args.name (object_at w c.args.object) ≡ opened s n c.args.player c.begun.result)
    c.requires.well_formed (rw object at c.in_ok-verbs.ensures.left) (rw (player, object, c.own_place-place.ensures, c.as_str.ensures) at c.in_ok-allowed.ensures.left)
    (λ w sound is so s n same. there w s n c.args.player c.args.object c.in_ok-verbs.verbs c.args.name c.in_ok-allowed.allowed same is some so
    ∙ ap (opened s n c.args.player) (sym (rw object at c.begun.ensures)))
