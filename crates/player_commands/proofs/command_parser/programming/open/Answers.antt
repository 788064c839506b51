use Rattle.std.proofs.Common.{◌≡◌, ℤ, ap, ◌∙◌, w32}
use Rattle.std.proofs.lemmas.Int.{to_z-of_z}
use Rattle.spec_world.specs.CommandLines.{program_verb}
use Rattle.spec_moo.specs.Scene.{Scene}
use Rattle.spec_moo.specs.Steps.Programming.{requested}
use Rattle.view.specs.Law.{Tells}
use Rattle.rules.proofs.Tellings.{if_ok_as, told_as}
use Rattle.player_commands.specs.Meanings.{request_of}
use Rattle.player_commands.specs.Openings.{opened}
use Rattle.player_commands.specs.declared.command_parser.request.Request.{Request}
use Rattle.player_commands.specs.declared.command_parser.programming.Opening.{Opening}
use Rattle.player_commands.proofs.command_parser.programming.open.Goals as goal

pub returns-in-Verb-clause-left : goal.returns-in-Verb-clause-left
returns-in-Verb-clause-left g c =
    let player = to_z-of_z w32 c.args.player c.ranges.player in
    if_ok_as
    (λ (o : Opening). Tells g.V.View.holds g.V.View.now c.args.view.now c.open_named.new.view
    (λ w. (s : Scene) (n : ℤ) → s.world ≡ w → requested s n c.args.player (program_verb c.in-Verb.text c.in-Verb.name) ≡ opened s n c.args.player o))
    (λ (o : Opening). Tells g.V.View.holds g.V.View.now c.args.view.now c.open_named.new.view
    (λ w. (s : Scene) (n : ℤ) → s.world ≡ w → requested s n c.args.player (request_of c.args.request) ≡ opened s n c.args.player o))
    (λ o told. told_as g.V.View.holds g.V.View.now c.args.view.now c.open_named.new.view
    (λ w. (s : Scene) (n : ℤ) → s.world ≡ w → requested s n c.args.player (program_verb c.in-Verb.text c.in-Verb.name) ≡ opened s n c.args.player o)
    (λ w. (s : Scene) (n : ℤ) → s.world ≡ w → requested s n c.args.player (request_of c.args.request) ≡ opened s n c.args.player o)
    c.requires.well_formed told
    (λ w sound so s n same. ap (λ (r : Request). requested s n c.args.player (request_of r)) c.in-Verb.is ∙ so s n same))
    c.open_named.result (rw player at c.open_named.ensures.left)
