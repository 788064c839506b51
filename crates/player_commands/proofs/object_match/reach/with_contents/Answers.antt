use Rattle.std.proofs.Common.{◌≡◌, Some, w32}
use Rattle.std.proofs.lemmas.Int.{to_z-of_z}
use Rattle.spec_world.specs.World.{object_at}
use Rattle.spec_world.specs.Questions.{contents_at}
use Rattle.spec_world.specs.Naming.{contents_of}
use Rattle.rules.proofs.Tellings.{known_on, told_on}
use Rattle.player_commands.specs.Fits.{with_objects}
use Rattle.player_commands.proofs.NamingRules.{each_within}
use Rattle.player_commands.proofs.object_match.reach.with_contents.Goals as goal

pub with_each-requires-clause-well_formed : goal.with_each-requires-clause-well_formed
with_each-requires-clause-well_formed g c =
    let holder = to_z-of_z w32 c.args.holder c.ranges.holder in
    known_on g.V.View.holds g.V.View.now c.args.view.now c.read_contents.new.view (λ w. contents_at w c.args.holder ≡ c.in_ok-contents.contents) c.requires.well_formed (rw holder at c.in_ok-contents.ensures.left)

pub returns-clause-left : goal.returns-clause-left
returns-clause-left g c =
    let holder = to_z-of_z w32 c.args.holder c.ranges.holder in
    told_on g.V.View.holds g.V.View.now c.args.view.now c.read_contents.new.view c.with_each.new.view (λ w. contents_at w c.args.holder ≡ Some c.in-Some.contents)
    (λ w. with_objects w c.args.text.now c.args.matches c.in-Some.contents ≡ c.in_ok-found.found)
    (λ w. with_objects w c.args.text.now c.args.matches (contents_of (object_at w c.args.holder)) ≡ c.in_ok-found.found)
    c.requires.well_formed (rw (holder, c.in-Some.is) at c.in_ok-contents.ensures.left) (rw c.as_slice.ensures at c.in_ok-found.ensures.left)
    (λ w sound is so. each_within w c.args.holder c.args.text.now c.args.matches c.in_ok-found.found c.in-Some.contents is so)
