use Rattle.std.proofs.Common.{◌≡◌, None, ap, sym, refl, subst, w32, to_z, of_z, rules}
use Rattle.std.proofs.lemmas.Int.{to_z-of_z}
use Rattle.spec_world.specs.World.{World, Link}
use Rattle.spec_world.specs.Links.{open_link}
use Rattle.spec_moo.specs.Steps.Events.{foreground_ticks}
use Rattle.spec_moo.specs.Steps.Programming.{ends, ends_at, programmable}
use Rattle.moo_task.specs.Deeds.{scene_of}
use Rattle.steps.proofs.StepsPlaying.{ready_agrees, plays_then, plays_changed, told_still}
use Rattle.steps.specs.Codes.{HasVerbAt}
use Rattle.steps.proofs.Relinks.{link_ranged, written_goes}
use Rattle.steps.proofs.Codings.{may_be_programmed, still_has}
use Rattle.steps.specs.StepsPerformed.{came_to_of}
use Rattle.steps.proofs.step_links.coding.end.Goals as goal

pub programmable-requires-clause-well_formed : goal.programmable-requires-clause-well_formed
programmable-requires-clause-well_formed g c = ready_agrees g.V.View.holds g.V.View.now c.args.view.now c.args.deeds.now c.requires.ready

pub end_at-requires-clause-there : goal.end_at-requires-clause-there
end_at-requires-clause-there g c w h =
    let view = g.V.View in
    let home = view.home c.args.view.now in
    let connection = to_z-of_z w32 c.args.connection c.ranges.connection in
    let ranged = link_ranged (scene_of c.args.deeds.now (view.now c.args.view.now home) foreground_ticks) c.args.connection c.args.link.now (c.requires.ready home c.requires.home foreground_ticks) (c.requires.link home c.requires.home) in
    let person : to_z w32 (of_z w32 c.link.inside.person) ≡ c.args.link.now.person = search rules in
    let object : to_z w32 (of_z w32 c.programming.inside.object) ≡ c.args.programming.now.object = search rules in
    let verb : c.programming.inside.verb ≡ c.args.programming.now.verb = search rules in
    let p = c.args.programming.now in
    let k : Link = record { person = c.args.link.now.person; programming = None } in
    let made = rw connection at c.in_ok-write_link.ensures.left in
    let opened = written_goes view.holds view.now c.programmable.new.view c.write_link.new.view c.args.connection _ k ranged (search rules) made w h in
    let told = told_still view.holds view.now c.args.view.now c.programmable.new.view (λ w. programmable w c.args.link.now.person p.object p.verb ≡ c.in_ok-place.place) (rw (person, object, c.as_str.ensures, verb) at c.in_ok-place.ensures.left) w opened.0 in
    subst (λ (x : World). HasVerbAt x p.object c.in_ok-place.place) (sym opened.1)
    (still_has (view.now c.programmable.new.view w) c.args.connection p.object k c.in_ok-place.place (may_be_programmed (view.now c.programmable.new.view w) c.args.link.now.person p.object p.verb c.in_ok-place.place told))

pub returns-clause-played : goal.returns-clause-played
returns-clause-played g c =
    let view = g.V.View in
    let home = view.home c.args.view.now in
    let connection = to_z-of_z w32 c.args.connection c.ranges.connection in
    let ranged = link_ranged (scene_of c.args.deeds.now (view.now c.args.view.now home) foreground_ticks) c.args.connection c.args.link.now (c.requires.ready home c.requires.home foreground_ticks) (c.requires.link home c.requires.home) in
    let person : to_z w32 (of_z w32 c.link.inside.person) ≡ c.args.link.now.person = search rules in
    let object : to_z w32 (of_z w32 c.programming.inside.object) ≡ c.args.programming.now.object = search rules in
    let verb : c.programming.inside.verb ≡ c.args.programming.now.verb = search rules in
    let p = c.args.programming.now in
    let k : Link = record { person = c.args.link.now.person; programming = None } in
    let made = rw connection at c.in_ok-write_link.ensures.left in
    let rest = plays_changed view.holds view.now c.programmable.new.view c.write_link.new.view c.end_at.new.view (λ w. open_link w c.args.connection k)
    (λ w. ends_at (scene_of c.args.deeds.now (open_link w c.args.connection k) foreground_ticks) c.args.connection p c.in_ok-place.place)
    (λ w. ends_at (scene_of c.args.deeds.now w foreground_ticks) c.args.connection p c.in_ok-place.place) (came_to_of c.end_at.new.deeds c.in_ok-outcome.outcome)
    (written_goes view.holds view.now c.programmable.new.view c.write_link.new.view c.args.connection _ k ranged (search rules) made)
    (rw connection at c.in_ok-outcome.ensures.played) (λ w. refl) in
    plays_then view.holds view.now c.args.view.now c.programmable.new.view c.end_at.new.view (λ w. programmable w c.args.link.now.person p.object p.verb ≡ c.in_ok-place.place)
    (λ w. ends (scene_of c.args.deeds.now w foreground_ticks) c.args.connection c.args.link.now p)
    (λ w. ends_at (scene_of c.args.deeds.now (open_link w c.args.connection k) foreground_ticks) c.args.connection p c.in_ok-place.place) (came_to_of c.end_at.new.deeds c.in_ok-outcome.outcome)
    (rw (person, object, c.as_str.ensures, verb) at c.in_ok-place.ensures.left) rest
    (λ w is. ap (ends_at (scene_of c.args.deeds.now (open_link w c.args.connection k) foreground_ticks) c.args.connection p) is)
