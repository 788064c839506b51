use Rattle.std.proofs.Common.{◌≡◌, sym, ap, ◌∙◌, codes, w32}
use Rattle.std.proofs.lemmas.Int.{to_z-of_z}
use Rattle.spec_world.specs.Inherit.{property_value}
use Rattle.spec_world.specs.Questions.{header_at}
use Rattle.spec_world.specs.Naming.{aliases_in}
use Rattle.rules.proofs.Tellings.{known_on, told_as, told_on}
use Rattle.player_commands.specs.Fits.{some_fit, either_fit, named_in, object_fit}
use Rattle.player_commands.specs.declared.object_match.fit.Fit.{Fit}
use Rattle.player_commands.proofs.NamingRules.{object_fits, name_fits}
use Rattle.player_commands.proofs.object_match.reach.fit_of.Goals as goal

pub find_property-requires-clause-well_formed : goal.find_property-requires-clause-well_formed
find_property-requires-clause-well_formed g c =
    let object = to_z-of_z w32 c.args.object c.ranges.object in
    known_on g.V.View.holds g.V.View.now c.args.view.now c.read_header.new.view (λ w. header_at w c.args.object ≡ c.in_ok-header.header) c.requires.well_formed (rw object at c.in_ok-header.ensures.left)

pub returns-then-named-2-clause-left : goal.returns-then-named-2-clause-left
returns-then-named-2-clause-left g c =
    let object = to_z-of_z w32 c.args.object c.ranges.object in
    told_as g.V.View.holds g.V.View.now c.args.view.now c.read_header.new.view (λ w. header_at w c.args.object ≡ c.in_ok-header.header)
    (λ w. object_fit w c.args.text.now c.args.object ≡ c.of_header-named.result)
    c.requires.well_formed (rw object at c.in_ok-header.ensures.left)
    (λ w sound is. name_fits w c.args.object c.args.text.now c.in_ok-header.header is
    (ap (λ (f : Fit). f.exact) (sym c.of_header-named.ensures) ∙ c.if-named.true)
    (ap (λ (f : Fit). f.beginning) (sym c.of_header-named.ensures) ∙ c.if-named-2.true)
    ∙ sym c.of_header-named.ensures)

pub returns-clause-left : goal.returns-clause-left
returns-clause-left g c =
    let object = to_z-of_z w32 c.args.object c.ranges.object in
    let fit : c.or.result ≡ either_fit (some_fit (named_in c.in_ok-header.header) c.args.text.now) (some_fit (aliases_in c.in_ok-value.value) c.args.text.now)
    = c.or.ensures
    ∙ ap (λ (f : Fit). either_fit f c.of_aliases.result) c.of_header-named.ensures
    ∙ ap (λ (f : Fit). either_fit (some_fit (named_in c.in_ok-header.header) c.args.text.now) f) c.of_aliases.ensures in
    told_on g.V.View.holds g.V.View.now c.args.view.now c.read_header.new.view c.find_property.new.view (λ w. header_at w c.args.object ≡ c.in_ok-header.header)
    (λ w. property_value w c.args.object (codes "aliases") ≡ c.in_ok-value.value) (λ w. object_fit w c.args.text.now c.args.object ≡ c.or.result)
    c.requires.well_formed (rw object at c.in_ok-header.ensures.left) (rw (object, c.requires.aliases) at c.in_ok-value.ensures.left)
    (λ w sound is value. object_fits w c.args.object c.args.text.now c.in_ok-header.header c.in_ok-value.value is value ∙ sym fit)
