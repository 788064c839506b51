use Rattle.std.proofs.Common.{◌≡◌, [], not, ap, ◌∙◌, subst, IsTrue, sym, w32}
use Rattle.std.proofs.lemmas.Int.{to_z-of_z}
use Rattle.std.specs.Prelude.{is_some}
use Rattle.spec_world.specs.World.{World, object_at}
use Rattle.spec_world.specs.Questions.{header_at}
use Rattle.view.specs.Law.{Tells}
use Rattle.rules.proofs.Tellings.{if_ok_as, known_on, told_as, told_on}
use Rattle.rules.specs.Below.{IsFamily}
use Rattle.rules.proofs.Walking.{no_family, shown_there}
use Rattle.rules.proofs.family.below.below.Goals as goal

pub returns-then-is_none-clause-left : goal.returns-then-is_none-clause-left
returns-then-is_none-clause-left g c =
    subst (λ ds. Tells g.V.View.holds g.V.View.now c.args.view.now c.read_header.new.view (λ w. IsFamily w c.args.object ds)) (sym c.new-nobody.ensures.items)
    (told_as g.V.View.holds g.V.View.now c.args.view.now c.read_header.new.view (λ w. header_at w c.args.object ≡ c.in_ok-header.header) (λ w. IsFamily w c.args.object [])
    c.requires.well_formed (rw (to_z-of_z w32 c.args.object c.ranges.object) at c.in_ok-header.ensures.left)
    (λ w sound is. no_family w sound c.args.object c.in_ok-header.header is (ap not (c.is_none.ensures ∙ ap not c.if-is_none.true))))

pub walk-requires-clause-well_formed : goal.walk-requires-clause-well_formed
walk-requires-clause-well_formed g c =
    known_on g.V.View.holds g.V.View.now c.args.view.now c.read_header.new.view (λ w. header_at w c.args.object ≡ c.in_ok-header.header) c.requires.well_formed
    (rw (to_z-of_z w32 c.args.object c.ranges.object) at c.in_ok-header.ensures.left)

pub walk-requires-clause-there : goal.walk-requires-clause-there
walk-requires-clause-there g c =
    let object = to_z-of_z w32 c.args.object c.ranges.object in
    rw object (λ w is. let t = (rw object at c.in_ok-header.ensures.left) w is in
    subst (λ (u : World). IsTrue (is_some (object_at u c.args.object))) (sym t.1.0) (shown_there (g.V.View.now c.args.view.now w) c.args.object c.in_ok-header.header t.1.1 (ap not (c.is_none.ensures ∙ ap not c.if-is_none.false))))

pub returns-clause-left : goal.returns-clause-left
returns-clause-left g c =
    let object = to_z-of_z w32 c.args.object c.ranges.object in
    if_ok_as
    (λ ds. Tells g.V.View.holds g.V.View.now c.read_header.new.view c.walk.new.view (λ w. IsFamily w c.args.object ds.items))
    (λ ds. Tells g.V.View.holds g.V.View.now c.args.view.now c.walk.new.view (λ w. IsFamily w c.args.object ds.items))
    (λ ds told. told_on g.V.View.holds g.V.View.now c.args.view.now c.read_header.new.view c.walk.new.view (λ w. header_at w c.args.object ≡ c.in_ok-header.header)
    (λ w. IsFamily w c.args.object ds.items) (λ w. IsFamily w c.args.object ds.items)
    c.requires.well_formed (rw object at c.in_ok-header.ensures.left) told (λ w sound is so. so))
    c.walk.result (rw object at c.walk.ensures.left)
