use Rattle.std.proofs.Common.{◌≡◌, false, None, w32}
use Rattle.std.proofs.lemmas.Int.{to_z-of_z}
use Rattle.moo_value.specs.Errors.{code_of}
use Rattle.rules.proofs.Tellings.{known_on}
use Rattle.rules.specs.Below.{IsFamily}
use Rattle.builtins_view.specs.Clashes.{any_clashes}
use Rattle.builtins.specs.Verdict.{verdict}
use Rattle.builtins.specs.Parents.{parent_checks}
use Rattle.builtins.proofs.Parents.{refused_told, clashing_told, adopted_told}
use Rattle.builtins.proofs.builtins_objects.chparent.change_parent.Goals as goal

pub returns-clause-left : goal.returns-clause-left
returns-clause-left g c =
    let object = to_z-of_z w32 c.args.object c.ranges.object in
    let parent = to_z-of_z w32 c.args.parent c.ranges.parent in
    let programmer = to_z-of_z w32 c.args.programmer c.ranges.programmer in
    adopted_told g.V.View.holds g.V.View.now c.args.programmer c.args.object c.args.parent c.args.view.now c.refusal.new.view c.below.new.view c.any_clashes.new.view c.adopt.new.view
    c.in_ok-family.family.items c.integer.result c.integer.ensures c.requires.well_formed
    (rw (object, parent, programmer, c.in_default.is) at c.in_ok-refused.ensures.left)
    (rw object at c.in_ok-family.ensures.left)
    (rw (parent, c.as_slice.ensures.value, c.if-clash.false) at c.in_ok-clash.ensures.left)
    (rw (object, parent, c.as_slice-2.ensures.value) at c.in_ok-adopt.ensures.left)

pub below-requires-clause-well_formed : goal.below-requires-clause-well_formed
below-requires-clause-well_formed g c =
    let object = to_z-of_z w32 c.args.object c.ranges.object in
    let parent = to_z-of_z w32 c.args.parent c.ranges.parent in
    let programmer = to_z-of_z w32 c.args.programmer c.ranges.programmer in
    known_on g.V.View.holds g.V.View.now c.args.view.now c.refusal.new.view (λ w. verdict (parent_checks w c.args.programmer c.args.object c.args.parent) ≡ None) c.requires.well_formed
    (rw (object, parent, programmer, c.in_default.is) at c.in_ok-refused.ensures.left)

pub adopt-requires-clause-well_formed : goal.adopt-requires-clause-well_formed
adopt-requires-clause-well_formed g c =
    let object = to_z-of_z w32 c.args.object c.ranges.object in
    let parent = to_z-of_z w32 c.args.parent c.ranges.parent in
    let programmer = to_z-of_z w32 c.args.programmer c.ranges.programmer in
    known_on g.V.View.holds g.V.View.now c.below.new.view c.any_clashes.new.view (λ w. any_clashes w c.args.parent c.in_ok-family.family.items ≡ false)
    (known_on g.V.View.holds g.V.View.now c.refusal.new.view c.below.new.view (λ w. IsFamily w c.args.object c.in_ok-family.family.items)
    (known_on g.V.View.holds g.V.View.now c.args.view.now c.refusal.new.view (λ w. verdict (parent_checks w c.args.programmer c.args.object c.args.parent) ≡ None) c.requires.well_formed
    (rw (object, parent, programmer, c.in_default.is) at c.in_ok-refused.ensures.left))
    (rw object at c.in_ok-family.ensures.left))
    (rw (parent, c.as_slice.ensures.value, c.if-clash.false) at c.in_ok-clash.ensures.left)

pub returns-in-Some-clause-left : goal.returns-in-Some-clause-left
returns-in-Some-clause-left g c =
    let object = to_z-of_z w32 c.args.object c.ranges.object in
    let parent = to_z-of_z w32 c.args.parent c.ranges.parent in
    let programmer = to_z-of_z w32 c.args.programmer c.ranges.programmer in
    refused_told g.V.View.holds g.V.View.now c.args.programmer c.args.object c.args.parent c.args.view.now c.refusal.new.view (code_of c.in-Some.error)
    (rw (object, parent, programmer, c.in-Some.is) at c.in_ok-refused.ensures.left)

pub returns-then-clash-clause-left : goal.returns-then-clash-clause-left
returns-then-clash-clause-left g c =
    let object = to_z-of_z w32 c.args.object c.ranges.object in
    let parent = to_z-of_z w32 c.args.parent c.ranges.parent in
    let programmer = to_z-of_z w32 c.args.programmer c.ranges.programmer in
    clashing_told g.V.View.holds g.V.View.now c.args.programmer c.args.object c.args.parent c.args.view.now c.refusal.new.view c.below.new.view c.any_clashes.new.view
    c.in_ok-family.family.items c.requires.well_formed
    (rw (object, parent, programmer, c.in_default.is) at c.in_ok-refused.ensures.left)
    (rw object at c.in_ok-family.ensures.left)
    (rw (parent, c.as_slice.ensures.value, c.if-clash.true) at c.in_ok-clash.ensures.left)
