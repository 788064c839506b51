use Rattle.std.proofs.Common.{◌≡◌, None, rules, w32}
use Rattle.std.proofs.lemmas.Int.{to_z-of_z}
use Rattle.rules.specs.Standing.{IsStanding}
use Rattle.rules.proofs.Tellings.{stays_known}
use Rattle.builtins.specs.Flags.{flag_checks}
use Rattle.builtins.specs.Verdict.{verdict}
use Rattle.builtins.proofs.Flags.{flags_not, flags}
use Rattle.builtins.proofs.builtins_objects.players.change_flag.Goals as goal

pub returns-in-Some-clause-left : goal.returns-in-Some-clause-left
returns-in-Some-clause-left g c =
    let object = to_z-of_z w32 c.args.object c.ranges.object in
    let programmer = to_z-of_z w32 c.args.programmer c.ranges.programmer in
    flags_not g.V.View.holds g.V.View.now c.args.deeds.now c.args.programmer c.args.object c.args.value.now c.args.view.now c.refusal.new.view c.in-Some.error
    (rw (object, programmer, c.in-Some.is) at c.in_ok-refused.ensures.left)

pub give_flag-requires-clause-well_formed : goal.give_flag-requires-clause-well_formed
give_flag-requires-clause-well_formed g c =
    let object = to_z-of_z w32 c.args.object c.ranges.object in
    let programmer = to_z-of_z w32 c.args.programmer c.ranges.programmer in
    let none : c.in_ok-refused.refused ≡ None = first_of (search rules, cc) in
    stays_known g.V.View.holds g.V.View.now IsStanding c.args.view.now c.refusal.new.view (λ w. verdict (flag_checks w c.args.programmer c.args.object) ≡ None) c.requires.well_formed
    (rw (object, programmer, none) at c.in_ok-refused.ensures.left)

pub returns-clause-left : goal.returns-clause-left
returns-clause-left g c =
    let object = to_z-of_z w32 c.args.object c.ranges.object in
    let programmer = to_z-of_z w32 c.args.programmer c.ranges.programmer in
    let none : c.in_ok-refused.refused ≡ None = first_of (search rules, cc) in
    flags g.V.View.holds g.V.View.now c.args.deeds.now c.args.programmer c.args.object c.args.value.now c.args.view.now c.refusal.new.view c.give_flag.new.view c.give_flag.new.deeds
    c.integer.result c.integer.ensures (rw (object, programmer, none) at c.in_ok-refused.ensures.left) (rw (object, c.is_true-flag.ensures) at c.in_ok-give_flag.ensures.left)
