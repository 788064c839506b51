use Rattle.std.proofs.Common.{◌≡◌, true, false, Some, None, ap, ◌∙◌, rules, w32, to_z, of_z}
use Rattle.std.proofs.lemmas.Int.{to_z-of_z}
use Rattle.spec_world.specs.World.{Call}
use Rattle.spec_world.specs.ObjectLaws.{IsPlace}
use Rattle.rules.proofs.Tellings.{known_on, stays_known}
use Rattle.builtins.specs.Children.{IsNext}
use Rattle.builtins.proofs.Leading.{told_then}
use Rattle.builtins.proofs.Creating.{IsAllowed, denied_led, full_led, allowed_led}
use Rattle.builtins.proofs.builtins_staged.create.create_allowed.Goals as goal

pub returns-then-not-allowed-clause-left : goal.returns-then-not-allowed-clause-left
returns-then-not-allowed-clause-left g c =
    let parent = to_z-of_z w32 c.args.parent c.ranges.parent in
    let owner = to_z-of_z w32 c.args.owner c.ranges.owner in
    let within : to_z w32 (of_z w32 c.call.inside.programmer) ≡ c.call.inside.programmer = search rules in
    let programmer : to_z w32 (of_z w32 c.call.inside.programmer) ≡ (c.args.call.now).programmer = within ∙ ap (λ (k : Call). k.programmer) c.call.view_is in
    denied_led g.V.View.holds g.V.View.now c.args.call.now c.args.parent c.args.owner c.args.arguments.items c.args.view.now c.may_both.new.view
    (rw (parent, owner, programmer, c.if-not-allowed.true) at c.in_ok-allowed.ensures.left)

pub returns-then-not-allowed-clause-well_formed : goal.returns-then-not-allowed-clause-well_formed
returns-then-not-allowed-clause-well_formed g c =
    let parent = to_z-of_z w32 c.args.parent c.ranges.parent in
    let owner = to_z-of_z w32 c.args.owner c.ranges.owner in
    let within : to_z w32 (of_z w32 c.call.inside.programmer) ≡ c.call.inside.programmer = search rules in
    let programmer : to_z w32 (of_z w32 c.call.inside.programmer) ≡ (c.args.call.now).programmer = within ∙ ap (λ (k : Call). k.programmer) c.call.view_is in
    known_on g.V.View.holds g.V.View.now c.args.view.now c.may_both.new.view (IsAllowed c.args.call.now c.args.parent c.args.owner false) c.requires.well_formed (rw (parent, owner, programmer, c.if-not-allowed.true) at c.in_ok-allowed.ensures.left)

pub returns-in_default-clause-left : goal.returns-in_default-clause-left
returns-in_default-clause-left g c =
    let parent = to_z-of_z w32 c.args.parent c.ranges.parent in
    let owner = to_z-of_z w32 c.args.owner c.ranges.owner in
    let within : to_z w32 (of_z w32 c.call.inside.programmer) ≡ c.call.inside.programmer = search rules in
    let programmer : to_z w32 (of_z w32 c.call.inside.programmer) ≡ (c.args.call.now).programmer = within ∙ ap (λ (k : Call). k.programmer) c.call.view_is in
    full_led g.V.View.holds g.V.View.now c.args.call.now c.args.parent c.args.owner c.args.arguments.items c.args.view.now c.may_both.new.view c.next_number.new.view
    (rw (parent, owner, programmer, c.if-not-allowed.false) at c.in_ok-allowed.ensures.left) (rw c.in_default.is at c.in_ok-number.ensures.left)

pub returns-in_default-clause-well_formed : goal.returns-in_default-clause-well_formed
returns-in_default-clause-well_formed g c =
    let parent = to_z-of_z w32 c.args.parent c.ranges.parent in
    let owner = to_z-of_z w32 c.args.owner c.ranges.owner in
    let within : to_z w32 (of_z w32 c.call.inside.programmer) ≡ c.call.inside.programmer = search rules in
    let programmer : to_z w32 (of_z w32 c.call.inside.programmer) ≡ (c.args.call.now).programmer = within ∙ ap (λ (k : Call). k.programmer) c.call.view_is in
    known_on g.V.View.holds g.V.View.now c.may_both.new.view c.next_number.new.view (λ w. IsNext w None)
    (known_on g.V.View.holds g.V.View.now c.args.view.now c.may_both.new.view (IsAllowed c.args.call.now c.args.parent c.args.owner true) c.requires.well_formed (rw (parent, owner, programmer, c.if-not-allowed.false) at c.in_ok-allowed.ensures.left))
    (rw c.in_default.is at c.in_ok-number.ensures.left)

pub create_under-requires-clause-well_formed : goal.create_under-requires-clause-well_formed
create_under-requires-clause-well_formed g c =
    let parent = to_z-of_z w32 c.args.parent c.ranges.parent in
    let owner = to_z-of_z w32 c.args.owner c.ranges.owner in
    let within : to_z w32 (of_z w32 c.call.inside.programmer) ≡ c.call.inside.programmer = search rules in
    let programmer : to_z w32 (of_z w32 c.call.inside.programmer) ≡ (c.args.call.now).programmer = within ∙ ap (λ (k : Call). k.programmer) c.call.view_is in
    known_on g.V.View.holds g.V.View.now c.may_both.new.view c.next_number.new.view (λ w. IsNext w (Some c.in-Some.number))
    (known_on g.V.View.holds g.V.View.now c.args.view.now c.may_both.new.view (IsAllowed c.args.call.now c.args.parent c.args.owner true) c.requires.well_formed (rw (parent, owner, programmer, c.if-not-allowed.false) at c.in_ok-allowed.ensures.left))
    (rw c.in-Some.is at c.in_ok-number.ensures.left)

pub create_under-requires-clause-place : goal.create_under-requires-clause-place
create_under-requires-clause-place g c =
    let parent = to_z-of_z w32 c.args.parent c.ranges.parent in
    let owner = to_z-of_z w32 c.args.owner c.ranges.owner in
    let within : to_z w32 (of_z w32 c.call.inside.programmer) ≡ c.call.inside.programmer = search rules in
    let programmer : to_z w32 (of_z w32 c.call.inside.programmer) ≡ (c.args.call.now).programmer = within ∙ ap (λ (k : Call). k.programmer) c.call.view_is in
    rw parent (stays_known g.V.View.holds g.V.View.now (λ w. IsPlace w c.args.parent) c.may_both.new.view c.next_number.new.view (λ w. IsNext w (Some c.in-Some.number))
    (stays_known g.V.View.holds g.V.View.now (λ w. IsPlace w c.args.parent) c.args.view.now c.may_both.new.view (IsAllowed c.args.call.now c.args.parent c.args.owner true) c.requires.place (rw (parent, owner, programmer, c.if-not-allowed.false) at c.in_ok-allowed.ensures.left))
    (rw c.in-Some.is at c.in_ok-number.ensures.left))

pub create_under-requires-clause-next : goal.create_under-requires-clause-next
create_under-requires-clause-next g c =
    let number : to_z w32 (of_z w32 c.in-Some.number) ≡ c.in-Some.number = search rules in
    rw number (told_then g.V.View.holds g.V.View.now c.may_both.new.view c.next_number.new.view (λ w. IsNext w (Some c.in-Some.number)) (rw c.in-Some.is at c.in_ok-number.ensures.left))

pub returns-clause-left : goal.returns-clause-left
returns-clause-left g c =
    let parent = to_z-of_z w32 c.args.parent c.ranges.parent in
    let owner = to_z-of_z w32 c.args.owner c.ranges.owner in
    let within : to_z w32 (of_z w32 c.call.inside.programmer) ≡ c.call.inside.programmer = search rules in
    let programmer : to_z w32 (of_z w32 c.call.inside.programmer) ≡ (c.args.call.now).programmer = within ∙ ap (λ (k : Call). k.programmer) c.call.view_is in
    allowed_led g.V.View.holds g.V.View.now c.args.call.now c.args.parent c.args.owner c.args.arguments.items c.args.view.now c.may_both.new.view c.next_number.new.view c.create_under.new.view
    c.in-Some.number c.in_ok-effect.effect
    (rw (parent, owner, programmer, c.if-not-allowed.false) at c.in_ok-allowed.ensures.left) (rw c.in-Some.is at c.in_ok-number.ensures.left) (rw (parent, owner) at c.in_ok-effect.ensures.left)
