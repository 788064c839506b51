use Rattle.std.proofs.Common.{◌≡◌, ◌∙◌, true, rules, ap, sym, subst, w32, to_z, of_z, Some}
use Rattle.spec_world.specs.Inherit.{slot_at}
use Rattle.spec_world.specs.Permissions.{owns_or}
use Rattle.view.specs.Writing.{IsWrittenBy}
use Rattle.world.specs.Amended.{Amended, amended_now}
use Rattle.world.proofs.Written.{anew_written}
use Rattle.world.proofs.alone.Alone.write_anew.Goals as goal

pub returns-clause-now : goal.returns-clause-now
returns-clause-now c =
    let object : to_z w32 (of_z w32 c.args.object) ≡ c.args.object = search rules in
    let name : c.in_ok-name.name ≡ c.args.name.now = search rules in
    let value : c.in_ok-value.value ≡ c.args.value.now = search rules in
    let allowed : owns_or c.args.programmer c.in-Some.slot.owner c.in-Some.slot.writable ≡ true = search rules in
    let there : Some c.in-Some.slot ≡ slot_at (amended_now c.self.inside.overlay) c.args.object c.args.name.now = sym c.in-Some.is ∙ (rw object at c.in_ok-slot.ensures.slot) in
    let same : c.write_at_hand.new.self ≡ c.self.inside.overlay = c.in_ok-done.ensures.left c.if-done.false ∙ c.in_ok-slot.ensures.stays in
    let stays = c.in_ok-put.ensures.home ∙ ap (λ (a : Amended). a.home) same in
    subst (λ (old : Amended). IsWrittenBy c.args.programmer c.args.object c.args.name.now c.args.value.now true (amended_now old) (amended_now c.put.new.self)) c.self.view_is
    (anew_written c.args.programmer c.args.object c.args.name.now c.args.value.now c.self.inside.overlay c.put.new.self c.in-Some.slot allowed there stays
    (rw same at (rw (object, name, value) at c.in_ok-put.ensures.changes)))
