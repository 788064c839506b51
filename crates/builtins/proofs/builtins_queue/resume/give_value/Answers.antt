use Rattle.std.proofs.Common.{◌≡◌, true, false, sym, ◌∙◌, ap, rules, w32, to_z, of_z}
use Rattle.std.proofs.lemmas.Int.{to_z-of_z}
use Rattle.spec_moo.specs.Natives.Tasks.{is_suspended}
use Rattle.builtins.proofs.BuiltinsQueueRows.{not_suspended, resumes_one}
use Rattle.builtins.proofs.builtins_queue.resume.give_value.Goals as goal

pub resumed-requires : goal.resumed-requires
resumed-requires g c = sym (c.is_suspended-suspended.ensures ∙ ap is_suspended c.waiting.ensures) ∙ c.if-not-suspended.false

pub returns-then-not-suspended-clause-left : goal.returns-then-not-suspended-clause-left
returns-then-not-suspended-clause-left g c =
    let id = to_z-of_z w32 c.args.id c.ranges.id in
    let programmer = to_z-of_z w32 c.args.programmer c.ranges.programmer in
    let owner : to_z w32 (of_z w32 c.programmer_of-owner.result) ≡ c.programmer_of-owner.result = search rules in
    let held : is_suspended c.in-Some.task.waiting ≡ false = sym (c.is_suspended-suspended.ensures ∙ ap is_suspended c.waiting.ensures) ∙ c.if-not-suspended.true in
    not_suspended g.V.View.holds g.V.View.now c.args.programmer c.args.id c.args.view.now c.read_task.new.view c.may.new.view c.in-Some.task c.programmer_of-owner.result c.args.deeds.now c.args.value
    c.programmer_of-owner.ensures held (rw (id, c.in-Some.is) at c.in_ok-task.ensures.left) (rw (programmer, owner, c.if-not-allowed.false) at c.in_ok-allowed.ensures.left)

pub returns-clause-left : goal.returns-clause-left
returns-clause-left g c =
    let id = to_z-of_z w32 c.args.id c.ranges.id in
    let programmer = to_z-of_z w32 c.args.programmer c.ranges.programmer in
    let owner : to_z w32 (of_z w32 c.programmer_of-owner.result) ≡ c.programmer_of-owner.result = search rules in
    let held : is_suspended c.in-Some.task.waiting ≡ true = sym (c.is_suspended-suspended.ensures ∙ ap is_suspended c.waiting.ensures) ∙ c.if-not-suspended.false in
    resumes_one g.V.View.holds g.V.View.now c.args.programmer c.args.id c.args.view.now c.read_task.new.view c.may.new.view c.in-Some.task c.programmer_of-owner.result c.write_task.new.view c.args.deeds.now c.args.value
    c.integer.result c.in_ok-resumed.resumed c.integer.ensures c.in_ok-resumed.ensures c.programmer_of-owner.ensures held
    (rw (id, c.in-Some.is) at c.in_ok-task.ensures.left) (rw (programmer, owner, c.if-not-allowed.false) at c.in_ok-allowed.ensures.left) (rw id at c.in_ok-write_task.ensures.left)
