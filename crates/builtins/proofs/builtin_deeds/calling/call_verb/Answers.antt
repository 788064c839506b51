use Rattle.std.proofs.Common.{◌≡◌, rules, w32, to_z, of_z}
use Rattle.builtins_view.specs.Requests.{calling_of, said_of}
use Rattle.builtins_view.specs.declared.builtin_requests.calling.Calling.TheVariants.{Create, CreateFor, Recycle, Move, Eval}
use Rattle.rules.proofs.Tellings.{known_on}
use Rattle.builtins.proofs.Acts.{known_so, leads_acts, leads_over_acts, told_acts}
use Rattle.builtins.proofs.builtin_deeds.calling.call_verb.Goals as goal

pub returns-in_ok-create-in-Create-clause-does : goal.returns-in_ok-create-in-Create-clause-does
returns-in_ok-create-in-Create-clause-does g c =
    let parent : to_z w32 (of_z w32 c.in-Create.parent) ≡ c.in-Create.parent = search rules in
    known_so g.V.View.holds g.V.View.now c.args.view.now c.create.new.view c.args.task.now (λ z. said_of (calling_of z)) c.args.deeds.now c.args.deeds.now c.in_ok-create-in-Create.field-0 c.args.calling (Create c.in-Create.parent) c.in-Create.is
    (leads_acts g.V.View.holds g.V.View.now c.args.view.now c.create.new.view c.args.task.now (said_of (calling_of (Create c.in-Create.parent))) c.args.deeds.now c.in_ok-create-in-Create.field-0 (rw parent at c.in_ok-create-in-Create.ensures.left))

pub returns-in_ok-create_for-in-CreateFor-clause-does : goal.returns-in_ok-create_for-in-CreateFor-clause-does
returns-in_ok-create_for-in-CreateFor-clause-does g c =
    let parent : to_z w32 (of_z w32 c.in-CreateFor.parent) ≡ c.in-CreateFor.parent = search rules in
    let owner : to_z w32 (of_z w32 c.in-CreateFor.owner) ≡ c.in-CreateFor.owner = search rules in
    known_so g.V.View.holds g.V.View.now c.args.view.now c.create_for.new.view c.args.task.now (λ z. said_of (calling_of z)) c.args.deeds.now c.args.deeds.now c.in_ok-create_for-in-CreateFor.field-0 c.args.calling (CreateFor c.in-CreateFor.parent c.in-CreateFor.owner) c.in-CreateFor.is
    (leads_acts g.V.View.holds g.V.View.now c.args.view.now c.create_for.new.view c.args.task.now (said_of (calling_of (CreateFor c.in-CreateFor.parent c.in-CreateFor.owner))) c.args.deeds.now c.in_ok-create_for-in-CreateFor.field-0 (rw (parent, owner) at c.in_ok-create_for-in-CreateFor.ensures.left))

pub returns-in_ok-recycle-in-Recycle-clause-does : goal.returns-in_ok-recycle-in-Recycle-clause-does
returns-in_ok-recycle-in-Recycle-clause-does g c =
    let object : to_z w32 (of_z w32 c.in-Recycle.object) ≡ c.in-Recycle.object = search rules in
    known_so g.V.View.holds g.V.View.now c.args.view.now c.recycle.new.view c.args.task.now (λ z. said_of (calling_of z)) c.args.deeds.now c.recycle.new.deeds c.in_ok-recycle-in-Recycle.field-0 c.args.calling (Recycle c.in-Recycle.object) c.in-Recycle.is
    (leads_over_acts g.V.View.holds g.V.View.now c.args.view.now c.recycle.new.view c.args.task.now (said_of (calling_of (Recycle c.in-Recycle.object))) c.args.deeds.now c.recycle.new.deeds c.in_ok-recycle-in-Recycle.field-0 (rw object at c.in_ok-recycle-in-Recycle.ensures.left))

pub returns-in_ok-move_object-in-Move-clause-does : goal.returns-in_ok-move_object-in-Move-clause-does
returns-in_ok-move_object-in-Move-clause-does g c =
    let what : to_z w32 (of_z w32 c.in-Move.what) ≡ c.in-Move.what = search rules in
    let place : to_z w32 (of_z w32 c.in-Move.place) ≡ c.in-Move.place = search rules in
    known_so g.V.View.holds g.V.View.now c.args.view.now c.move_object.new.view c.args.task.now (λ z. said_of (calling_of z)) c.args.deeds.now c.args.deeds.now c.in_ok-move_object-in-Move.field-0 c.args.calling (Move c.in-Move.what c.in-Move.place) c.in-Move.is
    (leads_acts g.V.View.holds g.V.View.now c.args.view.now c.move_object.new.view c.args.task.now (said_of (calling_of (Move c.in-Move.what c.in-Move.place))) c.args.deeds.now c.in_ok-move_object-in-Move.field-0 (rw (what, place) at c.in_ok-move_object-in-Move.ensures.left))

pub returns-in_ok-eval-in-Eval-clause-does : goal.returns-in_ok-eval-in-Eval-clause-does
returns-in_ok-eval-in-Eval-clause-does g c =
    known_so g.V.View.holds g.V.View.now c.args.view.now c.eval.new.view c.args.task.now (λ z. said_of (calling_of z)) c.args.deeds.now c.args.deeds.now c.in_ok-eval-in-Eval.field-0 c.args.calling (Eval c.in-Eval.text) c.in-Eval.is
    (told_acts g.V.View.holds g.V.View.now c.args.view.now c.eval.new.view c.args.task.now (said_of (calling_of (Eval c.in-Eval.text))) c.args.deeds.now c.in_ok-eval-in-Eval.field-0 c.in_ok-eval-in-Eval.ensures.left)
