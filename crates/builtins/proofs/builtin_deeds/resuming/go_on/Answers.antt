use Rattle.std.proofs.Common.{◌≡◌, rules, w32, to_z, of_z}
use Rattle.spec_value.specs.Datum.{is_true}
use Rattle.spec_moo.specs.Natives.Rows.{answers_with, zero_value}
use Rattle.spec_moo.specs.Natives.Objects.{recycle_now, accepted, told_to_enter}
use Rattle.spec_moo.specs.Natives.Verbs.{eval_stage}
use Rattle.moo_task.specs.declared.effect.NativeEffect.TheVariants.{Answers}
use Rattle.rules.proofs.Tellings.{known_on}
use Rattle.builtins.specs.Stages.{stage_does}
use Rattle.builtins.specs.declared.builtin_deeds.stages.Stage.TheVariants.{Evaluated, Recycled, Asked, Left}
use Rattle.builtins.proofs.Acts.{known_so, leads_acts, told_acts, stays_acts, step_acts}
use Rattle.builtins.proofs.builtin_deeds.resuming.go_on.Goals as goal

pub returns-in_ok-eval_stage-in-Evaluated-clause-does : goal.returns-in_ok-eval_stage-in-Evaluated-clause-does
returns-in_ok-eval_stage-in-Evaluated-clause-does g c =
    known_so g.V.View.holds g.V.View.now c.args.view.now c.args.view.now c.args.task.now (λ z s k. stage_does z s k c.args.value) c.args.deeds.now c.args.deeds.now (Answers c.in_ok-eval_stage-in-Evaluated.field-0) c.args.stage Evaluated c.in-Evaluated.is
    (stays_acts g.V.View.holds g.V.View.now c.args.view.now c.args.view.now c.args.task.now (λ s. eval_stage s c.args.value) c.args.deeds.now (Answers c.in_ok-eval_stage-in-Evaluated.field-0) c.in_ok-eval_stage-in-Evaluated.ensures)

pub returns-in_ok-let_go-in-Recycled-clause-does : goal.returns-in_ok-let_go-in-Recycled-clause-does
returns-in_ok-let_go-in-Recycled-clause-does g c =
    let object : to_z w32 (of_z w32 c.in-Recycled.object) ≡ c.in-Recycled.object = search rules in
    known_so g.V.View.holds g.V.View.now c.args.view.now c.let_go.new.view c.args.task.now (λ z s k. stage_does z s k c.args.value) c.args.deeds.now c.let_go.new.deeds c.in_ok-let_go-in-Recycled.field-0 c.args.stage (Recycled c.in-Recycled.object) c.in-Recycled.is
    (step_acts g.V.View.holds g.V.View.now c.args.view.now c.let_go.new.view c.args.task.now (λ s. answers_with (recycle_now s c.in-Recycled.object) zero_value) c.args.deeds.now c.let_go.new.deeds c.in_ok-let_go-in-Recycled.field-0 (rw object at c.in_ok-let_go-in-Recycled.ensures.left))

pub returns-in_ok-accepted-in-Asked-clause-does : goal.returns-in_ok-accepted-in-Asked-clause-does
returns-in_ok-accepted-in-Asked-clause-does g c =
    let what : to_z w32 (of_z w32 c.in-Asked.what) ≡ c.in-Asked.what = search rules in
    let place : to_z w32 (of_z w32 c.in-Asked.place) ≡ c.in-Asked.place = search rules in
    known_so g.V.View.holds g.V.View.now c.args.view.now c.accepted.new.view c.args.task.now (λ z s k. stage_does z s k c.args.value) c.args.deeds.now c.args.deeds.now c.in_ok-accepted-in-Asked.field-0 c.args.stage (Asked c.in-Asked.what c.in-Asked.place) c.in-Asked.is
    (leads_acts g.V.View.holds g.V.View.now c.args.view.now c.accepted.new.view c.args.task.now (λ s k. accepted s k c.in-Asked.what c.in-Asked.place (is_true c.args.value)) c.args.deeds.now c.in_ok-accepted-in-Asked.field-0 (rw (what, place, c.is_true-let_in.ensures) at c.in_ok-accepted-in-Asked.ensures.left))

pub returns-in_ok-told_to_enter-in-Left-clause-does : goal.returns-in_ok-told_to_enter-in-Left-clause-does
returns-in_ok-told_to_enter-in-Left-clause-does g c =
    let what : to_z w32 (of_z w32 c.in-Left.what) ≡ c.in-Left.what = search rules in
    let place : to_z w32 (of_z w32 c.in-Left.place) ≡ c.in-Left.place = search rules in
    let before : to_z w32 (of_z w32 c.in-Left.before) ≡ c.in-Left.before = search rules in
    known_so g.V.View.holds g.V.View.now c.args.view.now c.told_to_enter.new.view c.args.task.now (λ z s k. stage_does z s k c.args.value) c.args.deeds.now c.args.deeds.now c.in_ok-told_to_enter-in-Left.field-0 c.args.stage (Left c.in-Left.what c.in-Left.place c.in-Left.before) c.in-Left.is
    (told_acts g.V.View.holds g.V.View.now c.args.view.now c.told_to_enter.new.view c.args.task.now (λ s k. told_to_enter s k c.in-Left.what c.in-Left.place c.in-Left.before) c.args.deeds.now c.in_ok-told_to_enter-in-Left.field-0 (rw (what, place, before) at c.in_ok-told_to_enter-in-Left.ensures.left))
