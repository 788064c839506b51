use Rattle.std.proofs.Common.{◌≡◌, rules, w32, to_z, of_z}
use Rattle.moo_task.specs.Outcomes.{ticks_of}
use Rattle.moo_task.specs.declared.effect.NativeEffect.TheVariants.{Answers, Complains}
use Rattle.builtins_view.specs.declared.builtin_requests.own.Own.TheVariants.{Suspend, SuspendFor, TaskId, TicksLeft, Raise, RaiseTold, RaiseWith, CallerPerms, Random, RandomTo, Time}
use Rattle.builtins.specs.BuiltinDeedsActing.{scene_for, caller_for}
use Rattle.builtins.proofs.Acts.{own_so}
use Rattle.builtins.proofs.builtin_deeds.own.about_itself.Goals as goal

pub returns-in_ok-suspend-in-Suspend : goal.returns-in_ok-suspend-in-Suspend
returns-in_ok-suspend-in-Suspend c =
    own_so c.args.task.now c.args.deeds.now c.suspend.new.deeds c.in_ok-suspend-in-Suspend.field-0 c.args.own Suspend c.in-Suspend.is (λ w. c.in_ok-suspend-in-Suspend.ensures w (ticks_of c.args.task.now) (caller_for c.args.task.now))

pub returns-in_ok-suspend_for-in-SuspendFor : goal.returns-in_ok-suspend_for-in-SuspendFor
returns-in_ok-suspend_for-in-SuspendFor c =
    let seconds : to_z w32 (of_z w32 c.in-SuspendFor.seconds) ≡ c.in-SuspendFor.seconds = search rules in
    own_so c.args.task.now c.args.deeds.now c.suspend_for.new.deeds c.in_ok-suspend_for-in-SuspendFor.field-0 c.args.own (SuspendFor c.in-SuspendFor.seconds) c.in-SuspendFor.is (λ w. (rw seconds at c.in_ok-suspend_for-in-SuspendFor.ensures) w (ticks_of c.args.task.now) (caller_for c.args.task.now))

pub returns-in_ok-task_id-in-TaskId : goal.returns-in_ok-task_id-in-TaskId
returns-in_ok-task_id-in-TaskId c =
    own_so c.args.task.now c.args.deeds.now c.task_id.new.deeds (Answers c.in_ok-task_id-in-TaskId.field-0) c.args.own TaskId c.in-TaskId.is (λ w. c.in_ok-task_id-in-TaskId.ensures w (ticks_of c.args.task.now) (caller_for c.args.task.now))

pub returns-in_ok-ticks_left-in-TicksLeft : goal.returns-in_ok-ticks_left-in-TicksLeft
returns-in_ok-ticks_left-in-TicksLeft c =
    own_so c.args.task.now c.args.deeds.now c.args.deeds.now (Answers c.in_ok-ticks_left-in-TicksLeft.field-0) c.args.own TicksLeft c.in-TicksLeft.is (λ w. c.in_ok-ticks_left-in-TicksLeft.ensures w (caller_for c.args.task.now))

pub returns-in_ok-raise-in-Raise : goal.returns-in_ok-raise-in-Raise
returns-in_ok-raise-in-Raise c =
    own_so c.args.task.now c.args.deeds.now c.args.deeds.now (Complains c.in_ok-raise-in-Raise.field-0) c.args.own (Raise c.in-Raise.code) c.in-Raise.is (λ w. c.in_ok-raise-in-Raise.ensures c.args.deeds.now w (ticks_of c.args.task.now) (caller_for c.args.task.now))

pub returns-in-RaiseTold : goal.returns-in-RaiseTold
returns-in-RaiseTold c =
    own_so c.args.task.now c.args.deeds.now c.args.deeds.now (Complains c.raise_told-failure.result) c.args.own (RaiseTold c.in-RaiseTold.code c.in-RaiseTold.message) c.in-RaiseTold.is (λ w. c.raise_told-failure.ensures c.args.deeds.now w (ticks_of c.args.task.now) (caller_for c.args.task.now))

pub returns-in-RaiseWith : goal.returns-in-RaiseWith
returns-in-RaiseWith c =
    own_so c.args.task.now c.args.deeds.now c.args.deeds.now (Complains c.raise_with-failure.result) c.args.own (RaiseWith c.in-RaiseWith.code c.in-RaiseWith.message c.in-RaiseWith.value) c.in-RaiseWith.is (λ w. c.raise_with-failure.ensures c.args.deeds.now w (ticks_of c.args.task.now) (caller_for c.args.task.now))

pub returns-in-CallerPerms : goal.returns-in-CallerPerms
returns-in-CallerPerms c =
    own_so c.args.task.now c.args.deeds.now c.args.deeds.now (Answers c.caller_perms.result) c.args.own CallerPerms c.in-CallerPerms.is (λ w. c.caller_perms.ensures (scene_for c.args.deeds.now w c.args.task.now))

pub returns-in_ok-random_integer-in-Random : goal.returns-in_ok-random_integer-in-Random
returns-in_ok-random_integer-in-Random c =
    own_so c.args.task.now c.args.deeds.now c.random_integer.new.deeds (Answers c.in_ok-random_integer-in-Random.field-0) c.args.own Random c.in-Random.is (λ w. c.in_ok-random_integer-in-Random.ensures w (ticks_of c.args.task.now) (caller_for c.args.task.now))

pub returns-in_ok-random-in-RandomTo : goal.returns-in_ok-random-in-RandomTo
returns-in_ok-random-in-RandomTo c =
    let greatest : to_z w32 (of_z w32 c.in-RandomTo.greatest) ≡ c.in-RandomTo.greatest = search rules in
    own_so c.args.task.now c.args.deeds.now c.random.new.deeds (Answers c.in_ok-random-in-RandomTo.field-0) c.args.own (RandomTo c.in-RandomTo.greatest) c.in-RandomTo.is (λ w. (rw greatest at c.in_ok-random-in-RandomTo.ensures) w (ticks_of c.args.task.now) (caller_for c.args.task.now))

pub returns-in_ok-time-in-Time : goal.returns-in_ok-time-in-Time
returns-in_ok-time-in-Time c =
    own_so c.args.task.now c.args.deeds.now c.args.deeds.now (Answers c.in_ok-time-in-Time.field-0) c.args.own Time c.in-Time.is (λ w. c.in_ok-time-in-Time.ensures w (ticks_of c.args.task.now) (caller_for c.args.task.now))
