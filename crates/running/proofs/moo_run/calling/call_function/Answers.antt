use Rattle.std.proofs.Common.{◌≡◌, ◌∙◌, ap, sym, suc, ◌-◌, arith}
use Rattle.spec_moo.specs.Leaving.{failure}
use Rattle.moo_value.specs.Errors.{code_of}
use Rattle.moo_task.proofs.Next.{next_place}
use Rattle.moo_task.specs.Outcomes.{around, fails_at}
use Rattle.running.specs.Calls.{calls_native_at}
use Rattle.local_code.specs.Scenes.{scene_at}
use Rattle.running.proofs.Calls.{paid, call_is_paid, refused_call, native_call}
use Rattle.running.proofs.moo_run.calling.call_function.Goals as goal

pub returns-in-Some-refused-clause-calls : goal.returns-in-Some-refused-clause-calls
returns-in-Some-refused-clause-calls g c w h =
    let ticks : c.args.task.now.frame.state.ticks ≡ suc (c.args.task.now.frame.state.ticks - 1) = omega arith in (
      h,
      λ other.
          call_is_paid (around c.args.task.now (scene_at c.args.deeds.now (g.V.View.now c.args.view.now w) c.args.task.now)) c.args.task.now.frame.call c.args.task.now.frame.state
          c.args.name.now c.in-Some.arguments c.pop.new.self (c.args.task.now.frame.state.ticks - 1) c.in-Some.ensures ticks
          ∙ refused_call (paid c.args.task.now c.pop.new.self) (scene_at c.args.deeds.now (g.V.View.now c.args.view.now w) c.fails.new.self) c.args.name.now c.in-Some.arguments
          c.in-Some-refused.error c.in-Some-refused.ensures
          ∙ ap (λ n. fails_at (paid c.args.task.now c.pop.new.self) (scene_at c.args.deeds.now (g.V.View.now c.args.view.now w) c.fails.new.self) n (failure (code_of c.in-Some-refused.error)))
          (sym (next_place c.args.task.now.frame.state.place))
          ∙ c.in_ok-outcome.ensures.led (scene_at c.args.deeds.now (g.V.View.now c.args.view.now w) c.fails.new.self),
    )

pub returns-clause-calls : goal.returns-clause-calls
returns-clause-calls g c w h =
    let ticks : c.args.task.now.frame.state.ticks ≡ suc (c.args.task.now.frame.state.ticks - 1) = omega arith in
    let l = c.in_ok-outcome-2.ensures.calls w h in (
      l.0,
      λ other.
          call_is_paid (around c.args.task.now (scene_at c.args.deeds.now (g.V.View.now c.args.view.now w) c.args.task.now)) c.args.task.now.frame.call c.args.task.now.frame.state
          c.args.name.now c.in-Some.arguments c.pop.new.self (c.args.task.now.frame.state.ticks - 1) c.in-Some.ensures ticks
          ∙ native_call (paid c.args.task.now c.pop.new.self) (scene_at c.args.deeds.now (g.V.View.now c.args.view.now w) c.args.task.now) c.args.name.now c.in-Some.arguments
          c.in_default-refused.ensures.0 c.in_default-refused.ensures.1 c.in_default-refused.ensures.2 other
          ∙ ap (λ n. calls_native_at c.args.name.now c.in_default-refused.ensures.0 n c.args.deeds.now (g.V.View.now c.args.view.now w) (paid c.args.task.now c.pop.new.self))
          (sym (next_place c.args.task.now.frame.state.place))
          ∙ l.1 c.in_default-refused.ensures.0 c.in_default-refused.ensures.1,
    )
