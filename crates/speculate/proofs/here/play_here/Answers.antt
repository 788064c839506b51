use Rattle.std.proofs.Common.{◌≡◌, List, ap, sym, ◌∙◌, arith, vec_items}
use Rattle.spec_world.specs.Outcome.{Outcome}
use Rattle.spec_moo.specs.Steps.{play1}
use Rattle.task_run.proofs.Playing.{played_more}
use Rattle.speculate.specs.BoardState.{runs}
use Rattle.speculate.proofs.Plays.{play_none, nothing_played}
use Rattle.speculate.proofs.Alone.{views_on}
use Rattle.speculate.proofs.here.play_here.Goals as goal

pub returns-in-Err-clause-part : goal.returns-in-Err-clause-part
returns-in-Err-clause-part g c =
    let r = c.refused.result in
    nothing_played c.args.world r.world c.args.steps.now r.count r.outcomes.items c.refused.ensures.3 c.refused.ensures.1 c.refused.ensures.2

pub loop-at-init : goal.loop-at-init
loop-at-init g c =
    let none : runs (vec_items c.in-Ok.places.1) ≡ 0 = ap runs c.in-Ok.ensures.empty.1 in (
      c.in-Ok.ensures.none.0,
      c.in-Ok.ensures.none.1,
      c.in-Ok.ensures.room.0,
      c.in-Ok.ensures.room.1,
      play_none c.args.world.plain c.args.steps.now ∙ ap (λ (os : List Outcome). (c.args.world.plain, os)) (sym c.in-Ok.ensures.empty.0),
      omega (arith, none),
    )

pub loop-at-preserved : goal.loop-at-preserved
loop-at-preserved g c = (
  omega arith,
  omega arith,
  omega arith,
  omega arith,
  played_more c.args.world.plain c.loop-at.world.plain c.step_here.new.world.plain c.args.steps.now c.loop-at.at c.index-steps-at.result c.loop-at.outcomes.items c.in-Ok-step_here.outcome
      (omega arith) c.loop-at.invariant.4 (ap (play1 c.loop-at.world.plain) (sym c.index-steps-at.is) ∙ c.in-Ok-step_here.ensures.ok)
      ∙ ap (λ (os : List Outcome). (c.step_here.new.world.plain, os)) (sym c.push_reserved.ensures.items),
  views_on c.loop-at.marks.items (vec_items c.push_reserved-in-Ok-step_here.new.self) c.in-Ok-step_here.mark c.args.world.opened c.loop-at.world.opened c.step_here.new.world.opened
      c.loop-at.invariant.5 c.in-Ok-step_here.ensures.views c.push_reserved-in-Ok-step_here.ensures.items,
)
