use Rattle.std.proofs.Common.{◌≡◌, ◌∙◌, length, take, ap, arith}
use Rattle.spec_world.specs.Step.{Step}
use Rattle.moo_server.specs.Printed.{outcome_lines, printed}
use Rattle.moo_server.proofs.Writing.{kept_on, one_step_more, whole_printed, written_as, on_any}
use Rattle.moo_server.proofs.printing.print_steps.Goals as goal

pub loop-i-preserved : goal.loop-i-preserved
loop-i-preserved g c =
    let wrote = c.in_ok-print_outcome.ensures in
    let number = ap (λ (s : Step). s.number) (c.step.view_is ∙ c.index-steps-i.is) in
    let e = ap (λ n. outcome_lines n c.index-outcomes-i.result) number ∙ ap (outcome_lines _) c.index-outcomes-i.is in
    one_step_more _ _ _ c.args.steps.now c.args.outcomes.now c.loop-i.i c.index-steps-i.result c.index-outcomes-i.result (omega arith) (omega arith) c.loop-i.invariant
    (written_as _ _ _ _ e wrote)

pub returns : goal.returns
returns g c =
    let all : c.loop-i.i ≡ length c.args.outcomes.now = omega arith in
    on_any c.flush.result (kept_on _ _ _ _ (written_as _ _ _ _ (ap (λ n. printed (take n c.args.steps.now) (take n c.args.outcomes.now)) all ∙ whole_printed _ _ c.requires) c.loop-i.invariant) c.flush.ensures.bytes)
