use Rattle.std.proofs.Common.{◌≡◌, ◌∙◌, ap, sym, ℤ, w32, to_z, of_z, rules}
use Rattle.spec_moo.specs.Leaving.{Failure, failed, come_by}
use Rattle.moo_task.specs.Meant.{failure_meant}
use Rattle.moo_task.specs.Shown.{leaves}
use Rattle.moo_task.specs.Outcomes.{around}
use Rattle.moo_task.specs.declared.running.Running.{Running}
use Rattle.local_code.proofs.moo_unwind.outward.raise_into.Goals as goal

pub returns-clause-out : goal.returns-clause-out
returns-clause-out c s =
    let player : to_z w32 (of_z w32 c.resume.new.task.player) ≡ c.resume.new.task.player = search rules in
    ap (λ (r : Running). leaves (around r s) r.frame.call r.frame.state (failed (come_by r.player r.frame.call (failure_meant c.args.failure)))) (sym c.resume.ensures)
    ∙ ap (λ (f : Failure). leaves (around c.resume.new.task s) c.resume.new.task.frame.call c.resume.new.task.frame.state (failed f))
    (sym (c.in_ok-come_by.ensures ∙ ap (λ (z : ℤ). come_by z c.resume.new.task.frame.call (failure_meant c.args.failure)) player))
