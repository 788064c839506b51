use Rattle.moo_program.specs.Names.{known}
use Rattle.moo_task.proofs.Further.{slices_agree, agree_on_any}
use Rattle.moo_task.proofs.same.same_further.Goals as goal

pub returns-then-agree_on : goal.returns-then-agree_on
returns-then-agree_on c = (
  λ h. slices_agree (known c.args.own.now) c.args.a.now c.args.b.now c.as_slice.result.now c.as_slice-then-agree_on.result.now c.as_slice.ensures
      c.as_slice-then-agree_on.ensures (c.agree_on.ensures.0 c.if-agree_on.true) (c.agree_on-then-agree_on.ensures.0 h),
  λ e. c.agree_on-then-agree_on.ensures.1 (agree_on_any (known c.args.own.now) c.args.a.now c.args.b.now _ _ e),
)
