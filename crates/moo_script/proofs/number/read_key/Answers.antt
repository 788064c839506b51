use Rattle.std.proofs.Common.{◌≢◌, ◌<◌, ◌∙◌, length, length-set, arith, get_or-set_other, get_or-set_same, below_more}
use Rattle.moo_script.proofs.number.read_key.Goals as goal

pub loop-i-preserved : goal.loop-i-preserved
loop-i-preserved c = (
  length-set _ _ _ ∙ c.loop-i.invariant.0,
  below_more _ _
      (λ k h. let ne : k ≢ c.loop-i.i = omega arith in rw get_or-set_other (c.loop-i.invariant.1 k h))
      (let lt : c.loop-i.i < length c.loop-i.key = omega (arith, c.loop-i.invariant.0, c.loop-i-test.true, c.loop-i.auto.i-end) in rw get_or-set_same c.spelled_byte.ensures),
)
