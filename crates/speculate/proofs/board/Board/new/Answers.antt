use Rattle.std.proofs.Common.{◌≡◌, length, vec_len, refl, arith}
use Rattle.spec_world.specs.Step.{RunsOn, AllInRange}
use Rattle.speculate.proofs.Honest.{opened_honest}
use Rattle.speculate.proofs.Stamped.{stamped_first}
use Rattle.speculate.proofs.board.Board.new.Goals as goal

pub invariant_of-result : goal.invariant_of-result
invariant_of-result c =
    let fit : RunsOn c.args.world.plain c.args.steps.items × AllInRange c.args.steps.items = rw (c.next.ensures, c.as_slice.ensures.value) at (c.if-not-may_play.ensures.0 refl) in
    let h = opened_honest c.args.world c.args.steps.items c.know.ensures fit.0 fit.1 in
    let e : vec_len c.args.steps ≡ length c.args.steps.items = omega arith in
    rw (c.in-Ok.ensures.0, c.in-Ok.ensures.1, c.in-Ok.ensures.2, c.of.ensures, c.len.ensures, c.zero.ensures, e) (h, stamped_first c.args.world.plain c.args.steps.items c.new.result)
