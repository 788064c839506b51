use Rattle.std.proofs.Common.{◌≡◌}
use Rattle.speculate.proofs.Recorded.{right_at, same_home, home_agrees, home_covers}
use Rattle.speculate.proofs.guessing.guess_in.Goals as goal

pub invariant_of-result : goal.invariant_of-result
invariant_of-result c =
    let home : c.of.result.value ≡ c.run_step.new.view.home =
    same_home c.args.snapshot.now c.of.result.value c.over-view.result c.run_step.new.view c.over-view.ensures.empty c.run_step.ensures.home c.of.ensures in
    let right = right_at c.args.snapshot.now c.args.step.now _ c.over-view.result c.run_step.new.view _ _ _ c.over-view.ensures.empty c.in_ok-clone.ensures.cases
    c.in_ok-found.ensures.reads c.in_ok-found.ensures.changes c.in_ok-outcome.ensures.played in (
      right,
      home_agrees c.of.result.value c.run_step.new.view c.in_ok-found.found.0 home c.in_ok-found.ensures.reads c.in_ok-found.ensures.agrees,
      home_covers c.of.result.value c.run_step.new.view c.in_ok-found.found.0 c.in_ok-found.found.2 home c.in_ok-found.ensures.reads c.in_ok-found.ensures.covers,
    )

pub returns-clause-right : goal.returns-clause-right
returns-clause-right c =
    right_at c.args.snapshot.now c.args.step.now _ c.over-view.result c.run_step.new.view _ _ _ c.over-view.ensures.empty c.in_ok-clone.ensures.cases
    c.in_ok-found.ensures.reads c.in_ok-found.ensures.changes c.in_ok-outcome.ensures.played
