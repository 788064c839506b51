use Rattle.speculate.proofs.Plays.{nothing_played}
use Rattle.speculate.proofs.list.run_list.Goals as goal

pub returns-then-workers-eq0-clause-part : goal.returns-then-workers-eq0-clause-part
returns-then-workers-eq0-clause-part g c =
    nothing_played c.args.world c.refused.result.world c.args.steps.now c.refused.result.count c.refused.result.outcomes.items c.refused.ensures.3 c.refused.ensures.1 c.refused.ensures.2

pub returns-then-not-may_play-clause-part : goal.returns-then-not-may_play-clause-part
returns-then-not-may_play-clause-part g c =
    let r = c.refused-then-not-may_play in
    nothing_played c.args.world r.result.world c.args.steps.now r.result.count r.result.outcomes.items r.ensures.3 r.ensures.1 r.ensures.2
