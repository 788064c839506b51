use Rattle.std.proofs.Common.{◌∙◌, arith}
use Rattle.speculate.proofs.Plays.{nothing_played, runs_few}
use Rattle.speculate.proofs.several.play_by_several.Goals as goal

pub returns-in_default-clause-part : goal.returns-in_default-clause-part
returns-in_default-clause-part g c =
    let r = c.refused in
    nothing_played c.args.world r.result.world c.args.steps.now r.result.count r.result.outcomes.items r.ensures.3 r.ensures.1 r.ensures.2

pub returns-in-Err-clause-part : goal.returns-in-Err-clause-part
returns-in-Err-clause-part g c =
    let r = c.refused-in-Err in
    nothing_played c.args.world r.result.world c.args.steps.now r.result.count r.result.outcomes.items r.ensures.3 (r.ensures.1 ∙ c.in-Err.ensures.err) r.ensures.2

pub new-requires : goal.new-requires
new-requires g c = omega (arith, runs_few c.args.world.plain c.args.steps.now c.requires.runs.0 c.requires.runs.1)
