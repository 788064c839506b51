use Rattle.world_checks.proofs.task_checks.task.begins_fitting.Goals as goal

pub returns-in-Verb-clause-finds : goal.returns-in-Verb-clause-finds
returns-in-Verb-clause-finds c found =
    let those = rw c.in-Verb.is at found in
    c.beginning_fits.ensures.finds those.0 those.1 those.2
