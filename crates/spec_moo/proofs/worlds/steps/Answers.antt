-- Steps and lists of steps.
use Rattle.spec_moo.proofs.StepWorlds.{steps_keep, lists_keep, next_follows, stays_well_formed, play_goes_on}
use Rattle.spec_moo.proofs.worlds.steps.Goals as goal

pub returns-clause-steps : goal.returns-clause-steps
returns-clause-steps c = steps_keep

pub returns-clause-lists : goal.returns-clause-lists
returns-clause-lists c = lists_keep

pub returns-clause-sum : goal.returns-clause-sum
returns-clause-sum c = play_goes_on

pub returns-clause-whole : goal.returns-clause-whole
returns-clause-whole c = stays_well_formed

pub returns-clause-next : goal.returns-clause-next
returns-clause-next c = next_follows
