use Rattle.world.specs.Numbered.{signed_key}
use Rattle.world.proofs.DueWalks.{IsGathered, left}
use Rattle.world.proofs.moments.gather_due.Given as goal

abbrev pub invariant-loop-found : goal.invariant-loop-found
invariant-loop-found l = IsGathered signed_key l.now l.moments l.moment l.key l.ids.items

abbrev pub decreases-loop-found : goal.decreases-loop-found
decreases-loop-found l = left signed_key l.now l.moments l.moment l.key
