use Rattle.speculate.proofs.crew.guess_batch.Goals.{in-Some, in_default}
use Rattle.speculate.proofs.crew.guess_batch.Goals as goal

pub at-preserved : goal.at-preserved
at-preserved g c =
    elim c.match-guess_at.branch [
      | in-Some w ↦ rw w.found-is (w.note.ensures c.args.snapshot.now w.in-Some.ensures c.at.invariant)
      | in_default w ↦ rw w.found-is c.at.invariant
    ]
