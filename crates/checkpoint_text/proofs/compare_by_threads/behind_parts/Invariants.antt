use Rattle.std.proofs.Common.{length}
use Rattle.checkpoint_text.specs.Parts.{objects_text}
use Rattle.checkpoint_text.proofs.Behind.{AreLeft}
use Rattle.checkpoint_text.proofs.compare_by_threads.behind_parts.Given as goal

abbrev pub invariant-parts : goal.invariant-parts
invariant-parts g l = AreLeft (objects_text l.snapshot l.numbers) (objects_text l.snapshot l.later) l.bytes l.left

abbrev pub decreases-parts : goal.decreases-parts
decreases-parts g l = length l.later
