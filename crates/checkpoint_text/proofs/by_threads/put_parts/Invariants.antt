use Rattle.std.proofs.Common.{◌≡◌, ◌++◌, length}
use Rattle.checkpoint_text.specs.Parts.{objects_text}
use Rattle.checkpoint_text.proofs.by_threads.put_parts.Given as goal

abbrev pub invariant-parts : goal.invariant-parts
invariant-parts g l = l.page ++ objects_text l.snapshot l.later ≡ l.fn.page ++ objects_text l.snapshot l.numbers

abbrev pub decreases-parts : goal.decreases-parts
decreases-parts g l = length l.later
