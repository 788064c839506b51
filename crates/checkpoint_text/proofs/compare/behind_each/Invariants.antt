use Rattle.spec_world.specs.Checkpoint.{object_lines}
use Rattle.checkpoint_text.proofs.Behind.{IsLeft}
use Rattle.checkpoint_text.proofs.compare.behind_each.Given as goal

abbrev pub invariant-loop-number : goal.invariant-loop-number
invariant-loop-number l = IsLeft (object_lines l.draft) l.draft.objects l.numbers l.number-index l.bytes l.left
