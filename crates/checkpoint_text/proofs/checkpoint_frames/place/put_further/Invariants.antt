use Rattle.std.proofs.Common.{◌≡◌, ◌++◌, drop}
use Rattle.checkpoint_text.specs.CheckpointFramesLines.{dotted}
use Rattle.checkpoint_text.proofs.checkpoint_frames.place.put_further.Given as goal

abbrev pub invariant-loop-number : goal.invariant-loop-number
invariant-loop-number l = l.page ++ dotted (drop l.number-index l.numbers) ≡ l.fn.page ++ dotted l.numbers
