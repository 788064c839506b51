use Rattle.std.proofs.Common.{◌≡◌, ◌≤◌, length}
use Rattle.view.proofs.Compared.{rests}
use Rattle.view.proofs.slots.compare.Given as goal

abbrev pub invariant-loop-index : goal.invariant-loop-index
invariant-loop-index l = (l.index ≤ length l.folded) × (rests l.text l.folded l.index ≡ rests l.text l.folded 0)
