use Rattle.std.proofs.Common.{◌≡◌, ◌<◌, ℕ, get_or}
use Rattle.std.specs.Char.{to_ascii_lowercase}
use Rattle.view.proofs.slots.is_folded.Given as goal

abbrev pub invariant-loop-index : goal.invariant-loop-index
invariant-loop-index l = (k : ℕ) → k < l.index → to_ascii_lowercase (get_or l.text k 0) ≡ get_or l.folded k 0
