use Rattle.std.proofs.Common.{◌≡◌, ◌++◌, List, length, drop, IsTrue}
use Rattle.spec_value.specs.Datum.{Text}
use Rattle.spec_checkpoint.specs.Lines.{are_lines}
use Rattle.checkpoint_lines.specs.Rows.{Left}
use Rattle.checkpoint_lines.specs.Told.{HasRoom}
use Rattle.checkpoint_lines.proofs.LinesPassed.{Passed}
use Rattle.checkpoint_lines.proofs.lines.Lines.next_lines.Given as goal

abbrev pub invariant-lines : goal.invariant-lines
invariant-lines l =
    ((ts rest : List Text) → IsTrue (are_lines ts) → l.fn.count ≡ length ts → Left l.fn.self (ts ++ rest) → Left l.self (drop l._line ts ++ rest))
    × (HasRoom l.fn.self → Passed l.fn.self l.self l._line)
