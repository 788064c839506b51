use Rattle.std.proofs.Common.{◌≡◌, true, take}
use Rattle.std.specs.List.{list_all}
use Rattle.spec_value.specs.Datum.{is_character}
use Rattle.telnet_line.proofs.line_buffer.kept_count.Given as goal

abbrev pub invariant-loop-place : goal.invariant-loop-place
invariant-loop-place l = list_all is_character (take l.place l.piece) ≡ true
