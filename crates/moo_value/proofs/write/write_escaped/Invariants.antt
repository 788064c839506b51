use Rattle.std.proofs.Common.{◌≡◌, ℕ, List, ◌++◌, drop}
use Rattle.std.specs.Fmt.{HasWritten, IsPlainFormatter}
use Rattle.spec_value.specs.Literal.{escaped}
use Rattle.moo_value.proofs.write.write_escaped.Given as goal

abbrev pub invariant-loop-byte : goal.invariant-loop-byte
invariant-loop-byte g l =
    (done : List ℕ) × (done ++ escaped (drop l.byte-index l.byte-items) ≡ escaped l.byte-items) × (IsPlainFormatter l.initial.f → HasWritten g.W.Write.write_str_gives l.initial.f done l.f)
