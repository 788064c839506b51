use Rattle.std.proofs.Common.{◌≡◌, drop, map}
use Rattle.std.specs.Char.{to_ascii_lowercase}
use Rattle.std.specs.Cmp.Lexicographic.{slice_cmp}
use Rattle.std.specs.Ordering.{nat_cmp}
use Rattle.moo_value.proofs.compare.order_texts.Given as goal

abbrev pub invariant-loop-byte : goal.invariant-loop-byte
invariant-loop-byte l =
    slice_cmp nat_cmp (map to_ascii_lowercase (drop l.byte-index l.x)) (map to_ascii_lowercase l.rest)
    ≡ slice_cmp nat_cmp (map to_ascii_lowercase l.x) (map to_ascii_lowercase l.y)
