use Rattle.std.proofs.Common.{◌≡◌, List, length, Option}
use Rattle.spec_value.specs.Datum.{Datum, Text}
use Rattle.spec_moo.specs.Effects.Scatter.{missing}
use Rattle.local_code.specs.Giving.{items_meant}
use Rattle.local_code.proofs.moo_stores.wanted.next_default.Given as goal

abbrev pub invariant-loop-i : goal.invariant-loop-i
invariant-loop-i l = (names : List Text) (vs : List (Option Datum)) → length vs ≡ length l.items → missing l.done (items_meant names l.items) vs ≡ missing l.i (items_meant names l.items) vs
