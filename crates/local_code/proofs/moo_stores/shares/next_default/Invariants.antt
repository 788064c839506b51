use Rattle.std.proofs.Common.{◌≡◌, List}
use Rattle.spec_value.specs.Datum.{Text}
use Rattle.spec_moo.specs.Effects.Scatter.{missing}
use Rattle.local_code.specs.Giving.{items_meant}
use Rattle.local_code.proofs.moo_stores.shares.next_default.Given as goal

abbrev pub invariant-loop-i : goal.invariant-loop-i
invariant-loop-i l = (names : List Text) → missing l.done (items_meant names l.items) l.shares ≡ missing l.i (items_meant names l.items) l.shares
