use Rattle.std.proofs.Common.{◌≡◌, drop}
use Rattle.spec_value.specs.Datum.{of_list}
use Rattle.spec_moo.specs.Leaving.{among}
use Rattle.local_code.proofs.moo_unwind.codes.is_among.Given as goal

abbrev pub invariant-loop-item : goal.invariant-loop-item
invariant-loop-item l = among l.code (of_list l.items) ≡ among l.code (of_list (drop l.item-index l.items))
