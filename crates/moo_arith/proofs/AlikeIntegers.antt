-- Two integers that are alike.
use Rattle.std.proofs.Common.{◌≡◌, refl, ℤ}
use Rattle.std.specs.Ordering.{int_cmp, is_eq}
use Rattle.spec_value.specs.Datum.{integer, same}
use Rattle.spec_value.specs.Operators.{alike}

pub alike_integers : (m n : ℤ) → alike (integer m) (integer n) ≡ is_eq (int_cmp m n)
unfolding same
alike_integers m n = refl
