use Rattle.std.proofs.Common.{◌≡◌, ℕ, suc, arith, List, [], ◌∷◌, length, true, not, refl, ◌==◌}
use Rattle.std.proofs.lemmas.Bool.Decides.{nat_tests}
use Rattle.spec_value.specs.Datum.{Datum, list, of_list, is_true}
use Rattle.moo_value.proofs.value.Value.is_true.Goals as goal

not_zero : (n : ℕ) → not (suc n == 0) ≡ true
not_zero n = grind (arith, nat_tests)

nonempty : (ds : List Datum) → not (length ds == 0) ≡ is_true (list (of_list ds))
nonempty [] = refl
nonempty (d ∷ ds) = not_zero (length ds)

pub returns-in-List : goal.returns-in-List
returns-in-List c = rw (← c.in-List.ensures, c.is_empty-in-List.ensures) (nonempty c.in-List.items.now)
