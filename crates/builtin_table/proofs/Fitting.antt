-- Arguments of the sorts that a row wants, and then of those that it takes besides.
use Rattle.std.proofs.Common.{◌≡◌, ℕ, suc, ◌+◌, ◌≤◌, arith, List, [], ◌∷◌, ◌++◌, length, refl, ap, sym, ◌∙◌, true, length-append}
use Rattle.std.specs.Prelude.{Bool, ◌&&◌}
use Rattle.spec_value.specs.Datum.{Datum}
use Rattle.spec_moo.specs.Natives.Rows.{Sort, fits, all_fit}
use Rattle.builtin_table.specs.Sorts.{Fit}

-- where there are enough, they are one list of sorts
pub all_fit_in_turn : (ws fs : List Sort) (vs : List Datum) → length ws ≤ length vs → all_fit ws fs vs ≡ all_fit [] (ws ++ fs) vs
all_fit_in_turn [] fs vs h = refl
all_fit_in_turn (k ∷ ks) fs [] h = absurd (omega (arith, h))
all_fit_in_turn (k ∷ ks) fs (v ∷ vs) h = ap (λ b. fits k v && b) (all_fit_in_turn ks fs vs (omega (arith, h)))

-- and they are as many as are taken
pub fits_in_turn : (ws fs ks : List Sort) (vs : List Datum) → length ws ≤ length vs → length vs ≤ length ks → ks ≡ ws ++ fs → all_fit [] ks vs ≡ true → Fit ws fs vs
fits_in_turn ws fs ks vs fewest most so fit =
    let total : length ks ≡ length ws + length fs = ap length so ∙ length-append ws fs in
    record { fewest = fewest; most = omega (arith, most, total); kinds = all_fit_in_turn ws fs vs fewest ∙ ap (λ js. all_fit [] js vs) (sym so) ∙ fit }
