-- The names of slots: the first ones, and a program's own behind them.
use Rattle.std.proofs.Common.{◌≡◌, ℕ, zero, suc, ◌+◌, ◌-◌, ◌≤◌, List, [], ◌∷◌, ◌++◌, length, Some, ap, ◌∙◌, refl, arith}
use Rattle.std.specs.Prelude.{slice_get}
use Rattle.spec_value.specs.Datum.{Text}
use Rattle.moo_code.specs.Names.{starting_names}
use Rattle.moo_program.specs.Names.{known}

got_first : (a b : List Text) (i : ℕ) (x : Text) → slice_get a i ≡ Some x → slice_get (a ++ b) i ≡ Some x
got_first [] b i x is = cc
got_first (y ∷ a) b zero x is = is
got_first (y ∷ a) b (suc i) x is = got_first a b i x is

got_behind : (a b : List Text) (n i : ℕ) → n ≡ length a + i → slice_get (a ++ b) n ≡ slice_get b i
got_behind [] b n i is = let e : n ≡ i = omega (arith, is) in ap (slice_get b) e
got_behind (y ∷ a) b zero i is = absurd (omega (arith, is))
got_behind (y ∷ a) b (suc n) i is = got_behind a b n i (omega (arith, is))

pub first_known : (own : List Text) (i : ℕ) (x : Text) → slice_get starting_names i ≡ Some x → slice_get (known own) i ≡ Some x
unfolding known
first_known own i x is = got_first starting_names own i x is

starting_count : length starting_names ≡ 17
starting_count = refl

pub own_known : (own : List Text) (i : ℕ) (x : Text) → 17 ≤ i → slice_get own (i - 17) ≡ Some x → slice_get (known own) i ≡ Some x
unfolding known
own_known own i x past is = got_behind starting_names own i (i - 17) (omega (arith, past, starting_count)) ∙ is
