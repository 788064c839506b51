-- Values with the case of letters left out.
use Rattle.std.proofs.Common.{◌≡◌, ◌↔◌, ℕ, zero, suc, ◌<◌, Bool, IsTrue, List, [], ◌∷◌, length, get_or, map, refl, ap, arith}
use Rattle.spec_value.specs.Datum.{Datum, item, list, of_list}
use Rattle.spec_value.specs.Datum.{folded, folded_data}
use Rattle.moo_value.proofs.Listing.{list_inj}

pub folded_of_list : (ds : List Datum) → folded_data (of_list ds) ≡ of_list (map folded ds)
folded_of_list [] = refl
folded_of_list (d ∷ ds) = ap (item (folded d)) (folded_of_list ds)

pub same_folded : (xs ys : List Datum) (r : Bool) → (IsTrue r ↔ map folded xs ≡ map folded ys) → (IsTrue r ↔ folded (list (of_list xs)) ≡ folded (list (of_list ys)))
same_folded xs ys r h =
    rw (folded_of_list xs, folded_of_list ys) (λ t. ap (λ ds. list (of_list ds)) (h.0 t), λ e. h.1 (list_inj (map folded xs) (map folded ys) e))

pub folded_at : (xs ys : List Datum) (i : ℕ) (d e : Datum) → i < length xs → map folded xs ≡ map folded ys → folded (get_or xs i d) ≡ folded (get_or ys i e)
folded_at [] ys i d e h same = absurd (omega arith)
folded_at (x ∷ xs) [] i d e h same = cc
folded_at (x ∷ xs) (y ∷ ys) zero d e h same = cc
folded_at (x ∷ xs) (y ∷ ys) (suc i) d e h same = folded_at xs ys i d e (omega arith) (cc)
