-- The items that are taken out of a list.
use Rattle.std.proofs.Common.{◌≡◌, List, ap, sym, ◌∙◌}
use Rattle.std.specs.Prelude.{Result, Ok, Err, IfOk}
use Rattle.spec_value.specs.Datum.{Datum, Data, list, of_list, to_list}
use Rattle.moo_value.proofs.Listing.{to_list-of_list}

-- the items of what is shown to be a list
pub items_are : (xs : List Datum) (v : Datum) (args : Data) → list (of_list xs) ≡ v → v ≡ list args → xs ≡ to_list args
items_are xs v args is so = let same : of_list xs ≡ args = (cc) in sym (to_list-of_list xs) ∙ ap to_list same

pub items_taken : {A E : Type 0} (f : A → List Datum) (r : Result A E) (xs : List Datum) (v : Datum) → list (of_list xs) ≡ v
    → IfOk r (λ a. f a ≡ xs) → IfOk r (λ a. (args : Data) → v ≡ list args → f a ≡ to_list args)
items_taken f (Ok a) xs v is h = λ args so. h ∙ items_are xs v args is so
items_taken f (Err e) xs v is h = h
