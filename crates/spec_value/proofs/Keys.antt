-- A new value at a key that is there leaves the keys as they are.
use Rattle.std.proofs.Common.{◌≡◌, suc, ◌+◌, Bool, true, false, List, [], ◌∷◌, map, length, Some, refl, ap, ◌∙◌, cond, arith, is_some, is_eq, IsTrue, Ordering, Less, Equal, Greater}
use Rattle.std.specs.Prelude.{T}
use Rattle.std.specs.Cmp.{IsTotalOrder}
use Rattle.std.specs.FinMap.{find, put, is_sorted}
use Rattle.std.specs.FinMap.Entries.{by_order, length-put, is_sorted-put}
use Rattle.spec_value.proofs.Entries.{second_holds}

pub as_type : (b : Bool) → IsTrue b → T b
as_type true h = tt
as_type false h = cc

pub as_test : (b : Bool) → T b → IsTrue b
as_test true h = refl
as_test false h = absurd h

module _ {K X : Type 0} {R : K → K → Ordering} (o : IsTotalOrder R) where
  pub still_sorted : (k : K) (v : X) (es : List (K × X)) → IsTrue (is_sorted R es) → IsTrue (is_sorted R (put R k v es))
  still_sorted k v es h = as_test _ (is_sorted-put R o k v es (as_type _ h))

  pub keys_put : (k : K) (v : X) (es : List (K × X)) → IsTrue (is_sorted R es) → IsTrue (is_some (find R k es)) → map (λ e. e.0) (put R k v es) ≡ map (λ e. e.0) es
  keys_put k v [] h is = cc
  keys_put k v (e ∷ es) h is = go (R k e.0) (keys_put k v es (second_holds _ _ h)) (length-put R o k v (e ∷ es) (as_type _ h)) is
    where
      go : (r : Ordering) → (IsTrue (is_some (find R k es)) → map (λ e. e.0) (put R k v es) ≡ map (λ e. e.0) es)
          → length (by_order r ((k, v) ∷ e ∷ es) ((e.0, v) ∷ es) (e ∷ put R k v es)) ≡ cond (is_some (cond (is_eq r) (Some e.1) (find R k es))) (suc (length es)) (suc (length es) + 1)
          → IsTrue (is_some (cond (is_eq r) (Some e.1) (find R k es)))
          → map (λ e. e.0) (by_order r ((k, v) ∷ e ∷ es) ((e.0, v) ∷ es) (e ∷ put R k v es)) ≡ e.0 ∷ map (λ e. e.0) es
      go Less later n is = let m : suc (suc (length es)) ≡ suc (length es) = n ∙ ap (λ b. cond b (suc (length es)) (suc (length es) + 1)) is in absurd (omega (arith, m))
      go Equal later n is = refl
      go Greater later n is = λ i. e.0 ∷ later is i
