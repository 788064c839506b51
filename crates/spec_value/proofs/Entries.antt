-- What a test of each entry of a table says of what is found there.
use Rattle.std.proofs.Common.{◌≡◌, ℤ, Bool, true, false, [], ◌∷◌, Some, refl, sym, ap, subst, int_cmp, is_eq, cond, Ordering, Less, Equal, Greater, IsTrue, ◌&&◌, unwrap_or}
use Rattle.std.specs.FinMap.{int_cmp-IsAntisymmetric}
use Rattle.std.specs.List.{list_all}
use Rattle.spec_value.specs.Table.{Numbered, at}

pub first_holds : (a b : Bool) → IsTrue (a && b) → IsTrue a
first_holds true b h = refl
first_holds false b h = h

pub second_holds : (a b : Bool) → IsTrue (a && b) → IsTrue b
second_holds true b h = h
second_holds false true h = refl
second_holds false false h = h

pub both_hold : (a b : Bool) → IsTrue a → IsTrue b → IsTrue (a && b)
both_hold true b h k = k
both_hold false b h k = h

module _ {X : Type 0} (p : ℤ → X → Bool) where
  -- a test that each entry passes is passed by what is found
  pub each_entry : (es : Numbered X) → IsTrue (list_all (λ e. p e.0 e.1) es) → (k : ℤ) (x : X) → at es k ≡ Some x → IsTrue (p k x)
  each_entry [] h k x is = cc
  each_entry (e ∷ es) h k x is = go (each_entry es (second_holds (p e.0 e.1) _ h) k x) (int_cmp k e.0) refl is
    where
      go : (at es k ≡ Some x → IsTrue (p k x)) → (r : Ordering) → int_cmp k e.0 ≡ r → cond (is_eq r) (Some e.1) (at es k) ≡ Some x → IsTrue (p k x)
      go later Less t found = later found
      go later Greater t found = later found
      go later Equal t found =
          subst (λ y. IsTrue (p k y)) (ap (λ o. unwrap_or o e.1) found)
          (subst (λ j. IsTrue (p j e.1)) (sym (int_cmp-IsAntisymmetric k e.0 t)) (first_holds (p e.0 e.1) _ h))
