-- Arguments of the kinds that a stage of a built-in function has fit it, and no others.
use Rattle.std.proofs.Common.{◌≡◌, ◌∙◌, refl, ap, ℕ, zero, suc, false, ◌||◌, List, [], ◌∷◌}
use Rattle.spec_value.specs.Datum.{Datum, object, text}
use Rattle.spec_world.specs.World.{move_native, create_native, recycle_native, eval_native}
use Rattle.spec_world.specs.WellFormed.{native_fits}
use Rattle.held_values.specs.Arguments.{one_object, two_objects, three_objects, one_text}

pub moves_to : (n : ℕ) (vs : List Datum) → n ≡ 1 → native_fits move_native n vs ≡ two_objects vs
moves_to n vs is = ap (λ k. native_fits move_native k vs) is ∙ go vs
  where
    go : (vs : List Datum) → native_fits move_native 1 vs ≡ two_objects vs
    go (object a ∷ object b ∷ []) = refl
    go _ = refl

pub moves_out : (n : ℕ) (vs : List Datum) → n ≡ 2 → native_fits move_native n vs ≡ three_objects vs
moves_out n vs is = ap (λ k. native_fits move_native k vs) is ∙ go vs
  where
    go : (vs : List Datum) → native_fits move_native 2 vs ≡ three_objects vs
    go (object a ∷ object b ∷ object c ∷ []) = refl
    go _ = refl

pub moves_in : (n : ℕ) (vs : List Datum) → n ≡ 3 → native_fits move_native n vs ≡ three_objects vs
moves_in n vs is = ap (λ k. native_fits move_native k vs) is ∙ go vs
  where
    go : (vs : List Datum) → native_fits move_native 3 vs ≡ three_objects vs
    go (object a ∷ object b ∷ object c ∷ []) = refl
    go _ = refl

pub moves_not : (n : ℕ) (vs : List Datum) → (n ≡ 1 → ⊥) → (n ≡ 2 → ⊥) → (n ≡ 3 → ⊥) → false ≡ native_fits move_native n vs
moves_not zero vs a b c = refl
moves_not (suc zero) vs a b c = absurd (a refl)
moves_not (suc (suc zero)) vs a b c = absurd (b refl)
moves_not (suc (suc (suc zero))) vs a b c = absurd (c refl)
moves_not (suc (suc (suc (suc n)))) vs a b c = refl

pub creates : (n : ℕ) (vs : List Datum) → n ≡ 1 → native_fits create_native n vs ≡ (two_objects vs || three_objects vs)
creates n vs is = ap (λ k. native_fits create_native k vs) is ∙ go vs
  where
    go : (vs : List Datum) → native_fits create_native 1 vs ≡ (two_objects vs || three_objects vs)
    go (object a ∷ object b ∷ []) = refl
    go (object a ∷ object b ∷ object c ∷ []) = refl
    go _ = refl

pub creates_not : (n : ℕ) (vs : List Datum) → (n ≡ 1 → ⊥) → false ≡ native_fits create_native n vs
creates_not zero vs a = refl
creates_not (suc zero) vs a = absurd (a refl)
creates_not (suc (suc n)) vs a = refl

pub recycles : (n : ℕ) (vs : List Datum) → n ≡ 1 → native_fits recycle_native n vs ≡ one_object vs
recycles n vs is = ap (λ k. native_fits recycle_native k vs) is ∙ go vs
  where
    go : (vs : List Datum) → native_fits recycle_native 1 vs ≡ one_object vs
    go (object a ∷ []) = refl
    go _ = refl

pub recycles_not : (n : ℕ) (vs : List Datum) → (n ≡ 1 → ⊥) → false ≡ native_fits recycle_native n vs
recycles_not zero vs a = refl
recycles_not (suc zero) vs a = absurd (a refl)
recycles_not (suc (suc n)) vs a = refl

pub evaluates : (n : ℕ) (vs : List Datum) → n ≡ 1 → native_fits eval_native n vs ≡ one_text vs
evaluates n vs is = ap (λ k. native_fits eval_native k vs) is ∙ go vs
  where
    go : (vs : List Datum) → native_fits eval_native 1 vs ≡ one_text vs
    go (text t ∷ []) = refl
    go _ = refl

pub evaluates_not : (n : ℕ) (vs : List Datum) → (n ≡ 1 → ⊥) → false ≡ native_fits eval_native n vs
evaluates_not zero vs a = refl
evaluates_not (suc zero) vs a = absurd (a refl)
evaluates_not (suc (suc n)) vs a = refl
