-- The same names stand for the same table where slots and further variables agree, and only there.
use Rattle.std.proofs.Common.{◌≡◌, ◌∙◌, ap, sym, refl, suc, Bool, true, false, List, [], ◌∷◌, length, get_or, Option, Some, None, IsTrue, arith}
use Rattle.std.specs.Prelude.{slice_get, if◌then◌else◌}
use Rattle.std.proofs.lemmas.Option.{slice_get-get_or}
use Rattle.spec_value.specs.Datum.{Datum, Text}
use Rattle.spec_value.specs.Table.{Named, named, with_name}
use Rattle.spec_world.specs.WellFormed.{has_name, names_once}
use Rattle.moo_code.specs.Slots.{variables_over, others}
use Rattle.moo_code.proofs.Slots.{same_tables, slot_is_variable, others_have_none, others_named, others_sorted, others_stay}
use Rattle.moo_task.specs.Sameness.{SlotsAgree, FurtherAgree}

no_slots : (base : Named Datum) (names : List Text) → variables_over base names [] ≡ base
unfolding variables_over
no_slots base [] = refl
no_slots base (x ∷ names) = refl

slots_alike : (base : Named Datum) (names : List Text) (xs ys : List (Option Datum)) → SlotsAgree (length names) xs ys
    → variables_over base names xs ≡ variables_over base names ys
unfolding variables_over
slots_alike base [] xs ys h = refl
slots_alike base (x ∷ names) [] [] h = refl
slots_alike base (x ∷ names) [] (None ∷ ys) h =
    sym (no_slots base names) ∙ slots_alike base names [] ys (λ i small. h (suc i) (omega (arith, small)))
slots_alike base (x ∷ names) [] (Some v ∷ ys) h = let e : None ≡ Some v = h 0 (omega arith) in absurd (cc)
slots_alike base (x ∷ names) (None ∷ xs) [] h =
    slots_alike base names xs [] (λ i small. h (suc i) (omega (arith, small))) ∙ no_slots base names
slots_alike base (x ∷ names) (Some v ∷ xs) [] h = let e : Some v ≡ None = h 0 (omega arith) in absurd (cc)
slots_alike base (x ∷ names) (None ∷ xs) (None ∷ ys) h = slots_alike base names xs ys (λ i small. h (suc i) (omega (arith, small)))
slots_alike base (x ∷ names) (None ∷ xs) (Some v ∷ ys) h = let e : None ≡ Some v = h 0 (omega arith) in absurd (cc)
slots_alike base (x ∷ names) (Some v ∷ xs) (None ∷ ys) h = let e : Some v ≡ None = h 0 (omega arith) in absurd (cc)
slots_alike base (x ∷ names) (Some v ∷ xs) (Some u ∷ ys) h =
    let e : Some v ≡ Some u = h 0 (omega arith) in
    let same : v ≡ u = cc in
    ap (λ z. with_name (variables_over base names xs) x z) same
    ∙ ap (λ es. with_name es x u) (slots_alike base names xs ys (λ i small. h (suc i) (omega (arith, small))))

others_alike : (names : List Text) (fs gs : List (Text × Datum)) → FurtherAgree names fs gs → others names fs ≡ others names gs
others_alike names fs gs agree =
    same_tables (others names fs) (others names gs) (others_sorted names fs) (others_sorted names gs)
    (λ x. others_named names fs x ∙ go x (has_name names x) refl ∙ sym (others_named names gs x))
  where
    go : (x : Text) (b : Bool) → has_name names x ≡ b → (if b then None else named fs x) ≡ (if b then None else named gs x)
    go x true is = refl
    go x false is = agree x is

pub tables_agree : (names : List Text) (fs gs : List (Text × Datum)) (xs ys : List (Option Datum)) → SlotsAgree (length names) xs ys → FurtherAgree names fs gs
    → variables_over (others names fs) names xs ≡ variables_over (others names gs) names ys
tables_agree names fs gs xs ys slots further =
    slots_alike (others names fs) names xs ys slots ∙ ap (λ base. variables_over base names ys) (others_alike names fs gs further)

pub slots_agree : (names : List Text) (fs gs : List (Text × Datum)) (xs ys : List (Option Datum)) → IsTrue (names_once names)
    → variables_over (others names fs) names xs ≡ variables_over (others names gs) names ys → SlotsAgree (length names) xs ys
slots_agree names fs gs xs ys once e i small =
    let x : Text = get_or names i [] in
    let there : slice_get names i ≡ Some x = slice_get-get_or names i [] small in
    sym (slot_is_variable (others names fs) names xs i x (others_have_none names fs) once there) ∙ ap (λ t. named t x) e
    ∙ slot_is_variable (others names gs) names ys i x (others_have_none names gs) once there

pub further_agree : (names : List Text) (fs gs : List (Text × Datum)) (xs ys : List (Option Datum))
    → variables_over (others names fs) names xs ≡ variables_over (others names gs) names ys → FurtherAgree names fs gs
further_agree names fs gs xs ys e x none = sym (held fs xs) ∙ ap (λ t. named t x) e ∙ held gs ys
  where
    held : (hs : List (Text × Datum)) (zs : List (Option Datum)) → named (variables_over (others names hs) names zs) x ≡ named hs x
    held hs zs = others_stay (others names hs) names zs x none ∙ others_named names hs x ∙ ap (λ b. if b then None else named hs x) none
