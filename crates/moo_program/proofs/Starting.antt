-- Of the names that every verb begins with, one at most has a length and a first character.
use Rattle.std.proofs.Common.{arith, ◌≡◌, ◌<◌, ◌≤◌, ◌&&◌, ℕ, zero, suc, Bool, true, false, cond, List, [], ◌∷◌, length, get_or, ⊎_elim, refl, sym, ap, subst, ◌∙◌}
use Rattle.std.specs.Bool.{nat_lt}
use Rattle.std.proofs.lemmas.Bool.{lt-ltb, ltb-true, cases_lt}
use Rattle.std.proofs.lemmas.Slice.Eq.{bytes_eq-Decides}
use Rattle.spec_value.specs.Datum.{Text, same_text}
use Rattle.moo_code.specs.Names.{starting_names}
use Rattle.moo_code.specs.Slots.{slot_of}
use Rattle.moo_program.specs.Names.{candidate, is_at}
use Rattle.moo_program.proofs.Slots.{starting_within}

-- a name stands where it is found
found_there : (names : List Text) (x : Text) → slot_of names x < length names → get_or names (slot_of names x) [] ≡ x
found_there [] x h = absurd (omega arith)
found_there (y ∷ ys) x h = by_test (same_text x y) refl (found_there ys x)
  where
    by_test : (b : Bool) → same_text x y ≡ b → (slot_of ys x < length ys → get_or ys (slot_of ys x) [] ≡ x) → get_or (y ∷ ys) (cond (same_text x y) 0 (suc (slot_of ys x))) [] ≡ x
    by_test true e more = ap (λ b. get_or (y ∷ ys) (cond b 0 (suc (slot_of ys x))) []) e ∙ sym ((bytes_eq-Decides x y).0 e)
    by_test false e more =
        let c : cond (same_text x y) 0 (suc (slot_of ys x)) ≡ suc (slot_of ys x) = ap (λ b. cond b 0 (suc (slot_of ys x))) e in
        ap (λ n. get_or (y ∷ ys) n []) c ∙ more (omega (arith, c, h))

abbrev name_at : ℕ → Text
name_at j = get_or starting_names j []

own_candidate : (j : ℕ) → j < 17 → candidate (name_at j) ≡ j
own_candidate zero h = refl
own_candidate (suc zero) h = refl
own_candidate (suc (suc zero)) h = refl
own_candidate (suc (suc (suc zero))) h = refl
own_candidate (suc (suc (suc (suc zero)))) h = refl
own_candidate (suc (suc (suc (suc (suc zero))))) h = refl
own_candidate (suc (suc (suc (suc (suc (suc zero)))))) h = refl
own_candidate (suc (suc (suc (suc (suc (suc (suc zero))))))) h = refl
own_candidate (suc (suc (suc (suc (suc (suc (suc (suc zero)))))))) h = refl
own_candidate (suc (suc (suc (suc (suc (suc (suc (suc (suc zero))))))))) h = refl
own_candidate (suc (suc (suc (suc (suc (suc (suc (suc (suc (suc zero)))))))))) h = refl
own_candidate (suc (suc (suc (suc (suc (suc (suc (suc (suc (suc (suc zero))))))))))) h = refl
own_candidate (suc (suc (suc (suc (suc (suc (suc (suc (suc (suc (suc (suc zero)))))))))))) h = refl
own_candidate (suc (suc (suc (suc (suc (suc (suc (suc (suc (suc (suc (suc (suc zero))))))))))))) h = refl
own_candidate (suc (suc (suc (suc (suc (suc (suc (suc (suc (suc (suc (suc (suc (suc zero)))))))))))))) h = refl
own_candidate (suc (suc (suc (suc (suc (suc (suc (suc (suc (suc (suc (suc (suc (suc (suc zero))))))))))))))) h = refl
own_candidate (suc (suc (suc (suc (suc (suc (suc (suc (suc (suc (suc (suc (suc (suc (suc (suc zero)))))))))))))))) h = refl
own_candidate (suc (suc (suc (suc (suc (suc (suc (suc (suc (suc (suc (suc (suc (suc (suc (suc (suc n))))))))))))))))) h = absurd (omega (arith, h))

own_slot : (j : ℕ) → j < 17 → slot_of starting_names (name_at j) ≡ j
own_slot zero h = refl
own_slot (suc zero) h = refl
own_slot (suc (suc zero)) h = refl
own_slot (suc (suc (suc zero))) h = refl
own_slot (suc (suc (suc (suc zero)))) h = refl
own_slot (suc (suc (suc (suc (suc zero))))) h = refl
own_slot (suc (suc (suc (suc (suc (suc zero)))))) h = refl
own_slot (suc (suc (suc (suc (suc (suc (suc zero))))))) h = refl
own_slot (suc (suc (suc (suc (suc (suc (suc (suc zero)))))))) h = refl
own_slot (suc (suc (suc (suc (suc (suc (suc (suc (suc zero))))))))) h = refl
own_slot (suc (suc (suc (suc (suc (suc (suc (suc (suc (suc zero)))))))))) h = refl
own_slot (suc (suc (suc (suc (suc (suc (suc (suc (suc (suc (suc zero))))))))))) h = refl
own_slot (suc (suc (suc (suc (suc (suc (suc (suc (suc (suc (suc (suc zero)))))))))))) h = refl
own_slot (suc (suc (suc (suc (suc (suc (suc (suc (suc (suc (suc (suc (suc zero))))))))))))) h = refl
own_slot (suc (suc (suc (suc (suc (suc (suc (suc (suc (suc (suc (suc (suc (suc zero)))))))))))))) h = refl
own_slot (suc (suc (suc (suc (suc (suc (suc (suc (suc (suc (suc (suc (suc (suc (suc zero))))))))))))))) h = refl
own_slot (suc (suc (suc (suc (suc (suc (suc (suc (suc (suc (suc (suc (suc (suc (suc (suc zero)))))))))))))))) h = refl
own_slot (suc (suc (suc (suc (suc (suc (suc (suc (suc (suc (suc (suc (suc (suc (suc (suc (suc n))))))))))))))))) h = absurd (omega (arith, h))

own_test : (j : ℕ) → j < 17 → same_text (name_at j) (name_at j) ≡ true
own_test j h = (bytes_eq-Decides (name_at j) (name_at j)).1 refl

both_are : (a b : Bool) → (a && b) ≡ true → (a ≡ true) × (b ≡ true)
both_are true b e = (refl, e)
both_are false b e = absurd (cc e)

pub is_candidate : (p : ℕ) (x : Text) → is_at p x ≡ true → p ≡ slot_of starting_names x
is_candidate p x e =
    let b = both_are (nat_lt p 17) (same_text x (name_at p)) e in
    let same : x ≡ name_at p = (bytes_eq-Decides x (name_at p)).0 b.1 in
    sym (ap (slot_of starting_names) same ∙ own_slot p (ltb-true p 17 b.0))

at_place : (x : Text) → slot_of starting_names x < 17 → is_at (candidate x) x ≡ true
at_place x h =
    let j = slot_of starting_names x in
    let same : name_at j ≡ x = found_there starting_names x h in
    subst (λ y. is_at (candidate y) y ≡ true) same
    (subst (λ n. is_at n (name_at j) ≡ true) (sym (own_candidate j h)) (ap (λ b. b && same_text (name_at j) (name_at j)) (lt-ltb j 17 h) ∙ own_test j h))

pub no_candidate : (p : ℕ) (x : Text) → p ≡ candidate x → is_at p x ≡ false → 17 ≡ slot_of starting_names x
no_candidate p x c e =
    ⊎_elim (λ h. absurd (not_both (is_at p x) (ap (λ n. is_at n x) c ∙ at_place x h) e))
    (λ h. omega (arith, h, starting_within x))
    (cases_lt (slot_of starting_names x) 17)
  where
    not_both : (b : Bool) → b ≡ true → b ≡ false → ⊥
    not_both b f g = cc
