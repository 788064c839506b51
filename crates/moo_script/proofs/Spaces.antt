-- Where the first space of a line stands.
use Rattle.std.proofs.Common.{◌≡◌, ℕ, suc, ◌+◌, ◌-◌, ◌<◌, ◌≤◌, Bool, true, false, not, cond, ◌&&◌, ◌==◌, nat_lt, IsTrue, List, [], ◌∷◌, ◌++◌, length, take, drop, get_or, refl, sym, ap, ◌∙◌, arith, Some, None, position, unwrap_or, zero, length-append, length-take, take-append-drop, drop-cons, length-drop}
use Rattle.std.specs.List.{list_all, prefix_len}
use Rattle.std.proofs.lemmas.Bool.Decides.{nat_tests}
use Rattle.std.proofs.lemmas.Bool.{eqb-true}
use Rattle.std.proofs.lemmas.List.{take_all}
use Rattle.std.proofs.lemmas.List.Sums.{prefix_len_passes}
use Rattle.std.proofs.lemmas.List.Quantifiers.{position-Some}
use Rattle.moo_script.specs.Lines.{is_field}

abbrev space : ℕ → Bool
space b = b == 32

abbrev plain : ℕ → Bool
plain b = not (b == 32)

both : (a b : Bool) → (a && b) ≡ true → (a ≡ true) × (b ≡ true)
both true b h = (refl, h)
both false b h = cc

-- behind bytes without a space
count_plain : (f t : List ℕ) → list_all plain f ≡ true → prefix_len plain (f ++ 32 ∷ t) ≡ length f
count_plain [] t h = refl
count_plain (b ∷ f) t h =
    let k = both (plain b) (list_all plain f) h in
    ap (λ p. cond p (1 + prefix_len plain (f ++ 32 ∷ t)) 0) k.0 ∙ ap (λ n. 1 + n) (count_plain f t k.1) ∙ (let e : 1 + length f ≡ suc (length f) = omega arith in e)

space_at : (f t : List ℕ) → list_all plain f ≡ true → position space (f ++ 32 ∷ t) ≡ Some (length f)
space_at f t h =
    let e = count_plain f t h in
    let l : length f < length (f ++ 32 ∷ t) = omega (arith, length-append f (32 ∷ t)) in
    let s : nat_lt (length f) (length (f ++ 32 ∷ t)) ≡ true = grind (arith, nat_tests) in
    ap (λ n. cond (nat_lt n (length (f ++ 32 ∷ t))) (Some n) None) e ∙ ap (λ b. cond b (Some (length f)) None) s

pub after_field : (f t : List ℕ) → IsTrue (is_field f) → position space (f ++ 32 ∷ t) ≡ Some (length f)
after_field f t h = space_at f t (both (nat_lt 0 (length f)) (list_all plain f) h).1

-- no space, no field before one
pub no_space : (bs f t : List ℕ) → position space bs ≡ None → IsTrue (is_field f) → bs ≡ f ++ 32 ∷ t → ⊥
no_space bs f t e h k =
    let x : None ≡ Some (length f) = sym e ∙ ap (position space) k ∙ after_field f t h in cc

-- nor where the first byte is one
pub space_first : (bs f t : List ℕ) → position space bs ≡ Some 0 → IsTrue (is_field f) → bs ≡ f ++ 32 ∷ t → ⊥
space_first bs f t e h k =
    let p = both (nat_lt 0 (length f)) (list_all plain f) h in
    let x : Some 0 ≡ Some (length f) = sym e ∙ ap (position space) k ∙ after_field f t h in
    let n : 0 ≡ length f = ap (λ o. unwrap_or o 0) x in
    let q = p.0 in grind (arith, nat_tests)

not_true : (b : Bool) → not b ≡ true → b ≡ false
not_true true h = cc
not_true false h = refl

all_taken : (e : ℕ) (bs : List ℕ) (n : ℕ) → n ≤ length bs → ((k : ℕ) → k < n → (get_or bs k 0 == e) ≡ false) → list_all (λ b. not (b == e)) (take n bs) ≡ true
all_taken e bs zero l h = refl
all_taken e [] (suc n) l h = refl
all_taken e (b ∷ bs) (suc n) l h =
    let first : (b == e) ≡ false = h 0 (omega arith) in
    let rest = all_taken e bs n (omega arith) (λ k s. h (suc k) (omega arith)) in
    ap (λ x. not x && list_all (λ b. not (b == e)) (take n bs)) first ∙ rest

-- where a byte does not stand
pub nowhere : (e : ℕ) (bs : List ℕ) → None ≡ position (λ b. b == e) bs → list_all (λ b. not (b == e)) bs ≡ true
nowhere e bs h =
    let n = prefix_len (λ b. not (b == e)) bs in
    let le : length bs ≤ prefix_len (λ b. not (b == e)) bs = elim (nat_lt (prefix_len (λ b. not (b == e)) bs) (length bs)) as (λ x. nat_lt (prefix_len (λ b. not (b == e)) bs) (length bs) ≡ x → None ≡ cond x (Some (prefix_len (λ b. not (b == e)) bs)) None → length bs ≤ prefix_len (λ b. not (b == e)) bs) [ true ↦ λ t k. cc | false ↦ λ t k. grind (arith, nat_tests) ] refl h in
    ap (list_all (λ b. not (b == e))) (sym (take_all (length bs) bs (omega arith))) ∙ all_taken e bs (length bs) (omega arith) (λ k s. not_true (get_or bs k 0 == e) (prefix_len_passes (λ b. not (b == e)) bs k 0 (omega (arith, s, le))))

-- what stands before a byte's first place, and behind it
pub parts : (e : ℕ) (bs : List ℕ) (n : ℕ) → Some n ≡ position (λ b. b == e) bs → (list_all (λ b. not (b == e)) (take n bs) ≡ true) × (bs ≡ take n bs ++ e ∷ take (length bs - (n + 1)) (drop (n + 1) bs))
parts e bs n f =
    let p = position-Some (λ b. b == e) bs n 0 (sym f) in
    let byte : get_or bs n 0 ≡ e = eqb-true (get_or bs n 0) e p.1 in
    let whole : take (length bs - (n + 1)) (drop (n + 1) bs) ≡ drop (n + 1) bs = take_all _ _ (omega (arith, length-drop (n + 1) bs)) in (
      all_taken e bs n (omega (arith, p.0)) p.2,
      sym (take-append-drop n bs) ∙ ap (λ r. take n bs ++ r) (drop-cons bs n 0 p.0 ∙ ap (λ b. b ∷ drop (suc n) bs) byte ∙ ap (λ m. e ∷ drop m bs) (let s : suc n ≡ n + 1 = omega arith in s) ∙ ap (λ r. e ∷ r) (sym whole)),
    )

-- the field before the first space
pub field_parts : (bs : List ℕ) (n : ℕ) → Some n ≡ position space bs → (n ≡ 0 → ⊥) → IsTrue (is_field (take n bs)) × (bs ≡ take n bs ++ 32 ∷ take (length bs - (n + 1)) (drop (n + 1) bs))
field_parts bs n e h =
    let p = parts 32 bs n e in
    let l : n < length bs = (position-Some space bs n 0 (sym e)).0 in
    let long : length (take n bs) ≡ n = omega (arith, l, length-take n bs) in
    let some : nat_lt 0 (length (take n bs)) ≡ true = (let q : 0 < length (take n bs) = omega (arith, long, h) in grind (arith, nat_tests)) in
    (ap (λ b. b && list_all plain (take n bs)) some ∙ p.0, p.1)
