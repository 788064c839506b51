-- Tests, digits and escapes.
use Rattle.std.proofs.Common.{◌≡◌, ℕ, ◌+◌, ◌-◌, ◌*◌, ◌≤◌, Bool, true, false, cond, ◌&&◌, [], ◌∷◌, ◌++◌, Option, Some, refl, arith, inl, inr}
use Rattle.std.specs.Prelude.{◌||◌, ◌⊎◌, ◌==◌}
use Rattle.std.proofs.lemmas.Bool.Decides.{nat_tests}
use Rattle.std.specs.List.{list_all}
use Rattle.std.specs.Char.{is_ascii_digit}
use Rattle.spec_value.specs.Datum.{Text, is_character}
use Rattle.moo_token.specs.Tokens.{is_letter, is_word, is_name, is_digits, value_from, is_plain, Escapes, none, plain, escaped}

pub by_cond : {A : Type 0} (P : A → Type 0) (c : Bool) (x y : A) → (c ≡ true → P x) → (c ≡ false → P y) → P (cond c x y)
by_cond P true x y f g = f refl
by_cond P false x y f g = g refl

pub pick_true : {A : Type 0} (c : Bool) (x y : A) → c ≡ true → cond c x y ≡ x
pick_true true x y h = refl
pick_true false x y h = cc

pub pick_false : {A : Type 0} (c : Bool) (x y : A) → c ≡ false → cond c x y ≡ y
pick_false true x y h = cc
pick_false false x y h = refl

pub and_true : (a b : Bool) → (a && b) ≡ true → (a ≡ true) × (b ≡ true)
and_true true b h = (refl, h)
and_true false b h = cc

pub both_true : (a b : Bool) → a ≡ true → b ≡ true → (a && b) ≡ true
both_true true b h e = e
both_true false b h e = cc

pub or_false : (a b : Bool) → (a || b) ≡ false → (a ≡ false) × (b ≡ false)
or_false true b h = cc
or_false false b h = (refl, h)

pub both_false : (a b : Bool) → a ≡ false → b ≡ false → (a || b) ≡ false
both_false true b h e = cc
both_false false b h e = e

pub cond_false : (c : Bool) → (c ≡ true → ⊥) → c ≡ false
cond_false true h = absurd (h refl)
cond_false false h = refl

-- a chain of tests
pub tested : {A : Type 0} (c : Bool) (x m : A) (y : Option A) → cond c (Some x) y ≡ Some m → ((c ≡ true) × (x ≡ m)) ⊎ ((c ≡ false) × (y ≡ Some m))
tested true x m y h = inl (refl, (let e : x ≡ m = cc in e))
tested false x m y h = inr (refl, h)

pub all_snoc : (q : ℕ → Bool) (bs : Text) (b : ℕ) → list_all q bs ≡ true → q b ≡ true → list_all q (bs ++ b ∷ []) ≡ true
all_snoc q [] b h e = both_true (q b) true e refl
all_snoc q (c ∷ bs) b h e = let x = and_true (q c) (list_all q bs) h in both_true (q c) _ x.0 (all_snoc q bs b x.1 e)

pub all_has : (q : ℕ → Bool) (w more : Text) (b : ℕ) → list_all q (w ++ b ∷ more) ≡ true → q b ≡ true
all_has q [] more b h = (and_true (q b) (list_all q more) h).0
all_has q (x ∷ w) more b h = all_has q w more b (and_true (q x) (list_all q (w ++ b ∷ more)) h).1

pub value_snoc : (n : ℕ) (bs : Text) (b : ℕ) → value_from n (bs ++ b ∷ []) ≡ 10 * value_from n bs + (b - 48)
value_snoc n [] b = refl
value_snoc n (c ∷ bs) b = value_snoc (10 * n + (c - 48)) bs b

pub value_append : (n : ℕ) (bs cs : Text) → value_from n (bs ++ cs) ≡ value_from (value_from n bs) cs
value_append n [] cs = refl
value_append n (b ∷ bs) cs = value_append (10 * n + (b - 48)) bs cs

pub value_grows : (bs : Text) (n : ℕ) → n ≤ value_from n bs
value_grows [] n = omega arith
value_grows (b ∷ bs) n = omega (arith, value_grows bs (10 * n + (b - 48)))

pub name_snoc : (w : Text) (b : ℕ) → is_name w ≡ true → is_word b ≡ true → is_name (w ++ b ∷ []) ≡ true
name_snoc [] b h e = cc
name_snoc (c ∷ w) b h e = let x = and_true (is_letter c) (list_all is_word w) h in both_true (is_letter c) _ x.0 (all_snoc is_word w b x.1 e)

pub digits_snoc : (w : Text) (b : ℕ) → is_digits w ≡ true → is_ascii_digit b ≡ true → is_digits (w ++ b ∷ []) ≡ true
digits_snoc [] b h e = cc
digits_snoc (c ∷ w) b h e = let x = and_true (is_ascii_digit c) (list_all is_ascii_digit w) h in both_true (is_ascii_digit c) _ x.0 (all_snoc is_ascii_digit w b x.1 e)

pub digits_append : (w more : Text) → is_digits w ≡ true → list_all is_ascii_digit more ≡ true → is_digits (w ++ more) ≡ true
digits_append [] more h e = cc
digits_append (c ∷ w) more h e = let x = and_true (is_ascii_digit c) (list_all is_ascii_digit w) h in both_true (is_ascii_digit c) _ x.0 (all w more x.1 e)
  where
    all : (w more : Text) → list_all is_ascii_digit w ≡ true → list_all is_ascii_digit more ≡ true → list_all is_ascii_digit (w ++ more) ≡ true
    all [] more h e = e
    all (c ∷ w) more h e = let x = and_true (is_ascii_digit c) (list_all is_ascii_digit w) h in both_true (is_ascii_digit c) _ x.0 (all w more x.1 e)

-- in digits and more digits, the next is a digit
pub digits_next : (w more : Text) (b : ℕ) → is_digits w ≡ true → is_digits (w ++ b ∷ more) ≡ true → is_ascii_digit b ≡ true
digits_next [] more b h e = cc
digits_next (c ∷ w) more b h e = all_has is_ascii_digit w more b (and_true (is_ascii_digit c) _ e).1

pub escapes_snoc : {body s : Text} (b : ℕ) → Escapes body s → is_plain b ≡ true → Escapes (body ++ b ∷ []) (s ++ b ∷ [])
escapes_snoc b none h = plain b h none
escapes_snoc b (plain c e r) h = plain c e (escapes_snoc b r h)
escapes_snoc b (escaped c e r) h = escaped c e (escapes_snoc b r h)

pub escapes_escaped : {body s : Text} (b : ℕ) → Escapes body s → is_character b ≡ true → Escapes ((body ++ 92 ∷ []) ++ b ∷ []) (s ++ b ∷ [])
escapes_escaped b none h = escaped b h none
escapes_escaped b (plain c e r) h = plain c e (escapes_escaped b r h)
escapes_escaped b (escaped c e r) h = escaped c e (escapes_escaped b r h)

pub digit_not_letter : (b : ℕ) → is_ascii_digit b ≡ true → is_letter b ≡ false
digit_not_letter b h = grind (arith, nat_tests)

pub digit_not_minus : (b : ℕ) → is_ascii_digit b ≡ true → b ≡ 45 → ⊥
digit_not_minus b h e = grind (arith, nat_tests)

pub plain_is : (b : ℕ) → is_character b ≡ true → (b == 34) ≡ false → (b == 92) ≡ false → is_plain b ≡ true
plain_is b h q e = grind (arith, nat_tests)

pub plain_character : (b : ℕ) → is_plain b ≡ true → is_character b ≡ true
plain_character b h = (and_true (is_character b) _ h).0

pub plain_not_quote : (b : ℕ) → is_plain b ≡ true → (b == 34) ≡ false
plain_not_quote b h = grind (arith, nat_tests)

pub plain_not_slash : (b : ℕ) → is_plain b ≡ true → (b == 92) ≡ false
plain_not_slash b h = grind (arith, nat_tests)
