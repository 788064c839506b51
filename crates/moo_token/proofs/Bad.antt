-- What a fault of the machine says of the text.
use Rattle.std.proofs.Common.{◌≡◌, ℕ, ◌-◌, ◌≤◌, Bool, true, false, [], ◌∷◌, ◌++◌, None, refl, sym, ap, ◌∙◌, subst, arith, append_assoc}
use Rattle.std.specs.Prelude.{◌==◌, nat_le, is_some}
use Rattle.std.proofs.lemmas.Bool.Decides.{nat_tests}
use Rattle.std.specs.List.{list_all}
use Rattle.std.specs.Char.{is_ascii_digit}
use Rattle.spec_value.specs.Datum.{Text}
use Rattle.moo_token.specs.declared.fault.FaultKind.TheVariants as k
use Rattle.moo_token.specs.Tokens.{integer, object, is_letter, is_digits, value_from, hash, max_number, max_object, Spells, is_at_digit, is_blank, is_first, sign_of, IsBad, too_large}
use Rattle.moo_token.proofs.Lists.{both_true, both_false, value_append, value_grows, digits_append}
use Rattle.moo_token.proofs.Longest.{number_longest, object_longest}

pub first_false : (b : ℕ) → is_letter b ≡ false → is_ascii_digit b ≡ false → (b == 34) ≡ false → is_blank b ≡ false → (b == 35) ≡ false → (b == 38) ≡ false → sign_of b ≡ None → is_first b ≡ false
first_false b l d q s h a g =
    both_false _ _ (both_false _ _ (both_false _ _ (both_false _ _ (both_false _ _ (both_false _ _ l d) q) s) h) a) (ap is_some g)

-- ---- numbers

-- the digits at the beginning
record Digits (bs : Text) : Type 0 where
  front : Text
  rest : Text
  is : bs ≡ front ++ rest
  all : list_all is_ascii_digit front ≡ true
  ends : is_at_digit rest ≡ false

one_digit : (b : ℕ) (bs : Text) (c : Bool) → is_ascii_digit b ≡ c → Digits bs → Digits (b ∷ bs)
one_digit b bs true e d = record { front = b ∷ d.front; rest = d.rest; is = ap (λ x. b ∷ x) d.is; all = both_true _ _ e d.all; ends = d.ends }
one_digit b bs false e d = record { front = []; rest = b ∷ bs; is = refl; all = refl; ends = e }

digits_of : (bs : Text) → Digits bs
digits_of [] = record { front = []; rest = []; is = refl; all = refl; ends = refl }
digits_of (b ∷ bs) = one_digit b bs (is_ascii_digit b) refl (digits_of bs)

grown : (w more : Text) (n max : ℕ) → value_from 0 w ≡ n → (n ≤ max → ⊥) → value_from 0 (w ++ more) ≤ max → ⊥
grown w more n max e h le = let g = value_grows more (value_from 0 w) in let a = value_append 0 w more in h (omega (arith, e, le, g, a))

pub number_bad : (w : Text) (n : ℕ) (rest : Text) → is_digits w ≡ true → value_from 0 w ≡ n → (n ≤ max_number → ⊥) → IsBad (w ++ rest) k.Number
number_bad w n rest h e large =
    let d = digits_of rest in
    let spells : Spells (w ++ d.front) (integer (value_from 0 (w ++ d.front))) = (digits_append w d.front h d.all, refl) in
    subst (λ x. IsBad x k.Number) (append_assoc w d.front d.rest ∙ ap (λ x. w ++ x) (sym d.is))
    (too_large (w ++ d.front) d.rest (integer (value_from 0 (w ++ d.front))) spells (grown w d.front n max_number e large) (number_longest (w ++ d.front) _ d.rest spells d.ends))

object_bad_in : (m : Bool) (ds : Text) (n : ℕ) (rest : Text) → is_digits ds ≡ true → value_from 0 ds ≡ n → (n ≤ max_object m → ⊥) → IsBad (hash m ++ (ds ++ rest)) k.Number
object_bad_in m ds n rest h e large =
    let d = digits_of rest in
    let spells : Spells (hash m ++ (ds ++ d.front)) (object m (value_from 0 (ds ++ d.front))) = (ds ++ d.front, refl, digits_append ds d.front h d.all, refl) in
    subst (λ x. IsBad x k.Number) (append_assoc (hash m) (ds ++ d.front) d.rest ∙ ap (λ x. hash m ++ x) (append_assoc ds d.front d.rest ∙ ap (λ x. ds ++ x) (sym d.is)))
    (too_large (hash m ++ (ds ++ d.front)) d.rest (object m (value_from 0 (ds ++ d.front))) spells (grown ds d.front n (max_object m) e large) (object_longest (hash m ++ (ds ++ d.front)) m _ d.rest spells d.ends))

pub object_bad : (w : Text) (m : Bool) (ds : Text) (n : ℕ) (rest : Text) → w ≡ hash m ++ ds → is_digits ds ≡ true → value_from 0 ds ≡ n → (n ≤ max_object m → ⊥) → IsBad (w ++ rest) k.Number
object_bad w m ds n rest i h e large = subst (λ x. IsBad x k.Number) (sym (append_assoc (hash m) ds rest) ∙ ap (λ x. x ++ rest) (sym i)) (object_bad_in m ds n rest h e large)

-- ---- tests of numbers

pub le_of : (n m : ℕ) → nat_le n m ≡ true → n ≤ m
le_of n m h = grind (arith, nat_tests)

pub not_le_of : (n m : ℕ) → nat_le n m ≡ false → n ≤ m → ⊥
not_le_of n m h le = grind (arith, nat_tests)

pub of_le : (n m : ℕ) → n ≤ m → nat_le n m ≡ true
of_le n m h = grind (arith, nat_tests)

pub of_not_le : (n m : ℕ) → (n ≤ m → ⊥) → nat_le n m ≡ false
of_not_le n m h = by_cases (nat_le n m) refl
  where
    by_cases : (c : Bool) → nat_le n m ≡ c → c ≡ false
    by_cases true e = absurd (h (le_of n m e))
    by_cases false e = refl

pub digit_small : (b : ℕ) → is_ascii_digit b ≡ true → b - 48 ≤ 9
digit_small b h = grind (arith, nat_tests)
