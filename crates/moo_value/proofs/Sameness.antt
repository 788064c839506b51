-- The test of sameness of the definitions is equality.
use Rattle.std.proofs.Common.{◌≡◌, ◌↔◌, ℕ, Bool, true, false, IsTrue, [], ◌∷◌, refl, ap, sym, ◌∙◌, arith, ◌&&◌, ◌==◌, ℤ, pos, negsuc, subst}
use Rattle.std.proofs.lemmas.Bool.Decides.{nat_tests}
use Rattle.std.specs.Ordering.{int_eq}
use Rattle.spec_value.specs.Datum.{ErrorCode, error_number, Text, same_text, Datum, integer, object, text, error, list, Data, no_data, item, same, same_data, folded}
use Rattle.spec_value.specs.DatumCode.{error_at, error_back}
use Rattle.spec_value.specs.Operators.{alike}

same_integers : (m n : ℤ) → IsTrue (int_eq m n) → m ≡ n
same_integers (pos m) (pos n) h = ap pos (grind (arith, nat_tests))
same_integers (pos m) (negsuc n) h = absurd (cc)
same_integers (negsuc m) (pos n) h = absurd (cc)
same_integers (negsuc m) (negsuc n) h = ap negsuc (grind (arith, nat_tests))

integer_itself : (m : ℤ) → IsTrue (int_eq m m)
integer_itself (pos m) = grind (arith, nat_tests)
integer_itself (negsuc m) = grind (arith, nat_tests)

first_passes : (a b : Bool) → IsTrue (a && b) → IsTrue a
first_passes true b h = refl
first_passes false b h = h

second_passes : (a b : Bool) → IsTrue (a && b) → IsTrue b
second_passes true b h = h
second_passes false b h = absurd (cc)

both_pass : (a b : Bool) → IsTrue a → IsTrue b → IsTrue (a && b)
both_pass true b h k = k
both_pass false b h k = h

number_same : (m n : ℕ) → IsTrue (m == n) → m ≡ n
number_same m n h = grind (arith, nat_tests)

number_itself : (m : ℕ) → IsTrue (m == m)
number_itself m = grind (arith, nat_tests)

same_texts : (s t : Text) → IsTrue (same_text s t) → s ≡ t
same_texts [] [] h = refl
same_texts [] (d ∷ t) h = absurd (cc)
same_texts (c ∷ s) [] h = absurd (cc)
same_texts (c ∷ s) (d ∷ t) h = λ i. number_same c d (first_passes (c == d) (same_text s t) h) i ∷ same_texts s t (second_passes (c == d) (same_text s t) h) i

text_itself : (s : Text) → IsTrue (same_text s s)
text_itself [] = refl
text_itself (c ∷ s) = both_pass (c == c) (same_text s s) (number_itself c) (text_itself s)

same_errors : (e f : ErrorCode) → IsTrue (error_number e == error_number f) → e ≡ f
same_errors e f h = sym (error_back e) ∙ ap error_at (number_same (error_number e) (error_number f) h) ∙ error_back f

mutual
  unfolding same same_data

  pub sound_same : (a b : Datum) → IsTrue (same a b) → a ≡ b
  sound_same (integer m) (integer n) h = ap integer (same_integers m n h)
  sound_same (object m) (object n) h = ap object (same_integers m n h)
  sound_same (text s) (text t) h = ap text (same_texts s t h)
  sound_same (error e) (error f) h = ap error (same_errors e f h)
  sound_same (list xs) (list ys) h = ap list (sound_same_data xs ys h)
  sound_same _ _ h = absurd (cc)

  pub sound_same_data : (xs ys : Data) → IsTrue (same_data xs ys) → xs ≡ ys
  sound_same_data no_data no_data h = refl
  sound_same_data (item x xs) (item y ys) h = λ i. item (sound_same x y (first_passes (same x y) (same_data xs ys) h) i) (sound_same_data xs ys (second_passes (same x y) (same_data xs ys) h) i)
  sound_same_data _ _ h = absurd (cc)

mutual
  unfolding same same_data

  pub same_itself : (a : Datum) → IsTrue (same a a)
  same_itself (integer m) = integer_itself m
  same_itself (object m) = integer_itself m
  same_itself (text s) = text_itself s
  same_itself (error e) = number_itself (error_number e)
  same_itself (list xs) = data_itself xs

  pub data_itself : (xs : Data) → IsTrue (same_data xs xs)
  data_itself no_data = refl
  data_itself (item x xs) = both_pass (same x x) (same_data xs xs) (same_itself x) (data_itself xs)

two_tests : (r b : Bool) → (IsTrue r → IsTrue b) → (IsTrue b → IsTrue r) → r ≡ b
two_tests true true f g = refl
two_tests true false f g = sym (f refl)
two_tests false true f g = g refl
two_tests false false f g = refl

pub equal_is : (a b : Datum) (r : Bool) → (IsTrue r ↔ a ≡ b) → r ≡ same a b
equal_is a b r h =
    let P : Datum → Type 0 = λ d. IsTrue (same a d) in
    two_tests r (same a b) (λ t. subst P (h.0 t) (same_itself a)) (λ t. h.1 (sound_same a b t))

pub alike_is : (a b : Datum) (r : Bool) → (IsTrue r ↔ folded a ≡ folded b) → r ≡ alike a b
alike_is a b r h = equal_is (folded a) (folded b) r h
